-- That `trades_until` keeps its contract.
use Rattle.std.proofs.Common.{List, ap, filter, rules, subst, sym, ◌∙◌}
use Rattle.agent_events.specs.declared.trade.Trade.{Trade}
use Rattle.register_machine.specs.queries.Statement.{is_in_period}
use Rattle.holder_statements.proofs.PeriodFacts.{cut_behind, dated_take}
use Rattle.holder_statements.specs.Periods.{AreDated}
use Rattle.holder_statements.proofs.periods.trades_until.Goals as goal

pub returns-clause-period : goal.returns-clause-period
returns-clause-period c =
    ap (filter (is_in_period c.args.form.now)) c.front.ensures
    ∙ cut_behind c.args.form.now c.args.trades.now c.place_of.result _ c.requires (search rules) c.place_of.ensures.point

pub returns-clause-dated : goal.returns-clause-dated
returns-clause-dated c =
    subst (λ (trades : List Trade). AreDated trades) (sym c.front.ensures) (dated_take c.args.trades.now c.place_of.result c.requires)
