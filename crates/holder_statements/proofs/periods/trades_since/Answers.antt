-- That `trades_since` keeps its contract.
use Rattle.std.proofs.Common.{ap, filter, rules, ◌∙◌}
use Rattle.register_machine.specs.queries.Statement.{is_in_period}
use Rattle.holder_statements.proofs.PeriodFacts.{cut_before}
use Rattle.holder_statements.proofs.periods.trades_since.Goals as goal

pub returns : goal.returns
returns c =
    ap (filter (is_in_period c.args.form.now)) c.rest.ensures
    ∙ cut_before c.args.form.now c.args.trades.now c.place_of.result _ c.requires (search rules) c.place_of.ensures.point
