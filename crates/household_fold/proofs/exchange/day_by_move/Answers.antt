-- That `day_by_move` keeps its contract.
use Rattle.std.proofs.Common.{Option, subst, sym, ◌∙◌}
use Rattle.agent_events.specs.declared.trade.Why.{Why}
use Rattle.register_machine.specs.replay.Trades.{day_unless}
use Rattle.household_fold.specs.Exchanges.{day_moved}
use Rattle.household_fold.specs.Numbers.{AreNumbersWithin}
use Rattle.household_fold.proofs.exchange.day_by_move.Goals as goal

pub move_shares-requires-clause-lots : goal.move_shares-requires-clause-lots
move_shares-requires-clause-lots c =
    subst (λ (o : Option Why). AreNumbersWithin (day_unless o c.args.day.now c.args.trade.now (day_moved c.args.facts.now c.args.day.now c.args.trade.now c.args.shares.now c.args.moved.now)).register)
    (sym c.refusal_of.ensures ∙ c.in-None.is) c.requires.lots
