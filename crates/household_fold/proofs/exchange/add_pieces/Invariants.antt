-- What holds at each turn of the loops of `add_pieces`.
use Rattle.std.proofs.Common.{drop, fold, ◌+◌, ◌≡◌, ◌≤◌}
use Rattle.fund_exchange.specs.Exchange as moving
use Rattle.register_machine.specs.replay.Exchange.{holding_with_piece}
use Rattle.register_machine.specs.replay.Positions.{mils_of}
use Rattle.share_lots.specs.Lots.{cost_total, most_cost, most_mils}
use Rattle.household_fold.proofs.exchange.add_pieces.Given as goal

abbrev pub invariant-loop-piece : goal.invariant-loop-piece
invariant-loop-piece l =
    (fold holding_with_piece l.holding (drop l.piece-index l.fn.given) ≡ fold holding_with_piece l.fn.holding l.fn.given)
    × (mils_of l.holding + moving.mils_total (drop l.piece-index l.fn.given) ≤ most_mils)
    × (cost_total l.holding + moving.cost_total (drop l.piece-index l.fn.given) ≤ most_cost)
