-- What holds at each turn of the loops of `any_letter_over`.
use Rattle.std.proofs.Common.{false, take, ◌≡◌}
use Rattle.std.specs.List.{list_any}
use Rattle.register_machine.specs.replay.Letter.{has_letter_over}
use Rattle.household_fold.specs.Facts.{sheet_at_hand}
use Rattle.household_fold.proofs.quiet.any_letter_over.Given as goal

abbrev pub invariant-loop-position : goal.invariant-loop-position
invariant-loop-position l = list_any (has_letter_over (sheet_at_hand l.fn.facts)) (take l.position-index l.fn.positions) ≡ false
