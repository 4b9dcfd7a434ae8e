-- What holds at each turn of the loops of `day_after_ends_of`.
use Rattle.std.proofs.Common.{fold, take, ◌≡◌}
use Rattle.register_machine.specs.replay.Letter.{day_after_letter_end}
use Rattle.household_fold.specs.Facts.{book_of_facts, sheet_at_hand}
use Rattle.household_fold.specs.Limits.{AreLettersWithin}
use Rattle.household_fold.proofs.letters.day_after_ends_of.Given as goal

abbrev pub invariant-loop-key : goal.invariant-loop-key
invariant-loop-key l = record {
  so_far : l.day ≡ fold (day_after_letter_end (book_of_facts l.facts) (sheet_at_hand l.facts)) l.fn.day (take l.key-index l.keys);
  within : AreLettersWithin l.day.register;
}
