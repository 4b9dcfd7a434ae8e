-- What holds at each turn of the loops of `a_correction_that_was_discarded_is_committed_as_a_new_one`.
use Rattle.part_tests.proofs.desks.a_correction_that_was_discarded_is_committed_as_a_new_one.Given as goal

abbrev pub ghosts-commit_behind_discard : goal.ghosts-commit_behind_discard
ghosts-commit_behind_discard g a = record { name = a.blank.name; parts = a.blank.parts }
