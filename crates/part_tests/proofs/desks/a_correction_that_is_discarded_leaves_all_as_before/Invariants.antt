-- What holds at each turn of the loops of `a_correction_that_is_discarded_leaves_all_as_before`.
use Rattle.part_tests.proofs.desks.a_correction_that_is_discarded_leaves_all_as_before.Given as goal

abbrev pub ghosts-looks_behind_discard : goal.ghosts-looks_behind_discard
ghosts-looks_behind_discard g a = record { name = a.blank.name; parts = a.blank.parts }
