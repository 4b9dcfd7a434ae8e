-- What holds at each turn of the loops of `a_batch_is_kept_whole_or_not_at_all`.
use Rattle.part_tests.proofs.desks.a_batch_is_kept_whole_or_not_at_all.Given as goal

abbrev pub ghosts-send_lines : goal.ghosts-send_lines
ghosts-send_lines g a = record { name = a.blank.name; parts = a.blank.parts }
