-- What holds at each turn of the loops of `what_is_accepted_is_kept_and_a_refusal_is_not`.
use Rattle.part_tests.proofs.desks.what_is_accepted_is_kept_and_a_refusal_is_not.Given as goal

abbrev pub ghosts-send_purchases : goal.ghosts-send_purchases
ghosts-send_purchases g a = record { name = a.blank.name; parts = a.blank.parts }
