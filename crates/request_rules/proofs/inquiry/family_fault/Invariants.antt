-- What holds at each turn of the loops of `family_fault`.
use Rattle.std.proofs.Common.{None, take, ◌≡◌}
use Rattle.request_rules.proofs.Classes.{least_among}
use Rattle.request_rules.proofs.inquiry.family_fault.Given as goal
use Rattle.register_machine.specs.rules.Terms.{terms_of}

-- the least of the classes so far
abbrev pub invariant-loop-place : goal.invariant-loop-place
invariant-loop-place l = l.least ≡ least_among (terms_of l.form) None (take l.place l.inquiry.book.classes)
