-- What holds at each turn of the loops of `declares_in`.
use Rattle.std.proofs.Common.{take, ◌≡◌}
use Rattle.std.specs.List.{list_any}
use Rattle.request_rules.proofs.inquiry.declares_in.Given as goal
use Rattle.request_rules.specs.VerbRules.{class_declares}

-- whether one of the classes so far has a dividend
abbrev pub invariant-loop-place : goal.invariant-loop-place
invariant-loop-place l =
    l.found ≡ list_any (class_declares l.inquiry.book.rates.declared l.calendar l.moment) (take l.place l.inquiry.book.classes)
