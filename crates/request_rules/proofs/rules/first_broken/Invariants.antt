-- What holds at each turn of the loops of `first_broken`.
use Rattle.std.proofs.Common.{drop, ◌≡◌}
use Rattle.register_machine.specs.journal.Choices.{first_some}
use Rattle.request_rules.proofs.rules.first_broken.Given as goal

-- no rule before this one is broken
abbrev pub invariant-loop-rule : goal.invariant-loop-rule
invariant-loop-rule l = first_some (drop l.rule-index l.rules) ≡ first_some l.rules
