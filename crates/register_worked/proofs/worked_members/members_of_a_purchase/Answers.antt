-- The worked rows of `members_of_a_purchase`, reckoned.
use Rattle.std.proofs.Common.{refl}
use Rattle.register_machine.proofs.OnLiterals.{machine_on_literals}
use Rattle.register_worked.proofs.worked_members.members_of_a_purchase.Goals as goal

pub returns-clause-same : goal.returns-clause-same
unfolding machine_on_literals
returns-clause-same c = refl

pub returns-clause-missing : goal.returns-clause-missing
unfolding machine_on_literals
returns-clause-missing c = refl

pub returns-clause-unknown : goal.returns-clause-unknown
unfolding machine_on_literals
returns-clause-unknown c = refl

pub returns-clause-no_verb : goal.returns-clause-no_verb
unfolding machine_on_literals
returns-clause-no_verb c = refl
