-- The worked rows of `members_of_an_entry`, reckoned.
use Rattle.std.proofs.Common.{refl}
use Rattle.register_machine.proofs.OnLiterals.{machine_on_literals}
use Rattle.register_worked.proofs.worked_members.members_of_an_entry.Goals as goal

pub returns-clause-same : goal.returns-clause-same
unfolding machine_on_literals
returns-clause-same c = refl

pub returns-clause-missing : goal.returns-clause-missing
unfolding machine_on_literals
returns-clause-missing c = refl
