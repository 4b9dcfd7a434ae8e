-- The worked rows of `members_of_corrections`, reckoned.
use Rattle.std.proofs.Common.{refl}
use Rattle.register_machine.proofs.OnLiterals.{machine_on_literals}
use Rattle.register_worked.proofs.worked_members.members_of_corrections.Goals as goal

pub returns-clause-cancel : goal.returns-clause-cancel
unfolding machine_on_literals
returns-clause-cancel c = refl

pub returns-clause-fixprice : goal.returns-clause-fixprice
unfolding machine_on_literals
returns-clause-fixprice c = refl

pub returns-clause-fixrate : goal.returns-clause-fixrate
unfolding machine_on_literals
returns-clause-fixrate c = refl

pub returns-clause-void : goal.returns-clause-void
unfolding machine_on_literals
returns-clause-void c = refl

pub returns-clause-enter : goal.returns-clause-enter
unfolding machine_on_literals
returns-clause-enter c = refl

pub returns-clause-replace : goal.returns-clause-replace
unfolding machine_on_literals
returns-clause-replace c = refl
