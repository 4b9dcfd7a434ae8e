-- The worked rows of `members_of_letters_and_elections`, reckoned.
use Rattle.std.proofs.Common.{refl}
use Rattle.register_machine.proofs.OnLiterals.{machine_on_literals}
use Rattle.register_worked.proofs.worked_members.members_of_letters_and_elections.Goals as goal

pub returns-clause-letter : goal.returns-clause-letter
unfolding machine_on_literals
returns-clause-letter c = refl

pub returns-clause-cash : goal.returns-clause-cash
unfolding machine_on_literals
returns-clause-cash c = refl

pub returns-clause-shares : goal.returns-clause-shares
unfolding machine_on_literals
returns-clause-shares c = refl

pub returns-clause-not_a_gross : goal.returns-clause-not_a_gross
unfolding machine_on_literals
returns-clause-not_a_gross c = refl

pub returns-clause-without_pay : goal.returns-clause-without_pay
unfolding machine_on_literals
returns-clause-without_pay c = refl
