-- The worked rows of `members_of_exchanges`, reckoned.
use Rattle.std.proofs.Common.{refl}
use Rattle.register_machine.proofs.OnLiterals.{machine_on_literals}
use Rattle.register_worked.proofs.worked_members.members_of_exchanges.Goals as goal

pub returns-clause-exchange : goal.returns-clause-exchange
unfolding machine_on_literals
returns-clause-exchange c = refl

pub returns-clause-exchangeall : goal.returns-clause-exchangeall
unfolding machine_on_literals
returns-clause-exchangeall c = refl

pub returns-clause-without_shares : goal.returns-clause-without_shares
unfolding machine_on_literals
returns-clause-without_shares c = refl

pub returns-clause-without_target : goal.returns-clause-without_target
unfolding machine_on_literals
returns-clause-without_target c = refl

pub returns-clause-not_of_all : goal.returns-clause-not_of_all
unfolding machine_on_literals
returns-clause-not_of_all c = refl
