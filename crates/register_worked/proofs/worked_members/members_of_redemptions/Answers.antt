-- The worked rows of `members_of_redemptions`, reckoned.
use Rattle.std.proofs.Common.{refl}
use Rattle.register_machine.proofs.OnLiterals.{machine_on_literals}
use Rattle.register_worked.proofs.worked_members.members_of_redemptions.Goals as goal

pub returns-clause-sell : goal.returns-clause-sell
unfolding machine_on_literals
returns-clause-sell c = refl

pub returns-clause-sellcash : goal.returns-clause-sellcash
unfolding machine_on_literals
returns-clause-sellcash c = refl

pub returns-clause-sellall : goal.returns-clause-sellall
unfolding machine_on_literals
returns-clause-sellall c = refl

pub returns-clause-not_an_amount : goal.returns-clause-not_an_amount
unfolding machine_on_literals
returns-clause-not_an_amount c = refl

pub returns-clause-not_shares : goal.returns-clause-not_shares
unfolding machine_on_literals
returns-clause-not_shares c = refl

pub returns-clause-not_of_all : goal.returns-clause-not_of_all
unfolding machine_on_literals
returns-clause-not_of_all c = refl

pub returns-clause-missing : goal.returns-clause-missing
unfolding machine_on_literals
returns-clause-missing c = refl
