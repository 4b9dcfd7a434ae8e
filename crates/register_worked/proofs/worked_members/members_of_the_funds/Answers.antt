-- The worked rows of `members_of_the_funds`, reckoned.
use Rattle.std.proofs.Common.{refl}
use Rattle.register_machine.proofs.OnLiterals.{machine_on_literals}
use Rattle.register_worked.proofs.worked_members.members_of_the_funds.Goals as goal

pub returns-clause-calendar : goal.returns-clause-calendar
unfolding machine_on_literals
returns-clause-calendar c = refl

pub returns-clause-close : goal.returns-clause-close
unfolding machine_on_literals
returns-clause-close c = refl

pub returns-clause-class : goal.returns-clause-class
unfolding machine_on_literals
returns-clause-class c = refl

pub returns-clause-dealer : goal.returns-clause-dealer
unfolding machine_on_literals
returns-clause-dealer c = refl

pub returns-clause-household : goal.returns-clause-household
unfolding machine_on_literals
returns-clause-household c = refl

pub returns-clause-account : goal.returns-clause-account
unfolding machine_on_literals
returns-clause-account c = refl

pub returns-clause-sheet : goal.returns-clause-sheet
unfolding machine_on_literals
returns-clause-sheet c = refl

pub returns-clause-dividend : goal.returns-clause-dividend
unfolding machine_on_literals
returns-clause-dividend c = refl
