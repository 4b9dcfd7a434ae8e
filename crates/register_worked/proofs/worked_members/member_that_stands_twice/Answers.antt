-- The worked rows of `member_that_stands_twice`, reckoned.
use Rattle.std.proofs.Common.{refl}
use Rattle.register_machine.proofs.OnLiterals.{machine_on_literals}
use Rattle.register_worked.proofs.worked_members.member_that_stands_twice.Goals as goal

pub returns : goal.returns
unfolding machine_on_literals
returns c = refl
