-- The worked rows of `statement_of_one_account`, reckoned.
use Rattle.std.proofs.Common.{refl}
use Rattle.register_machine.proofs.OnLiterals.{machine_on_literals}
use Rattle.register_worked.proofs.worked_statements.statement_of_one_account.Goals as goal

pub returns : goal.returns
unfolding machine_on_literals
returns c = refl
