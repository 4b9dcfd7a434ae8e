-- The proof of the law `parts_of_lawful_journals_are_fit_for_looks`.
use Rattle.holder_statements.proofs.FitForLooks.{fit_for_looks}
use Rattle.holder_statements.proofs.look_laws.parts_of_lawful_journals_are_fit_for_looks.Goals as goal

pub returns : goal.returns
returns c = λ journal household. fit_for_looks journal household
