-- The proof of the law `classes_of_lawful_journals_list_holdings`.
use Rattle.holder_statements.proofs.ClassesListed.{lists_holdings}
use Rattle.holder_statements.proofs.look_laws.classes_of_lawful_journals_list_holdings.Goals as goal

pub returns : goal.returns
returns c = λ journal household. lists_holdings journal household
