-- The proof of the law `lawful_journals_have_few_things`.
use Rattle.limit_laws.proofs.FewThings.{has_few_things}
use Rattle.limit_laws.proofs.count_laws.lawful_journals_have_few_things.Goals as goal

pub returns : goal.returns
returns c = has_few_things
