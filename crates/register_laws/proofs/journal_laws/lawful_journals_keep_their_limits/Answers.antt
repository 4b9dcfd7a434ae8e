-- The proof of the law `lawful_journals_keep_their_limits`.
use Rattle.register_laws.proofs.KeepsLimits.{limits-kept}
use Rattle.register_laws.proofs.journal_laws.lawful_journals_keep_their_limits.Goals as goal

pub returns : goal.returns
returns c journal lawful = (limits-kept journal lawful).0
