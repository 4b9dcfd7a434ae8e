-- The proof of the law `batches_leave_journals_lawful`.
use Rattle.register_laws.proofs.BatchesAreLawful.{batch-by}
use Rattle.register_laws.proofs.RunsAreLawful.{keyed-among}
use Rattle.register_laws.proofs.batch_laws.batches_leave_journals_lawful.Goals as goal
use Rattle.register_machine.specs.rules.Callers.{caller_of}

pub returns : goal.returns
returns c operator journal now key lines lawful late =
    batch-by journal now (caller_of journal operator key) lines (keyed-among journal operator key) lawful late
