-- The proof of the law `batches_leave_runs_lawful`.
use Rattle.std.proofs.Common.{subst, sym, ◌++◌}
use Rattle.register_laws.specs.LawfulBatches.{batch_events}
use Rattle.register_machine.specs.journal.Lawful.{IsLawful}
use Rattle.register_machine.specs.rules.Callers.{caller_of}
use Rattle.register_machine.specs.rules.Situations.{situation_at}
use Rattle.register_machine.specs.run.Batches.{batch_answer}
use Rattle.register_laws.proofs.BatchesAreLawful.{batch-by}
use Rattle.register_laws.proofs.RunsAreLawful.{keyed-among}
use Rattle.register_laws.proofs.batch_laws.batches_leave_runs_lawful.Goals as goal

pub returns : goal.returns
returns c operator run now key lines own lawful late =
    subst (λ table. IsLawful (run.journal ++ batch_events (batch_answer (situation_at table run.journal now (caller_of run.journal operator key)) lines))) (sym own)
    (batch-by run.journal now (caller_of run.journal operator key) lines (keyed-among run.journal operator key) lawful late)
