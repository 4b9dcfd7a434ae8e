-- The proof of the law `quiet_sheets_change_nothing`.
use Rattle.checkpoint_replay.proofs.StepFacts.{busy-most, quiet-days}
use Rattle.checkpoint_replay.proofs.laws.quiet_sheets_change_nothing.Goals as goal

pub returns-clause-most : goal.returns-clause-most
returns-clause-most c = λ known rows from count day. busy-most known rows from count day

pub returns-clause-same : goal.returns-clause-same
returns-clause-same c = λ known rows from count day none. quiet-days known rows from count day none
