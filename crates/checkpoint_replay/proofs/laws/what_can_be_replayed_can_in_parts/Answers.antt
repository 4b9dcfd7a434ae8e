-- The proof of the law `what_can_be_replayed_can_in_parts`.
use Rattle.checkpoint_replay.proofs.PremiseFacts.{can_begin, can_part}
use Rattle.checkpoint_replay.proofs.laws.what_can_be_replayed_can_in_parts.Goals as goal

pub returns-clause-first : goal.returns-clause-first
returns-clause-first c = λ known household rows from first more day can. can_begin known household rows from first more day can

pub returns-clause-more : goal.returns-clause-more
returns-clause-more c = λ known household rows from first more day can. can_part known household rows from first more day can
