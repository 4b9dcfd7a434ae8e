-- The proof of the law `taking_by_rank`.
use Rattle.share_lots.proofs.RelationLemmas.{amounts_taking, only_amounts}
use Rattle.share_lots.proofs.laws.taking_by_rank.Goals as goal

pub returns : goal.returns
returns c = record { is_taking = amounts_taking; only_one = only_amounts }
