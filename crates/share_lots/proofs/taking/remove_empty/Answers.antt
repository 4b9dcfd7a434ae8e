-- That `remove_empty` keeps its contract.
use Rattle.std.proofs.Common.{rules}
use Rattle.std.proofs.lemmas.Fn.{filter_same}
use Rattle.share_lots.specs.Taking.{has_mils}
use Rattle.share_lots.proofs.taking.remove_empty.Goals as goal

pub returns : goal.returns
returns c = filter_same _ has_mils _ (λ x b f k. search rules) _ _ c.retain.ensures.filtered
