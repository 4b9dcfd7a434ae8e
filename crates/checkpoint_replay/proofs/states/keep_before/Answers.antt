-- That `keep_before` keeps its contract.
use Rattle.std.proofs.Common.{nat_lt, rules}
use Rattle.std.proofs.lemmas.Fn.{filter_same}
use Rattle.checkpoint_replay.proofs.states.keep_before.Goals as goal

pub returns : goal.returns
returns c = filter_same _ (λ kept. nat_lt kept.sheet c.args.sheet) _ (λ x b f k. search rules) _ _ c.retain.ensures.filtered
