-- That `last_of` keeps its contract.
use Rattle.std.proofs.Common.{◌∙◌}
use Rattle.checkpoint_replay.proofs.NumberFacts.{last-most}
use Rattle.checkpoint_replay.proofs.places.last_of.Goals as goal

pub returns-clause-most : goal.returns-clause-most
returns-clause-most c = last-most c.args.numbers.now c.copied.result c.requires (c.copied.ensures ∙ c.last.ensures.value)
