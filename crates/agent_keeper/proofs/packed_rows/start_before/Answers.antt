-- That `start_before` keeps its contract.
use Rattle.std.proofs.Common.{length}
use Rattle.agent_keeper.proofs.PackedFacts.{row-within}
use Rattle.agent_keeper.proofs.packed_rows.start_before.Goals as goal

pub returns-clause-rises : goal.returns-clause-rises
returns-clause-rises c = rw c.start_of.ensures ((row-within (length c.args.bytes.now) 0 c.args.ends.now c.args.place c.args.end c.requires.ends c.requires.there).0)

pub returns-clause-within : goal.returns-clause-within
returns-clause-within c = (row-within (length c.args.bytes.now) 0 c.args.ends.now c.args.place c.args.end c.requires.ends c.requires.there).1
