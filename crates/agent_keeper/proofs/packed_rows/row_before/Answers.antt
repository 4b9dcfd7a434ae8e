-- That `row_before` keeps its contract.
use Rattle.agent_keeper.proofs.PackedFacts.{row-there}
use Rattle.agent_keeper.proofs.packed_rows.row_before.Goals as goal

pub returns : goal.returns
returns c = rw c.start_before-start.ensures.start (row-there c.args.bytes.now 0 c.args.ends.now c.args.place c.args.end c.requires.there)
