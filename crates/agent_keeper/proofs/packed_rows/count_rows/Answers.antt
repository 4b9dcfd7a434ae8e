-- That `count_rows` keeps its contract.
use Rattle.std.proofs.Common.{sym}
use Rattle.agent_keeper.proofs.PackedFacts.{rows-count}
use Rattle.agent_keeper.proofs.packed_rows.count_rows.Goals as goal

pub returns-clause-count : goal.returns-clause-count
returns-clause-count c = sym (rows-count c.args.bytes.now 0 c.args.ends.now)
