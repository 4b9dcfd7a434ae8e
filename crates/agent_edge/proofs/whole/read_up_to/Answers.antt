-- That `read_up_to` keeps its contract.
use Rattle.std.proofs.Common.{◌++◌, take}
use Rattle.std.proofs.KnownBytes.{Consumes-trans}
use Rattle.agent_edge.proofs.whole.read_up_to.Goals as goal

-- what was read before, and then this piece
pub returns-then-count-limit-clause-front : goal.returns-then-count-limit-clause-front
returns-then-count-limit-clause-front g c = (
  c.loop-bytes.bytes.items ++ take c.in_ok-count.count c.read.new.into,
  Consumes-trans _ _ _ _ _ c.loop-bytes.invariant.consumed c.in_ok-count.ensures.bytes,
)

pub returns-in_err-extend_from_slice-clause-front :
    goal.returns-in_err-extend_from_slice-clause-front
returns-in_err-extend_from_slice-clause-front g c = (
  c.loop-bytes.bytes.items ++ take c.in_ok-count.count c.read.new.into,
  Consumes-trans _ _ _ _ _ c.loop-bytes.invariant.consumed c.in_ok-count.ensures.bytes,
)
