-- That `write_reply` keeps its contract.
use Rattle.std.proofs.Common.{rules}
use Rattle.std.proofs.lemmas.List.{take_rest}
use Rattle.agent_edge.proofs.LinkLemmas.{writes-more}
use Rattle.agent_edge.proofs.replies.write_reply.Goals as goal

pub loop-written-preserved : goal.loop-written-preserved
loop-written-preserved g c =
    let next = rw take_rest at c.in_ok-written.ensures.links in
    record {
      in_range = search rules;
      connected = search rules;
      links = writes-more _ _ _ _ _ _ c.loop-written.invariant.links next;
      no_fault = search rules;
      door = search rules;
    }
