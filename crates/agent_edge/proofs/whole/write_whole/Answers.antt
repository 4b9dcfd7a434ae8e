-- That `write_whole` keeps its contract.
use Rattle.std.proofs.Common.{rules}
use Rattle.std.proofs.lemmas.List.{take_rest}
use Rattle.agent_edge.proofs.ToldLemmas.{Appends-more}
use Rattle.agent_edge.proofs.whole.write_whole.Goals as goal

pub loop-written-preserved : goal.loop-written-preserved
loop-written-preserved g c =
    let next = rw take_rest at c.in_ok-written.ensures.bytes in
    record {
      in_range = search rules;
      appended = Appends-more _ _ _ _ _ _ c.loop-written.invariant.appended next;
      no_fault = search rules;
    }
