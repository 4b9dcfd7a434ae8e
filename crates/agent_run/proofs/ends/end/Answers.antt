-- That `end` keeps its contract.
use Rattle.agent_run.proofs.RunFacts.{line-said}
use Rattle.agent_run.specs.Runs.{sink_at}
use Rattle.agent_run.proofs.ends.end.Goals as goal

pub returns-clause-line : goal.returns-clause-line
returns-clause-line g c =
    line-said c.args.line.now (sink_at (g.O.Sink.contents c.args.out.now) (g.O.Sink.faults c.args.out.now))
    (sink_at (g.O.Sink.contents c.write_whole.new.out) (g.O.Sink.faults c.write_whole.new.out))
    c.write_whole.result c.write_whole.ensures.all c.write_whole.ensures.front c.write_whole.ensures.fault c.write_whole.ensures.no_fault
