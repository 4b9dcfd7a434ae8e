-- That `answered` keeps its contract.
use Rattle.agent_run.proofs.RunFacts.{counts-keeper, counts-write, ended-cut, ended-failed, ended-short, grown-by, never-done}
use Rattle.agent_run.specs.Runs.{sink_at}
use Rattle.register_machine.specs.run.Scripts.{script_items}
use Rattle.agent_run.proofs.applying.answered.Goals as goal

pub returns-in-Ok-clause-grown : goal.returns-in-Ok-clause-grown
returns-in-Ok-clause-grown g c =
    grown-by (g.K.Keeper.tells c.answer_script-ends.new.keeper) c.args.desk.book.journal c.answer_script-ends.new.desk.book.journal
    c.answer_script-ends.ensures.grown c.journal_is_lawful.ensures c.answer_script-ends.ensures.told

pub returns-in-Err-clause-done : goal.returns-in-Err-clause-done
returns-in-Err-clause-done g c = λ e. absurd (never-done c.in-Err.fault c.ended.result.0 c.ended.ensures.status e)

pub returns-in-Err-clause-no_write_fault : goal.returns-in-Err-clause-no_write_fault
returns-in-Err-clause-no_write_fault g c = λ e. absurd (never-done c.in-Err.fault c.ended.result.0 c.ended.ensures.status e)

pub returns-in-Err-clause-write_fault : goal.returns-in-Err-clause-write_fault
returns-in-Err-clause-write_fault g c =
    counts-write (g.K.Keeper.faults c.args.keeper.now) (g.K.Keeper.faults c.answer_script-ends.new.keeper) (g.O.Sink.faults c.args.out.now) (g.O.Sink.faults c.answer_script-ends.new.out) (g.O.Sink.faults c.ended.new.out)
    c.answer_script-ends.result c.in-Err.fault c.ended.result.0 c.answer_script-ends.ensures.counts c.in-Err.is c.ended.ensures.status c.ended.ensures.silent

pub returns-in-Err-clause-cut : goal.returns-in-Err-clause-cut
returns-in-Err-clause-cut g c =
    ended-cut c.args.operator.now c.args.desk.book.journal (script_items c.args.script.now) (g.K.Keeper.tells c.answer_script-ends.new.keeper)
    (sink_at (g.O.Sink.contents c.args.out.now) (g.O.Sink.faults c.args.out.now))
    (sink_at (g.O.Sink.contents c.answer_script-ends.new.out) (g.O.Sink.faults c.answer_script-ends.new.out))
    (sink_at (g.O.Sink.contents c.ended.new.out) (g.O.Sink.faults c.ended.new.out))
    c.answer_script-ends.result c.in-Err.fault c.ended.result.0 c.answer_script-ends.ensures.ends c.in-Err.is c.ended.ensures.status c.ended.ensures.line

pub returns-in-Err-clause-keeper_fault : goal.returns-in-Err-clause-keeper_fault
returns-in-Err-clause-keeper_fault g c =
    counts-keeper (g.K.Keeper.faults c.args.keeper.now) (g.K.Keeper.faults c.answer_script-ends.new.keeper) (g.O.Sink.faults c.args.out.now) (g.O.Sink.faults c.answer_script-ends.new.out)
    c.answer_script-ends.result c.in-Err.fault c.ended.result.0 c.answer_script-ends.ensures.counts c.in-Err.is c.ended.ensures.status

pub returns-in-Err-clause-failed : goal.returns-in-Err-clause-failed
returns-in-Err-clause-failed g c =
    ended-failed c.args.operator.now c.args.desk.book.journal (script_items c.args.script.now) (g.K.Keeper.tells c.answer_script-ends.new.keeper)
    (g.K.Keeper.faults c.args.keeper.now) (g.K.Keeper.faults c.answer_script-ends.new.keeper)
    (sink_at (g.O.Sink.contents c.args.out.now) (g.O.Sink.faults c.args.out.now))
    (sink_at (g.O.Sink.contents c.answer_script-ends.new.out) (g.O.Sink.faults c.answer_script-ends.new.out))
    (sink_at (g.O.Sink.contents c.ended.new.out) (g.O.Sink.faults c.ended.new.out))
    c.answer_script-ends.result c.in-Err.fault c.ended.result.0 c.answer_script-ends.ensures.ends c.answer_script-ends.ensures.counts c.in-Err.is c.ended.ensures.status c.ended.ensures.line

pub returns-in-Err-clause-no_memory : goal.returns-in-Err-clause-no_memory
returns-in-Err-clause-no_memory g c =
    ended-short c.args.operator.now c.args.desk.book.journal (script_items c.args.script.now) (g.K.Keeper.tells c.answer_script-ends.new.keeper)
    (g.K.Keeper.faults c.args.keeper.now) (g.K.Keeper.faults c.answer_script-ends.new.keeper)
    (sink_at (g.O.Sink.contents c.args.out.now) (g.O.Sink.faults c.args.out.now))
    (sink_at (g.O.Sink.contents c.answer_script-ends.new.out) (g.O.Sink.faults c.answer_script-ends.new.out))
    (sink_at (g.O.Sink.contents c.ended.new.out) (g.O.Sink.faults c.ended.new.out))
    c.answer_script-ends.result c.in-Err.fault c.ended.result.0 c.answer_script-ends.ensures.ends c.answer_script-ends.ensures.counts c.in-Err.is c.ended.ensures.status c.ended.ensures.line

pub returns-in-Err-clause-grown : goal.returns-in-Err-clause-grown
returns-in-Err-clause-grown g c =
    grown-by (g.K.Keeper.tells c.answer_script-ends.new.keeper) c.args.desk.book.journal c.answer_script-ends.new.desk.book.journal
    c.answer_script-ends.ensures.grown c.journal_is_lawful.ensures c.answer_script-ends.ensures.told
