-- That `read_and_answer` keeps its contract.
use Rattle.std.proofs.Common.{List, Some, [], refl, subst, ℕ, ◌≡◌}
use Rattle.agent_run.proofs.RunFacts.{ended-at-once, ends-too-long, grown-nothing, over-any, over-whole}
use Rattle.agent_run.specs.Runs.{AreEndedSaying, sink_at, status_line}
use Rattle.script_answers.specs.Runs.{IsCutShort, OfFront}
use Rattle.register_machine.specs.run.Scripts.{script_items}
use Rattle.agent_run.proofs.applying.read_and_answer.Goals as goal

pub returns-in-Ok-clause-cut : goal.returns-in-Ok-clause-cut
returns-in-Ok-clause-cut g c = λ e.
    let cut = λ (script : List ℕ). IsCutShort c.args.operator.now c.args.desk.book.journal (script_items script) (g.K.Keeper.tells c.answered.new.keeper) (g.O.Sink.contents c.args.out.now) (g.O.Sink.contents c.answered.new.out) in
    over-whole (g.S.Source.left c.read_up_to.new.input ≡ Some []) cut (g.S.Source.left c.args.input.now) c.in-Ok.script.items
    c.in-Ok.ensures.all c.in-Ok.ensures.end (subst cut c.deref.ensures.value (c.answered.ensures.cut e))

pub returns-in-Err-TooLong-clause-not_long : goal.returns-in-Err-TooLong-clause-not_long
returns-in-Err-TooLong-clause-not_long g c =
    ends-too-long c.end.result.0 2 (g.S.Source.left c.args.input.now) c.end.ensures.status refl

pub returns-in-Err-TooLong-clause-grown : goal.returns-in-Err-TooLong-clause-grown
returns-in-Err-TooLong-clause-grown g c =
    grown-nothing (g.K.Keeper.tells c.args.keeper.now) c.args.desk.book.journal c.journal_is_lawful.ensures c.requires.told

pub returns-in-Err-Fault-clause-not_long : goal.returns-in-Err-Fault-clause-not_long
returns-in-Err-Fault-clause-not_long g c =
    ends-too-long c.end-in-Err-Fault.result.0 3 (g.S.Source.left c.args.input.now) c.end-in-Err-Fault.ensures.status refl

pub returns-in-Err-Fault-clause-grown : goal.returns-in-Err-Fault-clause-grown
returns-in-Err-Fault-clause-grown g c =
    grown-nothing (g.K.Keeper.tells c.args.keeper.now) c.args.desk.book.journal c.journal_is_lawful.ensures c.requires.told

pub returns-in-Err-NoMemory-clause-no_memory : goal.returns-in-Err-NoMemory-clause-no_memory
returns-in-Err-NoMemory-clause-no_memory g c = λ _.
    let old = sink_at (g.O.Sink.contents c.args.out.now) (g.O.Sink.faults c.args.out.now) in
    let new = sink_at (g.O.Sink.contents c.no_memory.new.out) (g.O.Sink.faults c.no_memory.new.out) in
    over-any
    (λ script. OfFront (λ front. AreEndedSaying (status_line 7) c.args.operator.now c.args.desk.book.journal front (g.K.Keeper.tells c.args.keeper.now) old new) (script_items script))
    (g.S.Source.left c.args.input.now)
    (λ script. ended-at-once (status_line 7) c.args.operator.now c.args.desk.book.journal (script_items script) (g.K.Keeper.tells c.args.keeper.now) old new c.requires.told c.no_memory.ensures.line)

pub returns-in-Err-NoMemory-clause-grown : goal.returns-in-Err-NoMemory-clause-grown
returns-in-Err-NoMemory-clause-grown g c =
    grown-nothing (g.K.Keeper.tells c.args.keeper.now) c.args.desk.book.journal c.journal_is_lawful.ensures c.requires.told
