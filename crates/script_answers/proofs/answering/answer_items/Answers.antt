-- That `answer_items` keeps its contract.
use Rattle.std.proofs.Common.{Err, [], ap, append-nil, subst, sym, ◌∙◌, ◌≡◌}
use Rattle.std.specs.Result.{is_err}
use Rattle.register_desk.specs.Rows.{TellsRowsOf}
use Rattle.script_answers.proofs.RunFacts.{SoFar, err-is, grows-on, next-cut, ok-not-err, on-err-of, on-ok-of, so-far-answered, so-far-next, so-far-none}
use Rattle.script_answers.specs.Runs.{EndsAs}
use Rattle.script_answers.specs.declared.answering.AnswerFault.TheVariants as fault
use Rattle.script_answers.proofs.answering.answer_items.Goals as goal

pub loop-item-init : goal.loop-item-init
loop-item-init g c = record {
  so_far = so-far-none c.args.operator.now c.args.desk.now.book.journal c.args.items.now (g.O.Sink.contents c.args.out.now);
  told = c.requires.told;
  attached = c.requires.attached;
  grown = ([], sym (append-nil c.args.desk.now.book.journal));
  kept_count = λ _. g.K.Keeper.faults c.args.keeper.now;
  count = λ _. g.O.Sink.faults c.args.out.now;
  was_honest = λ honest. honest;
}

pub returns-then-is_err-clause-ends : goal.returns-then-is_err-clause-ends
returns-then-is_err-clause-ends g c =
    let failed = sym c.is_err.ensures.value ∙ c.if-is_err.true in
    next-cut c.args.operator.now c.args.desk.now.book.journal c.args.items.now c.loop-item.items c.in-Some.item
    c.loop-item.desk.book.journal c.answer_read.new.desk.book.journal c.deref.result.now (g.K.Keeper.tells c.answer_read.new.keeper)
    (g.O.Sink.contents c.args.out.now) (g.O.Sink.contents c.loop-item.out) (g.O.Sink.contents c.write_whole.new.out)
    c.loop-item.invariant.so_far (sym c.in_ok-item.ensures.next ∙ c.in-Some.is) c.in-Ok.ensures.journal
    (c.deref.ensures.value ∙ c.in-Ok.ensures.line) c.in-Ok.ensures.told
    (on-err-of c.write_whole.result failed c.write_whole.ensures.front)

pub returns-in-Err-Failed-clause-ends : goal.returns-in-Err-Failed-clause-ends
returns-in-Err-Failed-clause-ends g c =
    so-far-answered c.args.operator.now c.args.desk.now.book.journal c.args.items.now c.loop-item.items c.loop-item.desk.book.journal
    (g.K.Keeper.tells c.answer_read.new.keeper) (g.O.Sink.contents c.args.out.now) (g.O.Sink.contents c.loop-item.out)
    c.loop-item.invariant.so_far
    (subst (TellsRowsOf (g.K.Keeper.tells c.answer_read.new.keeper)) c.in-Err-Failed.ensures.err c.in-Err-Failed.ensures.told)

pub returns-in-Err-NoMemory-clause-ends : goal.returns-in-Err-NoMemory-clause-ends
returns-in-Err-NoMemory-clause-ends g c =
    so-far-answered c.args.operator.now c.args.desk.now.book.journal c.args.items.now c.loop-item.items c.loop-item.desk.book.journal
    (g.K.Keeper.tells c.answer_read.new.keeper) (g.O.Sink.contents c.args.out.now) (g.O.Sink.contents c.loop-item.out)
    c.loop-item.invariant.so_far
    (subst (TellsRowsOf (g.K.Keeper.tells c.answer_read.new.keeper)) c.in-Err-NoMemory.ensures.err c.in-Err-NoMemory.ensures.told)

pub returns-in_err-item-clause-ends : goal.returns-in_err-item-clause-ends
returns-in_err-item-clause-ends g c =
    let why = c.next_item.ensures.fault _ c.in_err-item.was in
    let ended : c.from_residual.result ≡ Err fault.NoMemory = err-is c.from_residual.result _ c.from_residual.ensures.1 ∙ ap (λ known. Err known) why in
    subst (EndsAs c.args.operator.now c.args.desk.now.book.journal c.args.items.now (g.K.Keeper.tells c.loop-item.keeper) (g.O.Sink.contents c.args.out.now) (g.O.Sink.contents c.loop-item.out))
    (sym ended)
    (so-far-answered c.args.operator.now c.args.desk.now.book.journal c.args.items.now c.loop-item.items c.loop-item.desk.book.journal
    (g.K.Keeper.tells c.loop-item.keeper) (g.O.Sink.contents c.args.out.now) (g.O.Sink.contents c.loop-item.out)
    c.loop-item.invariant.so_far c.loop-item.invariant.told)

pub loop-item-preserved : goal.loop-item-preserved
loop-item-preserved g c =
    let opened = c.args.desk.now.book.journal in
    let journal = c.loop-item.desk.book.journal in
    let wrote = sym c.is_err.ensures.value ∙ c.if-is_err.false in
    record {
      so_far = subst (λ left. SoFar c.args.operator.now opened c.args.items.now left c.answer_read.new.desk.book.journal (g.O.Sink.contents c.args.out.now) (g.O.Sink.contents c.write_whole.new.out))
          (sym c.in_ok-item.ensures.rest)
          (so-far-next c.args.operator.now opened c.args.items.now c.loop-item.items c.in-Some.item journal c.answer_read.new.desk.book.journal c.deref.result.now
          (g.O.Sink.contents c.args.out.now) (g.O.Sink.contents c.loop-item.out) (g.O.Sink.contents c.write_whole.new.out)
          c.loop-item.invariant.so_far (sym c.in_ok-item.ensures.next ∙ c.in-Some.is) c.in-Ok.ensures.journal
          (c.deref.ensures.value ∙ c.in-Ok.ensures.line) (on-ok-of c.write_whole.result wrote c.write_whole.ensures.all));
      told = c.in-Ok.ensures.told;
      attached = c.in-Ok.ensures.attached;
      grown = grows-on opened journal c.answer_read.new.desk.book.journal _ c.loop-item.invariant.grown c.in-Ok.ensures.journal;
      kept_count = c.answer_read.ensures.counted.same (λ e. ok-not-err c.answer_read.result _ (ap is_err c.in-Ok.is) e) ∙ c.loop-item.invariant.kept_count;
      count = on-ok-of c.write_whole.result wrote c.write_whole.ensures.no_fault ∙ c.loop-item.invariant.count;
      was_honest = λ honest. c.loop-item.invariant.was_honest (c.in-Ok.ensures.was_honest honest);
    }
