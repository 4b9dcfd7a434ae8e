-- That `open_rows` keeps its contract.
use Rattle.std.proofs.Common.{Err, arith, refl, subst, sym, ◌≡◌, ◌∙◌}
use Rattle.std.proofs.lemmas.Result.{err_from_is_err_and}
use Rattle.register_desk.proofs.BoundsGoOn.{grows_then, takes_up_to_bad}
use Rattle.register_desk.proofs.RowByRow.{goes_none, goes_then, ok_err, opens_more, opens_none, reads_none, reads_then, same_count, stops_at}
use Rattle.register_desk.specs.Opening.{OpensRows}
use Rattle.register_desk.specs.OpeningBounds.{TakesUpToBad, opening_bound}
use Rattle.register_desk.specs.declared.faults.StartFault.{StartFault}
use Rattle.register_desk.proofs.stored.open_rows.Goals as goal

pub loop-place-init : goal.loop-place-init
loop-place-init g c = record {
  opened = opens_none g.K.Keeper.tells g.K.Keeper.moment g.K.Keeper.gave c.args.keeper.now c.args.books.now c.requires.books c.requires.empty;
  attached = c.requires.attached;
  reads = reads_none g.K.Keeper.tells g.K.Keeper.may_leave g.K.Keeper.is_honest c.args.keeper.now;
  speaks = λ honest kept told. told;
  goes_on = goes_none g.K.Keeper.moment g.K.Keeper.gave c.args.keeper.now;
  faults = refl;
  steps = omega arith;
}

-- The row at this place is the first that is none.
pub returns-in_err-open_row-clause-damaged : goal.returns-in_err-open_row-clause-damaged
returns-in_err-open_row-clause-damaged g c = λ place is.
    let exit = err_from_is_err_and c.from_residual.result c.from_residual.ensures.1 in
    let same : Err c.in_err-open_row.field-0.0 ≡ Err (StartFault.Damaged place) = grind (arith, exit.1, exit.2, is) in
    let found = c.in_err-open_row.ensures.damaged place same in
    rw found.0 (
      c.loop-place-test.true,
      stops_at g.K.Keeper.tells g.K.Keeper.moment g.K.Keeper.gave c.args.keeper.now c.loop-place.keeper c.open_row.new.keeper c.loop-place.place c.loop-place.books
          c.loop-place.invariant.opened c.open_row.ensures.reads.told c.loop-place.invariant.goes_on c.open_row.ensures.goes_on found.1,
    )

pub loop-place-preserved : goal.loop-place-preserved
loop-place-preserved g c = record {
  opened = opens_more g.K.Keeper.tells g.K.Keeper.moment g.K.Keeper.gave c.args.keeper.now c.loop-place.keeper c.open_row.new.keeper c.loop-place.place c.loop-place.books c.open_row.new.books
      c.loop-place.invariant.opened c.open_row.ensures.reads.told c.loop-place.invariant.goes_on c.open_row.ensures.goes_on c.in_ok-open_row.ensures.opened;
  attached = c.open_row.ensures.attached;
  reads = reads_then g.K.Keeper.tells g.K.Keeper.may_leave g.K.Keeper.is_honest c.args.keeper.now c.loop-place.keeper c.open_row.new.keeper c.loop-place.invariant.reads c.open_row.ensures.reads;
  speaks = λ honest kept told. c.in_ok-open_row.ensures.speaks honest kept (c.loop-place.invariant.speaks (c.open_row.ensures.reads.was_honest honest) kept told);
  goes_on = goes_then g.K.Keeper.tells g.K.Keeper.moment g.K.Keeper.gave c.args.keeper.now c.loop-place.keeper c.open_row.new.keeper c.loop-place.invariant.goes_on c.open_row.ensures.goes_on;
  faults = same_count (g.K.Keeper.faults c.loop-place.keeper) (g.K.Keeper.faults c.open_row.new.keeper) c.open_row.ensures.no_fault (λ rose. ok_err _ (c.in_ok-open_row.ensures.due rose)) ∙ c.loop-place.invariant.faults;
  steps = grows_then c.args.steps.now (opening_bound c.loop-place.books.book.journal) (opening_bound c.open_row.new.books.book.journal) c.loop-place.steps c.open_row.new.steps
      c.loop-place.invariant.steps c.in_ok-open_row.ensures.steps;
}

-- All rows are read.
pub returns-clause-opened : goal.returns-clause-opened
returns-clause-opened g c =
    let all : c.loop-place.place ≡ c.args.count = omega (arith, c.loop-place-test.false, c.loop-place.auto.place-end) in
    subst (λ n. OpensRows g.K.Keeper.tells g.K.Keeper.moment g.K.Keeper.gave c.args.keeper.now c.loop-place.keeper n c.loop-place.books) all c.loop-place.invariant.opened

-- The steps up to the bad row.
pub returns-in_err-open_row-clause-bad_steps : goal.returns-in_err-open_row-clause-bad_steps
returns-in_err-open_row-clause-bad_steps g c = λ place is kept told.
    let exit = err_from_is_err_and c.from_residual.result c.from_residual.ensures.1 in
    let same : Err c.in_err-open_row.field-0.0 ≡ Err (StartFault.Damaged place) = grind (arith, exit.1, exit.2, is) in
    let found = c.in_err-open_row.ensures.damaged place same in
    subst (λ at. TakesUpToBad at kept.rows c.args.steps.now c.open_row.new.steps) (sym found.0)
    (takes_up_to_bad g.K.Keeper.tells g.K.Keeper.moment g.K.Keeper.gave c.args.keeper.now c.loop-place.keeper c.loop-place.place c.loop-place.books kept
    c.args.steps.now c.loop-place.steps c.open_row.new.steps c.loop-place.invariant.opened (c.open_row.ensures.reads.told kept told)
    c.loop-place.invariant.steps (c.in_err-open_row.ensures.bad_steps place same kept told))
