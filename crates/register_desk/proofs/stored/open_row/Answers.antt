-- That `open_row` keeps its contract.
use Rattle.std.proofs.Common.{List, Option, Some, ap, subst, sym, ℕ, ◌≡◌, ◌∙◌}
use Rattle.agent_keeper.specs.Calls.{Gives, row_is}
use Rattle.desk_books.specs.BooksOfJournals.{AreBooksOf}
use Rattle.desk_books.specs.declared.change.EventChange.{EventChange}
use Rattle.event_rows.specs.InForm.{InForm}
use Rattle.event_rows.specs.Rows.{event_row}
use Rattle.register_desk.proofs.BoundsGoOn.{grows_by}
use Rattle.register_desk.proofs.DesksGoOn.{desk_more, desk_same}
use Rattle.register_desk.proofs.RowByRow.{damaged_place}
use Rattle.register_desk.specs.OpeningBounds.{TakesWhereBad}
use Rattle.register_machine.specs.journal.Journals.{Journal, with_event}
use Rattle.register_desk.proofs.stored.open_row.Goals as goal

-- The row that was read is the event's that is noted.
pub returns-clause-opened : goal.returns-clause-opened
returns-clause-opened g c =
    let event = c.in-Some.change.event in
    let fits : InForm event = rw c.in-Some.is at c.in_ok-change.ensures.in_form in
    let spelling : c.as_slice.result.now ≡ event_row event = rw c.in-Some.is at c.in_ok-change.ensures.row in
    let row : c.row.new.into.items ≡ event_row event = sym c.as_slice.ensures.value ∙ spelling in
    let books : AreBooksOf (with_event c.change_of_row.new.books.book.journal event) c.apply.new.self =
    subst (λ (change : EventChange). AreBooksOf (with_event c.change_of_row.new.books.book.journal change.event) c.apply.new.self) c.into_change.ensures c.apply.ensures in
    record {
      event = event;
      shown = record {
        told = λ kept told. (rw c.if-not-branch.false at (c.in_ok-row.ensures.exact kept told)) ∙ ap Some row;
        given = subst (λ (bytes : List ℕ). Gives g.K.Keeper.moment g.K.Keeper.gave c.args.keeper.now c.row.new.self (row_is c.args.place (Some bytes))) row
            (rw c.if-not-branch.false at c.in_ok-row.ensures.given);
      };
      noted = books.noted ∙ ap (λ (journal : Journal). with_event journal event) c.in_ok-change.ensures.journal;
      desk = desk_more c.change_of_row.new.books c.apply.new.self event
          (desk_same c.args.books.now c.change_of_row.new.books c.requires.books c.in_ok-change.ensures.same c.in_ok-change.ensures.journal)
          fits books;
    }

-- The row that was read is no event's that follows.
pub returns-in_default-clause-damaged : goal.returns-in_default-clause-damaged
returns-in_default-clause-damaged g c = λ at is. (
  damaged_place c.args.place at is,
  record {
    row = Some c.row.new.into.items;
    shown = record {
      told = λ kept told. rw c.if-not-branch.false at (c.in_ok-row.ensures.exact kept told);
      given = rw c.if-not-branch.false at c.in_ok-row.ensures.given;
    };
    bad = λ event fits is. c.in_ok-change.ensures.none c.in_default.is event fits (ap Some c.as_slice.ensures.value ∙ is);
  },
)

-- The bound grows by what the event counts.
pub returns-clause-steps : goal.returns-clause-steps
returns-clause-steps g c =
    let books : AreBooksOf (with_event c.change_of_row.new.books.book.journal c.in-Some.change.event) c.apply.new.self =
    subst (λ (change : EventChange). AreBooksOf (with_event c.change_of_row.new.books.book.journal change.event) c.apply.new.self) c.into_change.ensures c.apply.ensures in
    grows_by c.args.books.now.book.journal c.apply.new.self.book.journal c.in-Some.change.event c.args.steps.now c.change_of_row.new.steps
    (books.noted ∙ ap (λ (journal : Journal). with_event journal c.in-Some.change.event) c.in_ok-change.ensures.journal)
    (rw c.in-Some.is at c.in_ok-change.ensures.steps)

-- The bad row takes what the event of it takes.
pub returns-in_default-clause-bad_steps : goal.returns-in_default-clause-bad_steps
returns-in_default-clause-bad_steps g c = λ at is kept told.
    subst (λ (row : Option (List ℕ)). TakesWhereBad row c.args.books.now.book.journal c.args.steps.now c.change_of_row.new.steps)
    (ap Some c.as_slice.ensures.value ∙ sym (rw c.if-not-branch.false at (c.in_ok-row.ensures.exact kept told)))
    (c.in_ok-change.ensures.bad_steps c.in_default.is)
