-- The books of a desk with an event more, and those that show the same.
use Rattle.std.proofs.Common.{List, Option, Some, [], subst, sym, ◌++◌, ◌≡◌}
use Rattle.std.specs.Prelude.{All}
use Rattle.std.proofs.lemmas.List.Elements.{All-append, All-head, All-push}
use Rattle.agent_events.specs.Events.{Event}
use Rattle.register_desk.specs.Answered.{events_of}
use Rattle.desk_books.specs.BooksOfJournals.{AreBooksOf, ShowTheSame}
use Rattle.desk_books.specs.declared.books.DeskBooks.{DeskBooks}
use Rattle.desk_books.specs.declared.change.EventChange.{EventChange}
use Rattle.event_rows.specs.InForm.{InForm}
use Rattle.register_desk.specs.Rows.{IsDesk}
use Rattle.register_machine.specs.journal.Journals.{Journal, with_event}

pub desk_more : (books new : DeskBooks) (event : Event) → IsDesk books → InForm event → AreBooksOf (with_event books.book.journal event) new → IsDesk new
desk_more books new event desk fits applied = record {
  of_journal = subst (λ (journal : Journal). AreBooksOf journal new) (sym applied.noted) applied;
  in_form = subst (All InForm) (sym applied.noted) (All-push InForm books.book.journal event desk.in_form fits);
}

-- and with several events more
pub desk_behind : (books new : DeskBooks) (events : List Event) → IsDesk books → All InForm events → AreBooksOf (books.book.journal ++ events) new → IsDesk new
desk_behind books new events desk fit applied = record {
  of_journal = subst (λ (journal : Journal). AreBooksOf journal new) (sym applied.noted) applied;
  in_form = subst (All InForm) (sym applied.noted) (All-append InForm books.book.journal events desk.in_form fit);
}

pub desk_same : (books new : DeskBooks) → IsDesk books → ShowTheSame books new → new.book.journal ≡ books.book.journal → IsDesk new
desk_same books new desk same journal = record {
  of_journal = subst (λ (known : Journal). AreBooksOf known new) (sym journal) (same books.book.journal desk.of_journal);
  in_form = subst (All InForm) (sym journal) desk.in_form;
}

-- the event that a change notes has its spelling
pub noted_fits : (change : Option EventChange) (noted : EventChange) → change ≡ Some noted → All InForm (events_of change) → InForm noted.event
noted_fits change noted is all = All-head InForm noted.event [] (subst (λ (found : Option EventChange). All InForm (events_of found)) is all)
