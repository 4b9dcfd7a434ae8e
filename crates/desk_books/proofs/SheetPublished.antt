-- A sheet that follows the journal can be published in its books, which are then on trial.
use Rattle.std.proofs.Common.{[], ap, arith, length, subst, sym, ℕ, ◌+◌, ◌∙◌, ◌∷◌, ◌≡◌}
use Rattle.std.proofs.lemmas.List.{length-append}
use Rattle.agent_events.specs.Events.{Event}
use Rattle.agent_events.specs.declared.event.EventKind.{EventKind}
use Rattle.agent_events.specs.declared.request.SheetForm.{SheetForm}
use Rattle.desk_books.specs.BooksOfJournals.{AreBooksOf}
use Rattle.desk_books.specs.declared.books.DeskBooks.{DeskBooks}
use Rattle.forward_price.specs.PriceTables.{Book, Table, sheet_published, with_published}
use Rattle.reference_tables.proofs.LawfulChanges.{changes_prices}
use Rattle.reference_tables.specs.PriceChanges.{CanChange, IsNextSheet}
use Rattle.register_laws.specs.OneEventMore.{corrected_table, corrected_table_by}
use Rattle.register_machine.specs.journal.Journals.{Journal, with_event}
use Rattle.register_machine.specs.journal.Lawful.{IsLawful}
use Rattle.desk_books.specs.SheetTrials.{IsOnTrial}

pub comes-next : (journal : Journal) (event : Event) (form : SheetForm) (table : Table) → IsLawful (with_event journal event) → event.kind ≡ EventKind.Sheet form → table ≡ corrected_table journal → IsNextSheet table form
comes-next journal event form table lawful is same =
    subst (λ (t : Table). IsNextSheet t form) (sym same)
    (subst (λ (kind : EventKind). CanChange (corrected_table journal) kind) is (changes_prices journal event lawful).fits)

-- the books with other prices
abbrev with_prices : DeskBooks → Book → DeskBooks
with_prices books prices = record { book = books.book; tables = books.tables; prices = prices; orders = books.orders; classes = books.classes; ledger = books.ledger; cash = books.cash; kept = books.kept }

pub on-trial : (books : DeskBooks) (event : Event) (form : SheetForm) (room prices : Book) (number : ℕ) → AreBooksOf books.book.journal books → IsLawful (with_event books.book.journal event) → event.kind ≡ EventKind.Sheet form → room.table ≡ books.prices.table → number ≡ length room.table.sheets + 1 → prices.table ≡ with_published room.table form.calendar form.moment form.prices → IsOnTrial (with_prices books prices) number event
on-trial books event form room prices number are lawful is same counted there =
    let journal = books.book.journal in
    let brought : Table → Table = λ table. with_published table form.calendar form.moment form.prices in
    record {
      form = form;
      sheet = is;
      follows = lawful;
      prices =
          there
          ∙ (ap brought (same ∙ are.prices)
          ∙ (sym (ap (corrected_table_by (corrected_table journal) event.moment) is)
          ∙ (changes_prices journal event lawful).leaves));
      last =
          let all = ap (λ (t : Table). length t.sheets) there in
          let more = length-append room.table.sheets (sheet_published room.table form.calendar form.moment form.prices ∷ []) in
          omega (arith, counted, all, more);
      tables = are.tables;
      index = are.index;
      ledger = are.ledger;
    }
