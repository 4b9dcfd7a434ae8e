-- A class that is noted has as many loads as its row may have: a lawful journal brings no other.
use Rattle.std.proofs.Common.{Bool, None, Option, Some, cond, false, is_none, refl, sym, true, ℕ, ◌≡◌}
use Rattle.std.specs.Prelude.{IfSome}
use Rattle.std.proofs.lemmas.Bool.{and_parts, true≢false}
use Rattle.agent_events.specs.declared.event.EventKind.{EventKind}
use Rattle.register_desk.specs.Answered.{IsReadyToNote}
use Rattle.desk_books.specs.declared.books.DeskBooks.{DeskBooks}
use Rattle.desk_books.specs.declared.change.EventChange.{EventChange}
use Rattle.event_rows.specs.InForm.{has_deferred_rates, has_front_rows, has_loads}
use Rattle.reference_tables.proofs.EventTables.{brings_loads}
use Rattle.reference_tables.specs.Tables.{brings_good_loads}

-- good loads have their counts
counted : (are : Bool) (found : Option ℕ) (place : ℕ) → is_none (cond are found (Some place)) ≡ true → are ≡ true
counted true found place none = refl
counted false found place none = absurd (true≢false (sym none))

good-have-counts : (kind : EventKind) → brings_good_loads kind ≡ true → has_loads kind ≡ true
good-have-counts (EventKind.Class form) good =
    let parts = and_parts _ _ good in
    rw (counted (has_front_rows form.front) _ _ parts.0, counted (has_deferred_rates form.deferred) _ _ parts.1) refl
good-have-counts _ good = refl

pub noted_loads : (books : DeskBooks) (change : Option EventChange) → IsReadyToNote books change → IfSome change (λ noted. has_loads noted.event.kind ≡ true)
noted_loads books None ready = tt
noted_loads books (Some change) ready = good-have-counts change.event.kind (brings_loads books.book.journal change.event ready.follows)
