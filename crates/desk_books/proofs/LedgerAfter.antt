-- The ledger behind an event.
use Rattle.std.proofs.Common.{Bool, IfSome, None, Option, Some, [], arith, false, length, refl, subst, sym, true, ℕ, ◌+◌, ◌<◌, ◌||◌, ◌∷◌, ◌≡◌, ◌≤◌}
use Rattle.std.proofs.lemmas.Bool.{true≢false}
use Rattle.std.proofs.lemmas.List.{length-append}
use Rattle.agent_events.specs.Events.{Event}
use Rattle.checkpoint_replay.specs.Parts.{Households}
use Rattle.checkpoint_replay.specs.Tallied.{IsTallied}
use Rattle.desk_books.specs.BooksOfJournals.{IsCashOf}
use Rattle.desk_books.specs.LedgerChanges.{CanPost, HasRoomForLedger, IsLedgerChange, IsPosted}
use Rattle.desk_books.specs.declared.change.LedgerChange.{LedgerChange}
use Rattle.gain_loss_book.specs.Posted.{Books}
use Rattle.ledger_laws.proofs.LedgersOfBooks.{keeps_ledger}
use Rattle.ledger_laws.specs.Ledgers.{IsLedgerOf}
use Rattle.register_laws.specs.Lawful.{book_behind}
use Rattle.register_machine.specs.journal.Journals.{Journal, with_event}
use Rattle.register_machine.specs.journal.Lawful.{IsLawful}

pub neither : (a b : Bool) → (a || b) ≡ false → (a ≡ false) × (b ≡ false)
neither false b e = (refl, e)
neither true b e = absurd (true≢false e)

-- with one event more a journal is longer by one
pub one-longer : (journal : Journal) (event : Event) → length (with_event journal event) ≡ length journal + 1
one-longer journal event = length-append journal (event ∷ [])

-- What a ledger keeps of a journal.
pub record KeepsLedger (journal : Journal) (ledger : Households) : Type 0 where
  pub is : IsLedgerOf (book_behind journal) ledger.parts
  pub tallied : IsTallied ledger
  pub installs : ledger.totals.cash.posts ≤ length journal

-- What a sheet or a correction moves makes of it that of the journal with the event, and any other event leaves it so.
pub ledger_after : (journal : Journal) (event : Event) (place : ℕ) (change : Option LedgerChange) (ledger after : Households) (cash booked : Books) → IsLawful (with_event journal event) → IsLedgerChange journal event ledger.parts change → IsPosted place change ledger cash after booked → KeepsLedger journal ledger → KeepsLedger (with_event journal event) after
ledger_after journal event place None ledger after cash booked lawful plain posted keeps =
    let other = neither _ _ plain in
    let longer = one-longer journal event in
    subst (KeepsLedger (with_event journal event)) (sym posted.0) (record {
      is = keeps_ledger journal event ledger.parts lawful other.1 other.0 keeps.is;
      tallied = keeps.tallied;
      installs = omega (arith, longer, keeps.installs);
    })
ledger_after journal event place (Some change) ledger after cash booked lawful moves posted keeps =
    let longer = one-longer journal event in
    record {
      is = moves.1.leads after.parts posted.0.parts;
      tallied = posted.0.tallied keeps.tallied moves.1.changes;
      installs = omega (arith, longer, posted.0.installs, keeps.installs);
    }

-- What a sheet or a correction brings behind a journal of fewer than 10^8 events can be posted at the end of the journal.
pub can_post : (journal : Journal) (event : Event) (change : Option LedgerChange) (ledger : Households) (cash : Books) (place : ℕ) → place ≡ length journal → length journal < 100000000 → IsLedgerChange journal event ledger.parts change → HasRoomForLedger ledger cash change → ledger.totals.cash.posts ≤ length journal → IsCashOf journal cash → IfSome change (CanPost ledger cash place)
can_post journal event None ledger cash place at few plain room installs is = tt
can_post journal event (Some change) ledger cash place at few moves room installs is =
    let installed : ledger.totals.cash.posts < 100000000 = omega (arith, installs, few) in
    let posted : cash.posts < 100000000 = omega (arith, is.posts, few) in
    record {
      room = room.0;
      rows = room.1;
      limits = record { cash = moves.1.cash; mils = moves.1.mils; count = installed };
      gains = moves.1.gains;
      new = is.no_more place (omega (arith, at));
      posts = posted;
    }
