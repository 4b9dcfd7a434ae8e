-- What a sheet or a correction makes of the ledger, with what is booked of it.
use Rattle.std.specs.Prelude.{None, Option, Some, List, false, if◌then◌else◌, true, ℕ, ◌+◌, ◌+ℤ◌, ◌<◌, ◌==◌, ◌≡◌, ◌≤◌, ◌||◌}
use Rattle.agent_events.specs.Events.{Event}
use Rattle.agent_events.specs.declared.order.Party.{Party}
use Rattle.checkpoint_replay.specs.Differences.{AreChangesOf}
use Rattle.checkpoint_replay.specs.Moves.{HasRoomFor, Moves, part_after}
use Rattle.checkpoint_replay.specs.Parts.{Households, part_in}
use Rattle.checkpoint_replay.specs.Tallied.{IsTallied}
use Rattle.checkpoint_replay.specs.Totals.{AreWithinLimits}
use Rattle.checkpoint_replay.specs.declared.part.HouseholdPart.{HouseholdPart}
use Rattle.desk_books.specs.declared.change.LedgerChange.{LedgerChange}
use Rattle.register_laws.specs.EventReplays.{is_correction, is_sheet}
use Rattle.gain_loss_book.specs.Booked.{AreDifferences, correction_at}
use Rattle.gain_loss_book.specs.ClassGains.{most_mils, size_of_mils}
use Rattle.gain_loss_book.specs.Posted.{Books, cash_held, cash_posted, gains_by, gains_kept, most_cash, most_gains, most_posts, rows_posted, size_of_cash, size_of_correction}
use Rattle.ledger_laws.specs.Ledgers.{IsLedgerOf}
use Rattle.register_laws.specs.Lawful.{book_behind}
use Rattle.register_machine.specs.journal.Journals.{Journal, with_event}
use Rattle.register_machine.specs.replay.Replay.{replay}

-- Parts of a ledger of the journal's book, moved so, are a ledger of the book behind the event; what is booked is by how much the
-- two replays differ, and for a correction its gains; and all of it keeps the limits of a post.
pub record MovesLedger (journal : Journal) (event : Event) (parts : List (ℕ × HouseholdPart)) (change : LedgerChange) : Type 0 where
  pub leads : (new : List (ℕ × HouseholdPart))
      → ((household : ℕ) → part_in new household ≡ part_after change.change.moves parts household)
      → IsLedgerOf (book_behind (with_event journal event)) new
  pub changes : AreChangesOf change.change.changes parts change.change.moves
  pub differences : AreDifferences change.change.changes (replay (book_behind journal)) (replay (book_behind (with_event journal event)))
  pub correction : change.correction ≡ correction_at journal event
  pub cash : size_of_cash change.change.changes.cash ≤ most_cash
  pub mils : size_of_mils change.change.changes.outstanding ≤ most_mils
  pub gains : size_of_correction change.correction ≤ most_gains

-- a sheet and a correction move the ledger; no other event does
abbrev pub IsLedgerChange : Journal → Event → List (ℕ × HouseholdPart) → Option LedgerChange → Type 0
IsLedgerChange journal event parts None = (is_sheet event.kind || is_correction event.kind) ≡ false
IsLedgerChange journal event parts (Some change) =
    ((is_sheet event.kind || is_correction event.kind) ≡ true) × MovesLedger journal event parts change

-- ---- Room for it, and what is moved and posted.

-- there is room for the moves and for what is posted
abbrev pub HasRoomForLedger : Households → Books → Option LedgerChange → Type 0
HasRoomForLedger ledger cash None = Unit {0}
HasRoomForLedger ledger cash (Some change) =
    HasRoomFor ledger change.change × (rows_posted change.change.changes.cash change.correction ≤ cash.room)

-- It can be moved and posted at a place of the journal: there is room, it keeps the limits, and nothing was posted there.
pub record CanPost (ledger : Households) (cash : Books) (place : ℕ) (change : LedgerChange) : Type 0 where
  pub room : HasRoomFor ledger change.change
  pub rows : rows_posted change.change.changes.cash change.correction ≤ cash.room
  pub limits : AreWithinLimits ledger.totals change.change.changes
  pub gains : size_of_correction change.correction ≤ most_gains
  pub new : gains_kept cash place ≡ None
  pub posts : cash.posts < most_posts

-- the households are moved, once more, and the totals stay sums
pub record HasMoved (moves : Moves) (before after : Households) : Type 0 where
  pub parts : (household : ℕ) → part_in after.parts household ≡ part_after moves.moves before.parts household
  pub installs : after.totals.cash.posts ≡ before.totals.cash.posts + 1
  pub tallied : IsTallied before → AreChangesOf moves.changes before.parts moves.moves → IsTallied after

-- the changes of cash and the payments of a correction are booked, and its gains kept at the place
pub record HasPosted (place : ℕ) (change : LedgerChange) (before after : Books) : Type 0 where
  pub balances : (party : Party) → cash_held after party ≡ cash_held before party +ℤ cash_posted change.change.changes.cash change.correction party
  pub gains : (other : ℕ) → gains_kept after other ≡ (if place == other then gains_by change.correction else gains_kept before other)
  pub posts : after.posts ≡ before.posts + 1

-- what a sheet or a correction brings is moved and posted, and else nothing is
abbrev pub IsPosted : ℕ → Option LedgerChange → Households → Books → Households → Books → Type 0
IsPosted place None ledger cash ledger_after cash_after = (ledger_after ≡ ledger) × (cash_after ≡ cash)
IsPosted place (Some change) ledger cash ledger_after cash_after =
    HasMoved change.change ledger ledger_after × HasPosted place change cash cash_after
