-- What the households that were reopened so far come to.
use Rattle.std.specs.List.{Any, IsDistinct, sum_by}
use Rattle.std.specs.List.Sorted.{IsStrictlyIncreasing}
use Rattle.std.specs.Prelude.{All, Contains, List, None, Option, Some, [], find, length, nat_eq, true, ℕ, ◌*◌, ◌+◌, ◌≤◌, ◌++◌, ◌∷◌, ◌≡◌}
use Rattle.agent_events.specs.Events.{Event}
use Rattle.agent_events.specs.declared.order.OrderRow.{OrderRow}
use Rattle.agent_events.specs.declared.trade.Trade.{Trade}
use Rattle.checkpoint_replay.specs.Moves.{AreOwnMoves, households_of, part_after}
use Rattle.checkpoint_replay.specs.Parts.{first_day}
use Rattle.checkpoint_replay.specs.declared.change.HouseholdMove.{HouseholdMove}
use Rattle.desk_books.specs.FirstOfAll.{IsFirstOfPart, first_in_part}
use Rattle.desk_books.specs.Least.{IsLeastOf, with_broken}
use Rattle.desk_books.specs.HouseholdsReopened.{AreReached}
use Rattle.desk_books.specs.Turns.{turn_in}
use Rattle.desk_books.specs.declared.least.BrokenTrade.{BrokenTrade}
use Rattle.desk_books.specs.declared.turns.Turn.{Turn}
use Rattle.desk_books.specs.Fresh.{IsOnTrial}
use Rattle.desk_books.specs.Served.{ServeTrial}
use Rattle.desk_books.specs.Starts.{sheets_replayed}
use Rattle.desk_books.specs.BooksOfJournals.{AreBooksOf}
use Rattle.desk_books.specs.declared.books.DeskBooks.{DeskBooks}
use Rattle.register_laws.specs.EventReplays.{is_correction}
use Rattle.household_fold.specs.Facts.{Known}
use Rattle.checkpoint_replay.specs.Replays.{NumberedOrder, days_behind}
use Rattle.ledger_laws.specs.PartsByFacts.{AreRowsOf}
use Rattle.ledger_laws.specs.CorrectedLedgers.{AreReopenings}
use Rattle.register_laws.specs.Lawful.{book_behind}
use Rattle.register_machine.specs.journal.Journals.{Journal, with_event}
use Rattle.register_machine.specs.journal.Kinds.{accounts_of}
use Rattle.register_machine.specs.replay.Replay.{replay}
use Rattle.register_machine.specs.rules.Breaks.{is_broken, order_corrected}

-- A correction on trial over the books of a journal, with facts that serve it.
pub record IsTriedOver (books : DeskBooks) (event : Event) (known : Known) : Type 0 where
  pub books_are : AreBooksOf books.book.journal books
  pub corrects : is_correction event.kind ≡ true
  pub trial : IsOnTrial books.book.journal event
  pub serve : ServeTrial known books.book.journal event

-- ---- One household.

-- the first trade that the correction breaks in its part
abbrev pub broken_in : Journal → Event → ℕ → Option Trade
broken_in journal event household =
    first_in_part (order_corrected event.kind) (replay (book_behind journal)) (accounts_of journal) household
    (replay (book_behind (with_event journal event)))

-- none of these trades is unfilled where the same order is filled among them
abbrev pub AreUnbroken : List Trade → Type 0
AreUnbroken trades = find (is_broken None trades) trades ≡ None

-- The least of the broken trades with that of one household more, where it has one; each with its turn among these orders.
abbrev pub SeesBroken : List OrderRow → Option Trade → Option BrokenTrade → Option BrokenTrade → Type 0
SeesBroken orders None old new = new ≡ old
SeesBroken orders (Some trade) old new =
    (turn : Turn) × (turn_in orders trade ≡ Some turn) × (new ≡ with_broken (record { turn = turn; trade = trade }) old)

-- ---- All so far.

-- The households are moved to what their replays on trial leave, and of the first broken trades of their parts the least one is known.
pub record AreReopened (books : DeskBooks) (event : Event) (known : Known) (done : List ℕ) (moves : List HouseholdMove) (first : Option BrokenTrade) : Type 0 where
  pub households : households_of moves ≡ done
  pub own : AreOwnMoves moves
  pub reopened : AreReopenings known (book_behind (with_event books.book.journal event)) books.ledger.parts moves
  pub brokens : List BrokenTrade
  pub each : All (IsFirstOfPart (book_behind (with_event books.book.journal event)) (order_corrected event.kind) (replay (book_behind books.book.journal)) (accounts_of books.book.journal)) brokens
  pub seen : (household : ℕ) → Contains done household → (trade : Trade)
      → broken_in books.book.journal event household ≡ Some trade → Any (λ broken. broken.trade ≡ trade) brokens
  pub least : IsLeastOf brokens first

-- So they are with one household more, which isn't among them.
abbrev pub ReopensMore : DeskBooks → Event → Known → ℕ → Option BrokenTrade → HouseholdMove → Option BrokenTrade → Type 0
ReopensMore books event known household first moved more =
    (done : List ℕ) (moves : List HouseholdMove) → IsDistinct nat_eq (done ++ household ∷ [])
    → AreReopened books event known done moves first
    → AreReopened books event known (done ++ household ∷ []) (moves ++ moved ∷ []) more

-- What the replay of one household makes: it moves that household, to what its orders on trial leave.
pub record IsOneMore (books : DeskBooks) (event : Event) (known : Known) (household : ℕ) (moved : HouseholdMove) : Type 0 where
  pub rows : List NumberedOrder
  pub orders : AreRowsOf rows (book_behind (with_event books.book.journal event)) household
  pub only : moved.household ≡ household
  pub own : moved.state.number ≡ moved.household
  pub day : part_after (moved ∷ []) books.ledger.parts household ≡ days_behind known rows 0 known.sheet first_day

-- ---- All that the correction reaches.

pub record IsReopenedWhole (books : DeskBooks) (event : Event) (known : Known) (moves : List HouseholdMove) (first : Option BrokenTrade) : Type 0 where
  pub households : List ℕ
  pub rising : IsStrictlyIncreasing households
  pub reached : AreReached books.book.journal event.kind households
  pub all : AreReopened books event known households moves first

-- For each household that the correction reaches, each once, at most as many steps as there are sheets; and no more than there are behind the
-- last state that is kept of it behind a sheet before this one.
pub record TakesFewSteps (books : DeskBooks) (event : Event) (touched before after : ℕ) : Type 0 where
  pub households : List ℕ
  pub rising : IsStrictlyIncreasing households
  pub reached : AreReached books.book.journal event.kind households
  pub few : after ≤ before + length households * length (book_behind books.book.journal).table.sheets
  pub behind : after ≤ before + sum_by (sheets_replayed books.kept touched (length books.prices.table.sheets)) households
