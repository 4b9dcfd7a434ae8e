-- What a correction makes of a ledger: households that it leaves, and households that are replayed.
use Rattle.std.specs.List.{list_any}
use Rattle.std.specs.Prelude.{Bool, List, [], false, nat_eq, true, ℕ, ◌++◌, ◌∷◌, ◌≡◌, ◌⊎◌}
use Rattle.agent_events.specs.Events.{Event}
use Rattle.checkpoint_replay.specs.Moves.{AreApart, households_of, part_after}
use Rattle.checkpoint_replay.specs.Parts.{first_day, part_in}
use Rattle.checkpoint_replay.specs.declared.change.HouseholdMove.{HouseholdMove}
use Rattle.checkpoint_replay.specs.declared.part.HouseholdPart.{HouseholdPart}
use Rattle.register_laws.specs.EventReplays.{is_correction}
use Rattle.forward_price.specs.PriceTables.{AreNumbered}
use Rattle.forward_price.specs.declared.price_sheet.Sheet.{Sheet}
use Rattle.household_fold.specs.Facts.{Known}
use Rattle.checkpoint_replay.specs.Premises.{CanBeReplayed}
use Rattle.checkpoint_replay.specs.Replays.{NumberedOrder, days_behind, orders_under}
use Rattle.ledger_laws.specs.PartsByFacts.{AreRowsOf, orders_of_part}
use Rattle.ledger_laws.specs.SoundBooks.{IsSoundBook}
use Rattle.ledger_laws.specs.BookFacts.{ServeLastSheet}
use Rattle.ledger_laws.specs.Ledgers.{IsLedgerOf}
use Rattle.register_laws.specs.CorrectionReach.{LeavesPart}
use Rattle.register_laws.specs.Households.{part_of}
use Rattle.register_laws.specs.Lawful.{book_behind}
use Rattle.register_machine.specs.journal.Journals.{Journal, with_event}
use Rattle.register_machine.specs.pricing.CorrectedBook.{Book}
use Rattle.register_machine.specs.replay.Replay.{replay}

-- A household can be replayed from the first sheet as far as the last one, and that gives its part of the book's replay.
pub record ReopensTo (known : Known) (rows : List NumberedOrder) (book : Book) (household : ℕ) : Type 0 where
  pub ready : CanBeReplayed known household rows 0 known.sheet first_day
  pub part : days_behind known rows 0 known.sheet first_day ≡ part_of book.accounts household (replay book)

-- So it is with the facts of a sound book, and the household's orders under the numbers of their sheets.
abbrev pub SoundBooksReopen : Known → List NumberedOrder → Book → ℕ → Type 0
SoundBooksReopen known rows book household =
    IsSoundBook book → ServeLastSheet known book → AreRowsOf rows book household
    → ReopensTo known rows book household

-- Orders that are under the number of each sheet the household's on it, in turn, are so sheet by sheet of a book that numbers them.
abbrev pub StandUnderSheets : List NumberedOrder → Book → ℕ → Type 0
StandUnderSheets rows book household =
    (sheet : Sheet) → orders_under sheet.number rows ≡ orders_of_part book household sheet

abbrev pub StandingAreRows : List NumberedOrder → Book → ℕ → Type 0
StandingAreRows rows book household =
    AreNumbered book.table.sheets → StandUnderSheets rows book household → AreRowsOf rows book household

-- ---- The whole ledger.

-- the household was replayed, by its own orders
pub record IsReopened (known : Known) (book : Book) (new : List (ℕ × HouseholdPart)) (household : ℕ) : Type 0 where
  pub rows : List NumberedOrder
  pub own : AreRowsOf rows book household
  pub part : part_in new household ≡ days_behind known rows 0 known.sheet first_day

-- its part is the same in both books, and stays
pub record IsLeft (before after : Book) (parts new : List (ℕ × HouseholdPart)) (household : ℕ) : Type 0 where
  pub leaves : LeavesPart before after household
  pub part : part_in new household ≡ part_in parts household

abbrev pub EachIsReopenedOrLeft : Known → Book → Book → List (ℕ × HouseholdPart) → List (ℕ × HouseholdPart) → Type 0
EachIsReopenedOrLeft known before after parts new =
    (household : ℕ) → IsReopened known after new household ⊎ IsLeft before after parts new household

-- From a ledger of one book to one of another of the same accounts, by its facts.
abbrev pub LedgerIsCorrected : Known → Book → Book → List (ℕ × HouseholdPart) → List (ℕ × HouseholdPart) → Type 0
LedgerIsCorrected known before after parts new =
    ServeLastSheet known after → after.accounts ≡ before.accounts
    → IsLedgerOf before parts → EachIsReopenedOrLeft known before after parts new
    → IsLedgerOf after new

-- ---- Its moves.

abbrev pub is_moved : List HouseholdMove → ℕ → Bool
is_moved moves household = list_any (nat_eq household) (households_of moves)

-- the household is moved to what its replay leaves, by its own orders
pub record IsMovedByReplay (known : Known) (book : Book) (parts : List (ℕ × HouseholdPart)) (moves : List HouseholdMove) (household : ℕ) : Type 0 where
  pub rows : List NumberedOrder
  pub own : AreRowsOf rows book household
  pub part : part_after moves parts household ≡ days_behind known rows 0 known.sheet first_day

-- all that are moved are
abbrev pub AreReopenings : Known → Book → List (ℕ × HouseholdPart) → List HouseholdMove → Type 0
AreReopenings known book parts moves =
    (household : ℕ) → is_moved moves household ≡ true → IsMovedByReplay known book parts moves household

-- One household that is replayed by its own orders, and no other one.
abbrev pub OneIsReopened : Known → List NumberedOrder → Book → List (ℕ × HouseholdPart) → List HouseholdMove → ℕ → Type 0
OneIsReopened known rows book parts moves household =
    AreRowsOf rows book household → households_of moves ≡ household ∷ []
    → part_after moves parts household ≡ days_behind known rows 0 known.sheet first_day
    → AreReopenings known book parts moves

-- Moves that reopen households, and others behind them that reopen other ones.
abbrev pub ReopeningsJoin : Known → Book → List (ℕ × HouseholdPart) → List HouseholdMove → List HouseholdMove → Type 0
ReopeningsJoin known book parts moves others =
    AreApart (moves ++ others) → AreReopenings known book parts moves → AreReopenings known book parts others
    → AreReopenings known book parts (moves ++ others)

-- the part of each household that isn't moved is the same in both books
abbrev pub LeavesUnmoved : Book → Book → List HouseholdMove → Type 0
LeavesUnmoved before after moves =
    (household : ℕ) → is_moved moves household ≡ false → LeavesPart before after household

-- So a ledger is corrected by moves that reopen each household whose part may change.
abbrev pub ReopeningsCorrect : Known → Book → Book → List (ℕ × HouseholdPart) → List (ℕ × HouseholdPart) → List HouseholdMove → Type 0
ReopeningsCorrect known before after parts new moves =
    ServeLastSheet known after → after.accounts ≡ before.accounts
    → IsLedgerOf before parts → AreReopenings known after parts moves → LeavesUnmoved before after moves
    → ((household : ℕ) → part_in new household ≡ part_after moves parts household)
    → IsLedgerOf after new

-- ---- Accounts.

-- A correction opens no account.
abbrev pub CorrectionKeepsAccounts : Journal → Event → Type 0
CorrectionKeepsAccounts journal event =
    is_correction event.kind ≡ true
    → (book_behind (with_event journal event)).accounts ≡ (book_behind journal).accounts
