-- One household's steps by facts and its part of a whole replay.
use Rattle.std.specs.Prelude.{List, length, slice_index_or, ℕ, ◌+◌, ◌<◌, ◌≡◌, ◌≤◌}
use Rattle.agent_events.specs.declared.order.Order.{Order}
use Rattle.forward_price.specs.PriceTables.{AreNumbered}
use Rattle.forward_price.specs.declared.price_sheet.Sheet.{Sheet}
use Rattle.household_fold.specs.Facts.{Known, book_of_facts, sheet_at_hand, sheets_known}
use Rattle.household_fold.specs.Households.{orders_of}
use Rattle.checkpoint_replay.specs.Replays.{NumberedOrder, day_behind, days_behind, known_on, orders_under}
use Rattle.register_laws.specs.AlikeBooks.{BooksAlike}
use Rattle.register_laws.specs.Households.{own_orders, part_of}
use Rattle.register_laws.specs.ReplayKeeps.{AreInOrder}
use Rattle.register_machine.specs.pricing.CorrectedBook.{Book}
use Rattle.register_machine.specs.replay.Replay.{day_after_sheet, first_day, orders_on, priced_orders, replay, replay_over, replay_to}
use Rattle.register_machine.specs.replay.Trades.{Day}

-- the orders of a household on a sheet of a book, in turn
abbrev pub orders_of_part : Book → ℕ → Sheet → List Order
orders_of_part book household sheet =
    orders_of (own_orders book.accounts household (orders_on (priced_orders book) sheet))

-- ---- One sheet.

-- Facts that agree with a book and have the sheet at hand: a sheet does to the part of a household what the household's step by
-- the facts does, on every register that stands in order.
abbrev pub StepsAsPart : Book → Known → ℕ → Sheet → Day → Type 0
StepsAsPart book known household sheet day =
    BooksAlike (book_of_facts known) book → sheet_at_hand known ≡ sheet → AreInOrder day.register
    → part_of book.accounts household (day_after_sheet book (priced_orders book) day sheet)
    ≡ day_behind known (orders_of_part book household sheet) (part_of book.accounts household day)

-- ---- All sheets.

-- facts that agree with a book, and have each of its sheets at hand under its number: the first under 1
pub record AreFactsOf (known : Known) (book : Book) : Type 0 where
  pub alike : BooksAlike (book_of_facts known) book
  pub at_hand : (place : ℕ) (d : Sheet) → place < length book.table.sheets
      → sheet_at_hand (known_on known (place + 1)) ≡ slice_index_or book.table.sheets place d

-- the orders under the number of each sheet are those of the household on it, in turn
pub record AreRowsOf (rows : List NumberedOrder) (book : Book) (household : ℕ) : Type 0 where
  pub on_sheet : (place : ℕ) (d : Sheet) → place < length book.table.sheets
      → orders_under (place + 1) rows ≡ orders_of_part book household (slice_index_or book.table.sheets place d)

-- the household's days are its part of the replay: over so many sheets from any one on, from the first one on, and over all
pub record ReplaysAsPart (known : Known) (rows : List NumberedOrder) (book : Book) (household : ℕ) : Type 0 where
  pub from_any : (from count : ℕ) → from + count ≤ length book.table.sheets
      → part_of book.accounts household (replay_to book (from + count))
      ≡ days_behind known rows from count (part_of book.accounts household (replay_to book from))
  pub from_first : (number : ℕ) → number ≤ length book.table.sheets
      → part_of book.accounts household (replay_to book number) ≡ days_behind known rows 0 number first_day
  pub whole : part_of book.accounts household (replay book)
      ≡ days_behind known rows 0 (length book.table.sheets) first_day

abbrev pub FactsReplayPart : Known → List NumberedOrder → Book → ℕ → Type 0
FactsReplayPart known rows book household =
    AreFactsOf known book → AreRowsOf rows book household → ReplaysAsPart known rows book household

-- Facts whose sheets are the book's have them at hand, where these are numbered from 1 on.
abbrev pub SheetsGiveFacts : Known → Book → Type 0
SheetsGiveFacts known book =
    BooksAlike (book_of_facts known) book → sheets_known known ≡ book.table.sheets → AreNumbered book.table.sheets
    → AreFactsOf known book

-- ---- The order of positions.

-- Every replay's register stands in order: one position for an account and class, by account and then class.
abbrev pub StandsInOrder : Book → List Sheet → Type 0
StandsInOrder book sheets = AreInOrder (replay_over book sheets).register
