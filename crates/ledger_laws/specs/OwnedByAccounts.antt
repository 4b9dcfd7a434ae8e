-- Whose a household's positions and orders are, what its part keeps within limits, and that each of its steps can be taken.
use Rattle.std.specs.Prelude.{All, AllPairs, List, count_by, length, slice_index_or, true, ℕ, ◌+◌, ◌<◌, ◌==◌, ◌≡◌, ◌≤◌}
use Rattle.agent_events.specs.declared.order.Order.{Order}
use Rattle.forward_price.specs.declared.price_sheet.Sheet.{Sheet}
use Rattle.household_fold.specs.Facts.{FactsFit, Known, rate_stands_before}
use Rattle.household_fold.specs.Households.{AreOrdersOf, AreOwned, step_known}
use Rattle.household_fold.specs.Limits.{AreLettersWithin, AreLotsWithin}
use Rattle.household_fold.specs.Numbers.{AreNumbersWithin}
use Rattle.checkpoint_replay.specs.Replays.{NumberedOrder, days_behind, known_on, orders_under}
use Rattle.ledger_laws.specs.PartsByFacts.{AreFactsOf, AreRowsOf, orders_of_part}
use Rattle.ledger_laws.specs.SoundBooks.{HaveTerms, IsSoundBook}
use Rattle.register_laws.specs.Households.{part_of}
use Rattle.register_laws.specs.ReplayKeeps.{IsInRange, IsWithinLimits}
use Rattle.register_laws.specs.Trades.{IsOrderly}
use Rattle.register_machine.specs.pricing.CorrectedBook.{Book}
use Rattle.register_machine.specs.replay.Positions.{Register}
use Rattle.register_machine.specs.replay.Replay.{replay_to}
use Rattle.register_machine.specs.replay.Trades.{Day}

-- ---- Owners.

-- The positions of a household's part are its own, in classes that have their terms, after any number of sheets; and its orders on
-- each sheet are its own, of classes that the sheet lists.
pub record OwnedByAccounts (known : Known) (book : Book) (household : ℕ) : Type 0 where
  pub positions : (number : ℕ)
      → AreOwned known household (part_of book.accounts household (replay_to book number)).register
  pub orders : (place : ℕ) (d : Sheet) → place < length book.table.sheets
      → AreOrdersOf (known_on known (place + 1)) household
      (orders_of_part book household (slice_index_or book.table.sheets place d))

abbrev pub SoundPartsAreOwned : Known → Book → ℕ → Type 0
SoundPartsAreOwned known book household =
    IsSoundBook book → AreFactsOf known book → HaveTerms known book → OwnedByAccounts known book household

-- ---- Limits.

-- After any number of sheets the numbers of lots in a household's part are within 32 bits, and its open letters keep their limits
-- where the book is within limits and in range.
pub record LotNumbersWithin (book : Book) (household : ℕ) : Type 0 where
  pub lots : (number : ℕ) → AreLotsWithin (part_of book.accounts household (replay_to book number)).register
  pub numbers : (number : ℕ) → AreNumbersWithin (part_of book.accounts household (replay_to book number)).register
  pub letters : IsWithinLimits book → IsInRange book → (number : ℕ)
      → AreLettersWithin (part_of book.accounts household (replay_to book number)).register

abbrev pub OrderlyNumbersWithin : Book → ℕ → Type 0
OrderlyNumbersWithin book household = IsOrderly book → LotNumbersWithin book household

-- ---- Steps.

-- the tables of the facts stand by number, and are within limits
pub record TablesStand (known : Known) : Type 0 where
  pub terms_rise : AllPairs (λ a b. a.class < b.class) known.terms
  pub accounts_rise : AllPairs (λ a b. a.account < b.account) known.accounts
  pub rates_rise : AllPairs (λ a b. rate_stands_before b.class b.moment a ≡ true) known.rates
  pub rates_within : All (λ row. row.rate ≤ 1000000000) known.rates
  pub few_terms : length known.terms ≤ 1000
  pub few_accounts : (household : ℕ) → count_by (λ row. row.household == household) known.accounts ≤ 64

-- All that a step of a household asks for: facts that fit, positions and orders of its own, and lots behind the step with numbers
-- within 32 bits.
pub record CanStep (known : Known) (orders : List Order) (household : ℕ) (register : Register) : Type 0 where
  pub facts : FactsFit known
  pub owned : AreOwned known household register
  pub orders_owned : AreOrdersOf known household orders
  pub lots : AreNumbersWithin (step_known known orders register).register

-- A household can step over each sheet of a sound book from its part before that sheet.
abbrev pub StepsOverEachSheet : Known → Book → ℕ → Type 0
StepsOverEachSheet known book household =
    (place : ℕ) (d : Sheet) → place < length book.table.sheets
    → CanStep (known_on known (place + 1)) (orders_of_part book household (slice_index_or book.table.sheets place d)) household
    (part_of book.accounts household (replay_to book place)).register

abbrev pub SoundBooksLetStep : Known → Book → ℕ → Type 0
SoundBooksLetStep known book household =
    IsSoundBook book → AreFactsOf known book → HaveTerms known book → TablesStand known
    → StepsOverEachSheet known book household

-- ---- Replays.

-- All that a replay of a household over so many sheets asks for: facts that fit each sheet, orders and positions of its own, and
-- lots behind the last one with numbers within 32 bits.
pub record CanReplay (known : Known) (rows : List NumberedOrder) (household from count : ℕ) (day : Day) : Type 0 where
  pub facts : (sheet : ℕ) → from < sheet → sheet ≤ from + count → FactsFit (known_on known sheet)
  pub orders : (sheet : ℕ) → from < sheet → sheet ≤ from + count
      → AreOrdersOf (known_on known sheet) household (orders_under sheet rows)
  pub owned : AreOwned known household day.register
  pub lots : AreNumbersWithin (days_behind known rows from count day).register

-- A household can be replayed over the sheets of a sound book from its part behind any of them.
abbrev pub ReplaysFromEachSheet : Known → List NumberedOrder → Book → ℕ → Type 0
ReplaysFromEachSheet known rows book household =
    (from count : ℕ) → from + count ≤ length book.table.sheets
    → CanReplay known rows household from count (part_of book.accounts household (replay_to book from))

abbrev pub SoundBooksLetReplay : Known → List NumberedOrder → Book → ℕ → Type 0
SoundBooksLetReplay known rows book household =
    IsSoundBook book → AreFactsOf known book → HaveTerms known book → TablesStand known → AreRowsOf rows book household
    → ReplaysFromEachSheet known rows book household
