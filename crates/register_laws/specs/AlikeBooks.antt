-- Two books that agree on all that a sheet's step looks up.
use Rattle.std.specs.Prelude.{List, ℕ, ◌≡◌}
use Rattle.agent_events.specs.declared.order.OrderRow.{OrderRow}
use Rattle.forward_price.specs.PriceTables.{price_before}
use Rattle.forward_price.specs.declared.price_sheet.Sheet.{Sheet}
use Rattle.register_machine.specs.journal.Kinds.{household_of}
use Rattle.register_machine.specs.pricing.CorrectedBook.{Book, counts, front_of, schedule_of}
use Rattle.register_machine.specs.pricing.DividendRates.{rate_at}
use Rattle.register_machine.specs.replay.DayStep.{day_step}
use Rattle.register_machine.specs.replay.Trades.{Day}

-- The terms of each class, the household of each account, each rate, and each price before a moment are the same.
pub record BooksAlike (book other : Book) : Type 0 where
  pub price : (class moment : ℕ)
      → price_before book.table.sheets class moment ≡ price_before other.table.sheets class moment
  pub front : (class : ℕ) → front_of book class ≡ front_of other class
  pub schedule : (class : ℕ) → schedule_of book class ≡ schedule_of other class
  pub counted : (class : ℕ) → counts book class ≡ counts other class
  pub household : (account : ℕ) → household_of book.accounts account ≡ household_of other.accounts account
  pub rate : (class moment : ℕ) → rate_at book.rates class moment ≡ rate_at other.rates class moment

-- So a sheet does the same in both.
abbrev pub AlikeBooksStepAlike : Book → Book → Sheet → List OrderRow → Day → Type 0
AlikeBooksStepAlike book other sheet rows day =
    BooksAlike book other → day_step book sheet rows day ≡ day_step other sheet rows day
