-- Two books that agree on what the step of a sheet reads of the accounts and classes that are known: terms of the classes,
-- households of the accounts, the last prices before the sheet, its rates and its orders.
use Rattle.std.specs.Prelude.{All, Bool, List, Some, filter, true, ℕ, ◌≡◌}
use Rattle.agent_events.specs.declared.order.OrderRow.{OrderRow}
use Rattle.forward_price.specs.PriceTables.{price_before}
use Rattle.forward_price.specs.declared.price_sheet.Sheet.{Sheet}
use Rattle.register_machine.specs.journal.Kinds.{household_of}
use Rattle.register_machine.specs.pricing.CorrectedBook.{Book, counts, front_of, schedule_of}
use Rattle.register_machine.specs.pricing.CorrectedOrders.{stands}
use Rattle.register_machine.specs.pricing.OrderClasses.{class_of, target_of}
use Rattle.register_machine.specs.pricing.DividendRates.{rate_at}
use Rattle.register_machine.specs.replay.Replay.{orders_on, priced_orders, replay_over}

-- the terms of the classes that are known, and the households of the accounts that are known
pub record TermsAgree (book other : Book) (known named : ℕ → Bool) : Type 0 where
  pub front : (class : ℕ) → named class ≡ true → front_of book class ≡ front_of other class
  pub schedule : (class : ℕ) → named class ≡ true → schedule_of book class ≡ schedule_of other class
  pub counted : (class : ℕ) → named class ≡ true → counts book class ≡ counts other class
  pub household : (account : ℕ) → known account ≡ true
      → household_of book.accounts account ≡ household_of other.accounts account

-- the rate of a price of a sheet
abbrev pub RatesAgree : Book → Book → Sheet → ℕ × ℕ → Type 0
RatesAgree book other sheet price =
    rate_at book.rates price.0 sheet.moment ≡ rate_at other.rates price.0 sheet.moment

-- what is read on one sheet
pub record SheetAgrees (book other : Book) (sheet : Sheet) : Type 0 where
  pub before : (class : ℕ)
      → price_before book.table.sheets class sheet.moment ≡ price_before other.table.sheets class sheet.moment
  pub rates : All (RatesAgree book other sheet) sheet.prices
  pub orders : orders_on (priced_orders other) sheet ≡ orders_on (priced_orders book) sheet

-- an order of an account that is known, in classes that are known
pub record IsKnownRow (known named : ℕ → Bool) (row : OrderRow) : Type 0 where
  pub account : known row.order.account ≡ true
  pub own : named (class_of row.order.body) ≡ true
  pub target : (to : ℕ) → target_of row.order.body ≡ Some to → named to ≡ true

-- Where all standing orders are of known accounts and classes, both books replay the same over such sheets.
abbrev pub ReplaysAlike : Book → Book → (ℕ → Bool) → (ℕ → Bool) → List Sheet → Type 0
ReplaysAlike book other known named sheets =
    TermsAgree book other known named → All (SheetAgrees book other) sheets
    → All (IsKnownRow known named) (filter stands book.orders)
    → replay_over book sheets ≡ replay_over other sheets
