-- A book whose prices, rates and counts are within the limits, as that of a lawful journal is.
use Rattle.std.specs.List.{list_any}
use Rattle.std.specs.Prelude.{All, Bool, List, filter, length, true, ℕ, ◌≡◌, ◌≤◌}
use Rattle.agent_events.specs.declared.order.OrderRow.{OrderRow}
use Rattle.agent_events.specs.declared.request.AccountForm.{AccountForm}
use Rattle.limit_laws.specs.Counts.{most_accounts, most_listings, most_orders_begun, prices_listed}
use Rattle.limit_laws.specs.InForm.{most_rate}
use Rattle.register_laws.specs.Identities.{has_number}
use Rattle.register_laws.specs.ReplayKeeps.{IsInRange, IsWithinLimits}
use Rattle.register_laws.specs.Trades.{IsOrderly}
use Rattle.register_machine.specs.pricing.CorrectedBook.{Book}
use Rattle.register_machine.specs.pricing.CorrectedOrders.{stands}
use Rattle.register_machine.specs.pricing.DividendRates.{Rates, rate_at}

-- the account is one of these
abbrev pub stands_among : List AccountForm → ℕ → Bool
stands_among accounts number = list_any (has_number number) accounts

-- an order of one of the accounts
abbrev pub IsPlacedAmong : List AccountForm → OrderRow → Type 0
IsPlacedAmong accounts row = stands_among accounts row.order.account ≡ true

-- no class pays more than the greatest rate at any moment
abbrev pub RatesInRange : Rates → Type 0
RatesInRange rates = (class moment : ℕ) → rate_at rates class moment ≤ most_rate

-- each trade of such a book is small
pub record IsLimited (book : Book) : Type 0 where
  pub orderly : IsOrderly book
  pub within : IsWithinLimits book
  pub in_range : IsInRange book
  pub rates : RatesInRange book.rates
  pub placed : All (IsPlacedAmong book.accounts) (filter stands book.orders)

-- and there are few of them
pub record IsCounted (book : Book) : Type 0 where
  pub accounts : length book.accounts ≤ most_accounts
  pub orders : length (filter stands book.orders) ≤ most_orders_begun
  pub prices : prices_listed book.table.sheets ≤ most_listings
