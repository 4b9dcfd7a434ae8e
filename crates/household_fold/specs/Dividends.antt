-- The dividends of a sheet under the facts that a step reads, in the parts in which they are done.
use Rattle.dividend_reinvest.specs.declared.payment.Payment.{Payment}
use Rattle.dividend_reinvest.specs.declared.payment.Payment.TheVariants as pays
use Rattle.forward_price.specs.PriceTables.{corrected_price}
use Rattle.forward_price.specs.declared.price_sheet.Patch.{Patch}
use Rattle.household_fold.specs.Facts.{Known, book_of_facts, sheet_at_hand}
use Rattle.register_machine.specs.replay.Dividend.{day_after_class, day_after_dividend, day_after_dividends, day_after_payment, day_after_rate}
use Rattle.register_machine.specs.replay.Positions.{PositionKey, mils_of, position_of}
use Rattle.register_machine.specs.replay.Trades.{Day}
use Rattle.share_lots.specs.Lots.{Holding, cost_total, most_cost, most_mils}
use Rattle.std.specs.Prelude.{None, Option, Some, if◌then◌else◌, ℕ, ◌+◌, ◌==◌, ◌≤◌}

-- all of them
abbrev pub dividends_known : Known → Day → Day
dividends_known known day = day_after_dividends (book_of_facts known) (sheet_at_hand known) day

-- those of a class, by its number and net asset value
abbrev pub class_known : Known → Day → ℕ × ℕ → Day
class_known known day price = day_after_class (book_of_facts known).rates (sheet_at_hand known) day price

-- and those of a class at a rate
abbrev pub class_known_at_rate : Known → ℕ → ℕ × ℕ → Day → Day
class_known_at_rate known rate price day = day_after_rate (sheet_at_hand known) rate price day

-- that of one position
abbrev pub dividend_known : Known → ℕ → ℕ → Day → PositionKey → Day
dividend_known known rate nav day key = day_after_dividend (sheet_at_hand known) rate nav day key

-- a payment on the position of an account and class
abbrev pub payment_known : Known → Day → ℕ → ℕ → Payment → Day
payment_known known day account class payment =
    day_after_payment (sheet_at_hand known) day (position_of day.register account class) payment

-- a price of the published sheet, by number, under a correction on trial
abbrev pub price_on_trial : Option Patch → ℕ → ℕ × ℕ → ℕ × ℕ
price_on_trial None number price = price
price_on_trial (Some patch) number price = if number == patch.sheet then corrected_price patch.class patch.nav price else price

-- what is reinvested is a mil or more, and the position stays within its ceiling
abbrev pub KeepsLimits : Holding → Payment → Type 0
KeepsLimits holding pays.Nothing = Unit {0}
KeepsLimits holding (pays.Cash cash) = Unit {0}
KeepsLimits holding (pays.Shares cash mils) =
    (1 ≤ mils) × (mils_of holding + mils ≤ most_mils) × (cost_total holding + cash ≤ most_cost)
