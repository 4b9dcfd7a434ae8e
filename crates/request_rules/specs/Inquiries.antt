-- What a request meets: the situation whose prices stand in a table that is corrected already.
use Rattle.std.specs.Option.{option_map_or}
use Rattle.std.specs.Prelude.{Bool, List, false, nat_lt, length, ℕ, ◌&&◌, ◌==◌, ◌≡◌}
use Rattle.agent_events.specs.declared.request.AccountForm.{AccountForm}
use Rattle.agent_events.specs.declared.verdict.Caller.{Caller}
use Rattle.forward_price.specs.Orderly.{IsOrderly}
use Rattle.forward_price.specs.PriceTables.{Table, calendar_numbered, class_opened}
use Rattle.forward_price.specs.declared.price_sheet.Opening.{Opening}
use Rattle.fund_calendar.specs.PricingDays.{Listing, lists_day}
use Rattle.register_laws.specs.Identities.{HasNoIdentityTwice}
use Rattle.register_machine.specs.journal.Journals.{Journal}
use Rattle.register_machine.specs.journal.Kinds.{account_numbered, accounts_of, calendars_of, classes_of}
use Rattle.register_machine.specs.pricing.CorrectedBook.{Book}
use Rattle.register_machine.specs.pricing.CorrectedOrders.{orders_of}
use Rattle.register_machine.specs.pricing.DividendRates.{rates_of}
use Rattle.register_machine.specs.rules.NamedThings.{prices_at}
use Rattle.register_machine.specs.rules.Situations.{Situation}

abbrev pub book_with : Table → Journal → Book
book_with table journal = record {
  table = table;
  classes = classes_of journal;
  accounts = accounts_of journal;
  orders = orders_of journal;
  rates = rates_of journal;
}

abbrev pub situation_with : Table → Journal → ℕ → Caller → Situation
situation_with table journal now caller =
    record { journal = journal; book = book_with table journal; now = now; caller = caller }

-- The table is orderly and has the calendars of the journal, in which no identity stands twice. So it is with a lawful
-- journal and its corrected table.
pub record FitsJournal (table : Table) (journal : Journal) : Type 0 where
  pub orderly : IsOrderly table
  pub calendars : length table.calendars ≡ length (calendars_of journal)
  pub once : HasNoIdentityTwice journal

-- a pricing moment of a calendar, and of the calendar of an opening behind it
abbrev pub calendar_prices_at : List Listing → ℕ → ℕ → Bool
calendar_prices_at calendars moment number = option_map_or (prices_at moment) (calendar_numbered calendars number) false

abbrev pub opening_prices_at : List Listing → ℕ → Opening → Bool
opening_prices_at calendars moment opening =
    nat_lt opening.opened moment && calendar_prices_at calendars moment opening.calendar

abbrev pub class_has_moment : Table → ℕ → ℕ → Bool
class_has_moment table moment class =
    option_map_or (opening_prices_at table.calendars moment) (class_opened table.classes class) false

-- a pricing day of a calendar
abbrev pub calendar_lists_day : List Listing → ℕ → ℕ → Bool
calendar_lists_day calendars day number =
    option_map_or (λ listing. lists_day listing day) (calendar_numbered calendars number) false

-- the account of a number is one of the household's, and names the dealer
abbrev pub account_is_of : List AccountForm → ℕ → ℕ → Bool
account_is_of accounts household number =
    option_map_or (λ account. account.household == household) (account_numbered accounts number) false

abbrev pub account_names : List AccountForm → ℕ → ℕ → Bool
account_names accounts dealer number =
    option_map_or (λ account. account.dealer == dealer) (account_numbered accounts number) false
