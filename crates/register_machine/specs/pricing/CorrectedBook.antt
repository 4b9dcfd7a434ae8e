-- The corrected book: all that a replay reads of a journal. The table has its corrected prices, the orders their corrections.
use Rattle.std.specs.Option.{option_map_or}
use Rattle.std.specs.Prelude.{Bool, List, Option, [], ℕ, false, option_map}
use Rattle.agent_events.specs.declared.order.Body.{Body}
use Rattle.agent_events.specs.declared.order.OrderRow.{OrderRow}
use Rattle.agent_events.specs.declared.request.AccountForm.{AccountForm}
use Rattle.agent_events.specs.declared.request.ClassForm.{ClassForm}
use Rattle.class_terms.specs.declared.lists.Bracket.{Bracket}
use Rattle.forward_price.specs.PriceTables.{Table, next_sheet}
use Rattle.forward_price.specs.Turns.{due_of}
use Rattle.forward_price.specs.declared.price_sheet.Sheet.{Sheet}
use Rattle.register_machine.specs.journal.Journals.{Journal}
use Rattle.register_machine.specs.journal.Kinds.{accounts_of, class_numbered, classes_of}
use Rattle.register_machine.specs.pricing.CorrectedOrders.{orders_of}
use Rattle.register_machine.specs.pricing.CorrectedPrices.{table_as_corrected}
use Rattle.register_machine.specs.pricing.DividendRates.{Rates, rates_of}
use Rattle.register_machine.specs.pricing.OrderClasses.{classes_in}

-- the book
pub record Book : Type 0 where
  pub table : Table
  pub classes : List ClassForm
  pub accounts : List AccountForm
  pub orders : List OrderRow
  pub rates : Rates

abbrev pub book_of : Table → Journal → Book
book_of table journal = record {
  table = table_as_corrected journal table;
  classes = classes_of journal;
  accounts = accounts_of journal;
  orders = orders_of journal;
  rates = rates_of journal;
}

-- the terms of a class
abbrev pub front_of : Book → ℕ → List Bracket
front_of book class = option_map_or (λ terms. terms.front) (class_numbered book.classes class) []

abbrev pub schedule_of : Book → ℕ → List ℕ
schedule_of book class = option_map_or (λ terms. terms.deferred) (class_numbered book.classes class) []

-- its shares count towards the breakpoints of their household
abbrev pub counts : Book → ℕ → Bool
counts book class = option_map_or (λ terms. terms.counts) (class_numbered book.classes class) false

abbrev pub calendar_of : Book → ℕ → Option ℕ
calendar_of book class = option_map (λ terms. terms.calendar) (class_numbered book.classes class)

-- The sheet of an order: that of its next price, the first computed after its receipt that lists all its classes
-- (17 CFR 270.22c-1(a)). Where there is none the order is pending.
abbrev pub sheet_of : List Sheet → OrderRow → Option Sheet
sheet_of sheets row = next_sheet sheets (classes_in row.order.body) row.receipt

-- the moment at which an order received then is due under the present calendar
abbrev pub due_at : Book → Body → ℕ → Option ℕ
due_at book body receipt = due_of book.table (classes_in body) receipt

abbrev pub due_moment : Book → OrderRow → Option ℕ
due_moment book row = due_at book row.order.body row.receipt
