-- How far a correction reaches: which households it leaves as they were, and up to which sheet it changes nothing.
use Rattle.std.specs.List.{list_any}
use Rattle.std.specs.Prelude.{All, AllPairs, Bool, List, None, Option, Some, [], false, filter, take, true, ℕ, ◌&&◌, ◌++◌, ◌==◌, ◌<◌, ◌∷◌, ◌≡◌, ◌≤◌}
use Rattle.agent_events.specs.Events.{Event}
use Rattle.agent_events.specs.declared.event.EventKind.{EventKind}
use Rattle.agent_events.specs.declared.order.OrderRow.{OrderRow}
use Rattle.agent_events.specs.declared.request.FixPriceForm.{FixPriceForm}
use Rattle.agent_events.specs.declared.request.FixRateForm.{FixRateForm}
use Rattle.forward_price.specs.declared.price_sheet.Sheet.{Sheet}
use Rattle.register_laws.specs.Households.{is_of_household, own_orders, part_of}
use Rattle.register_laws.specs.Lawful.{book_behind}
use Rattle.register_laws.specs.OneEventMore.{TouchesNothing, with_price_fixed}
use Rattle.register_machine.specs.journal.Journals.{Journal, with_event}
use Rattle.register_machine.specs.journal.Kinds.{accounts_of}
use Rattle.register_machine.specs.journal.Lawful.{IsLawful}
use Rattle.register_machine.specs.pricing.CorrectedBook.{Book}
use Rattle.register_machine.specs.pricing.CorrectedOrders.{is_named, stands}
use Rattle.register_machine.specs.pricing.OrderClasses.{classes_in}
use Rattle.register_machine.specs.replay.Replay.{is_priced_on, priced_in, replay, replay_to}
use Rattle.register_machine.specs.rules.NamedThings.{lists_at}

-- the part of a household is the same in two books, after each sheet and after all
pub record LeavesPart (book other : Book) (household : ℕ) : Type 0 where
  pub whole : part_of book.accounts household (replay other) ≡ part_of book.accounts household (replay book)
  pub up_to : (number : ℕ)
      → part_of book.accounts household (replay_to other number) ≡ part_of book.accounts household (replay_to book number)

-- ---- A price or a rate of one class.

abbrev pub names_class : ℕ → OrderRow → Bool
names_class class row = list_any (λ own. own == class) (classes_in row.order.body)

-- no standing order of the household names the class
abbrev pub NamesNowhere : Book → ℕ → ℕ → Type 0
NamesNowhere book household class =
    list_any (names_class class) (filter stands (own_orders book.accounts household book.orders)) ≡ false

abbrev pub book_with_price : FixPriceForm → Book → Book
book_with_price form book = record {
  table = with_price_fixed form book.table;
  classes = book.classes;
  accounts = book.accounts;
  orders = book.orders;
  rates = book.rates;
}

abbrev pub book_with_rate : FixRateForm → Book → Book
book_with_rate form book = record {
  table = book.table;
  classes = book.classes;
  accounts = book.accounts;
  orders = book.orders;
  rates = record { declared = book.rates.declared; fixed = book.rates.fixed ++ form ∷ [] };
}

-- A corrected price leaves the parts of the households that name its class nowhere, and so does a corrected rate.
abbrev pub PriceLeavesOthers : Book → FixPriceForm → ℕ → Type 0
PriceLeavesOthers book form household =
    NamesNowhere book household form.class → LeavesPart book (book_with_price form book) household

abbrev pub RateLeavesOthers : Book → FixRateForm → ℕ → Type 0
RateLeavesOthers book form household =
    NamesNowhere book household form.class → LeavesPart book (book_with_rate form book) household

-- The sheet doesn't list the class of a corrected price at its moment, and isn't later than it; and it doesn't list the class of a
-- corrected rate at its moment.
abbrev pub IsBeforePrice : FixPriceForm → Sheet → Type 0
IsBeforePrice form sheet = (lists_at form.class form.moment sheet ≡ false) × (sheet.moment ≤ form.moment)

abbrev pub IsBeforeRate : FixRateForm → Sheet → Type 0
IsBeforeRate form sheet = lists_at form.class form.moment sheet ≡ false

-- Up to a sheet where all are before the corrected price, the whole register and all trades stay as they were, and so with a rate.
abbrev pub PriceLeavesBefore : Book → FixPriceForm → ℕ → Type 0
PriceLeavesBefore book form number =
    All (IsBeforePrice form) (take number book.table.sheets)
    → replay_to (book_with_price form book) number ≡ replay_to book number

abbrev pub RateLeavesBefore : Book → FixRateForm → ℕ → Type 0
RateLeavesBefore book form number =
    All (IsBeforeRate form) (take number book.table.sheets)
    → replay_to (book_with_rate form book) number ≡ replay_to book number

-- ---- An order that is placed, entered, replaced, cancelled or voided.

-- the order that an event changes, by its account and reference
abbrev pub order_changed : EventKind → Option (ℕ × ℕ)
order_changed (EventKind.Order placed) = Some (placed.order.account, placed.order.ref_no)
order_changed (EventKind.Enter form) = Some (form.order.account, form.order.ref_no)
order_changed (EventKind.Replace form) = Some (form.order.account, form.order.ref_no)
order_changed (EventKind.Cancel form) = Some (form.account, form.target)
order_changed (EventKind.Void form) = Some (form.account, form.ref_no)
order_changed _ = None

-- the order stands in a book, and has the sheet there
abbrev pub has_sheet_in : List Sheet → Sheet → OrderRow → Bool
has_sheet_in sheets sheet row = stands row && is_priced_on sheet.number (priced_in sheets row)

abbrev pub is_on_sheet : Book → ℕ × ℕ → Sheet → Bool
is_on_sheet book named sheet =
    list_any (λ row. is_named named.0 named.1 row.order && has_sheet_in book.table.sheets sheet row) book.orders

-- on none of these sheets in the one book or the other
abbrev pub IsOnNone : Book → Book → ℕ × ℕ → List Sheet → Type 0
IsOnNone book other named sheets =
    All (λ sheet. (is_on_sheet book named sheet ≡ false) × (is_on_sheet other named sheet ≡ false)) sheets

-- ---- The sheets of a lawful journal.

-- Their moments never fall, in the order of their numbers.
abbrev pub LawfulSheetsNeverFall : Journal → Type 0
LawfulSheetsNeverFall journal =
    IsLawful journal → AllPairs (λ sheet later. sheet.moment ≤ later.moment) (book_behind journal).table.sheets

-- the sheet of this number lists the class at that moment
abbrev pub IsListedOn : Book → ℕ → ℕ → ℕ → Type 0
IsListedOn book class moment number =
    list_any (λ sheet. sheet.number == number && lists_at class moment sheet) book.table.sheets ≡ true

-- ---- The reach of an event.

-- A corrected price or rate leaves the parts of the households that name its class nowhere, and up to a sheet the whole register
-- and all trades, where none of the sheets up to it is that of the price or the rate, or later than the price: so before the
-- number of their sheet. An event of an order leaves those
-- of all households but its account's, and up to a sheet the whole register and all trades, where the order is on none of the
-- sheets up to it, neither before the event nor behind it.
pub record EventReach (journal : Journal) (event : Event) : Type 0 where
  pub price : (form : FixPriceForm) → event.kind ≡ EventKind.FixPrice form
      → (household : ℕ) → NamesNowhere (book_behind journal) household form.class
      → LeavesPart (book_behind journal) (book_behind (with_event journal event)) household
  pub rate : (form : FixRateForm) → event.kind ≡ EventKind.FixRate form
      → (household : ℕ) → NamesNowhere (book_behind journal) household form.class
      → LeavesPart (book_behind journal) (book_behind (with_event journal event)) household
  pub price_before : (form : FixPriceForm) → event.kind ≡ EventKind.FixPrice form → (number : ℕ)
      → All (IsBeforePrice form) (take number (book_behind journal).table.sheets)
      → replay_to (book_behind (with_event journal event)) number ≡ replay_to (book_behind journal) number
  pub rate_before : (form : FixRateForm) → event.kind ≡ EventKind.FixRate form → (number : ℕ)
      → All (IsBeforeRate form) (take number (book_behind journal).table.sheets)
      → replay_to (book_behind (with_event journal event)) number ≡ replay_to (book_behind journal) number
  pub price_numbered : (form : FixPriceForm) → event.kind ≡ EventKind.FixPrice form
      → (fixed : ℕ) → IsListedOn (book_behind journal) form.class form.moment fixed → (number : ℕ) → number < fixed
      → replay_to (book_behind (with_event journal event)) number ≡ replay_to (book_behind journal) number
  pub rate_numbered : (form : FixRateForm) → event.kind ≡ EventKind.FixRate form
      → (fixed : ℕ) → IsListedOn (book_behind journal) form.class form.moment fixed → (number : ℕ) → number < fixed
      → replay_to (book_behind (with_event journal event)) number ≡ replay_to (book_behind journal) number
  pub order : (named : ℕ × ℕ) → order_changed event.kind ≡ Some named
      → (household : ℕ) → is_of_household (accounts_of journal) household named.0 ≡ false
      → LeavesPart (book_behind journal) (book_behind (with_event journal event)) household
  pub before : (named : ℕ × ℕ) → order_changed event.kind ≡ Some named → (number : ℕ)
      → IsOnNone (book_behind journal) (book_behind (with_event journal event)) named
      (take number (book_behind journal).table.sheets)
      → replay_to (book_behind (with_event journal event)) number ≡ replay_to (book_behind journal) number
  pub nowhere : (named : ℕ × ℕ) → order_changed event.kind ≡ Some named
      → IsOnNone (book_behind journal) (book_behind (with_event journal event)) named (book_behind journal).table.sheets
      → replay (book_behind (with_event journal event)) ≡ replay (book_behind journal)

-- So it is with an event behind a lawful journal that isn't judged yet, and with each event of a lawful journal.
abbrev pub TriedEventReach : Journal → Event → Type 0
TriedEventReach journal event = IsLawful journal → TouchesNothing journal event → EventReach journal event

abbrev pub LawfulEventReach : Journal → Event → Type 0
LawfulEventReach journal event = IsLawful (with_event journal event) → EventReach journal event
