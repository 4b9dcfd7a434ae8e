-- What the orders of a sheet and those of a household are, by the corrected book.
use Rattle.std.specs.List.{slice_get}
use Rattle.std.specs.Prelude.{List, Option, Some, map, true, ℕ, ◌<◌, ◌≡◌}
use Rattle.agent_events.specs.Events.{Event}
use Rattle.agent_events.specs.declared.order.OrderRow.{OrderRow}
use Rattle.agent_events.specs.declared.request.AccountForm.{AccountForm}
use Rattle.forward_price.specs.declared.price_sheet.Sheet.{Sheet}
use Rattle.order_book.specs.Trials.{row_on_trial, with_trial}
use Rattle.register_laws.specs.Households.{is_of_household, own_orders}
use Rattle.register_machine.specs.journal.Journals.{Journal}
use Rattle.register_machine.specs.journal.Kinds.{accounts_of}
use Rattle.register_machine.specs.pricing.CorrectedBook.{Book}
use Rattle.register_machine.specs.pricing.CorrectedOrders.{orders_of}
use Rattle.register_machine.specs.replay.Replay.{orders_on, priced_orders}
use Rattle.standing_orders.specs.Entries.{is_priced}
use Rattle.checkpoint_replay.specs.Replays.{NumberedOrder, orders_under}
use Rattle.standing_orders.specs.Places.{is_among}
use Rattle.standing_orders.specs.Rows.{AreOwners, HasEach, is_settled, is_taken}

-- the rows, the sheets and the households are those of this corrected book
pub record IsOfBook (book : Book) (rows : List OrderRow) (published : List Sheet) (owners : List ℕ) : Type 0 where
  pub orders : book.orders ≡ rows
  pub sheets : book.table.sheets ≡ published
  pub households : AreOwners book.accounts rows owners

-- a household's orders on a sheet of the corrected book, in turn
abbrev pub own_on : Book → ℕ → Sheet → List OrderRow
own_on book household sheet = own_orders book.accounts household (orders_on (priced_orders book) sheet)

-- under each household's number are its own orders on the sheet, in turn
abbrev pub AreOwnOn : Book → Sheet → List NumberedOrder → Type 0
AreOwnOn book sheet rows = (household : ℕ) → orders_under household rows ≡ map (λ row. row.order) (own_on book household sheet)

-- Of the orders that wait the sheet takes those that it prices: no sheet before it prices any of them.
abbrev pub TakesWhatItPrices : ℕ → List OrderRow → List Sheet → List ℕ → Type 0
TakesWhatItPrices number rows sheets waiting =
    (place : ℕ) (row : OrderRow) → slice_get rows place ≡ Some row → is_among waiting place ≡ true
    → is_taken number sheets row ≡ is_priced number sheets row

-- So it is for every corrected book of these rows, sheets and households, where all that the sheet prices are among the waiting.
abbrev pub ArePricedOn : ℕ → List OrderRow → List Sheet → List ℕ → List ℕ → List NumberedOrder → Type 0
ArePricedOn number rows sheets owners waiting orders =
    (book : Book) (sheet : Sheet) → sheet.number ≡ number → IsOfBook book rows sheets owners
    → HasEach (is_priced number sheets) rows waiting → TakesWhatItPrices number rows sheets waiting
    → AreOwnOn book sheet orders

-- ---- the orders of a household

-- a corrected book of these accounts, orders and sheets
pub record IsOfTrial (book : Book) (opened : List AccountForm) (rows : List OrderRow) (published : List Sheet) : Type 0 where
  pub accounts : book.accounts ≡ opened
  pub orders : book.orders ≡ rows
  pub sheets : book.table.sheets ≡ published

-- under the number of each sheet behind this one are the household's own orders on it, in turn
abbrev pub AreOwnBehind : Book → ℕ → ℕ → List NumberedOrder → Type 0
AreOwnBehind book household number rows =
    (sheet : Sheet) → number < sheet.number
    → orders_under sheet.number rows ≡ map (λ row. row.order) (own_on book household sheet)

-- The household's orders at the places before this one are settled up to a sheet, as the event on trial leaves them.
abbrev pub AreSettledOnTrial : Journal → Option Event → List Sheet → ℕ → ℕ → ℕ → Type 0
AreSettledOnTrial journal trial sheets household first number =
    (place : ℕ) (row : OrderRow) → place < first → slice_get (orders_of journal) place ≡ Some row
    → is_of_household (accounts_of journal) household row.order.account ≡ true
    → is_settled sheets number (row_on_trial trial row) ≡ true

-- So it is for every corrected book of the journal with the event on trial, where the households are those of the rows, and behind
-- every sheet up to which the orders before the first place are settled.
abbrev pub AreOwnOnTrial : Journal → Option Event → List Sheet → List ℕ → ℕ → ℕ → List NumberedOrder → Type 0
AreOwnOnTrial journal trial sheets owners household first orders =
    (book : Book) → IsOfTrial book (accounts_of journal) (orders_of (with_trial journal trial)) sheets
    → AreOwners (accounts_of journal) (orders_of journal) owners
    → (number : ℕ) → AreSettledOnTrial journal trial sheets household first number
    → AreOwnBehind book household number orders
