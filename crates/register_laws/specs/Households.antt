-- A household's part of the register, and its own book. The part is the positions and trades of its accounts, in their order;
-- its own book has its accounts and its orders alone, and all that everybody sees.
use Rattle.std.specs.Option.{option_map_or}
use Rattle.std.specs.Prelude.{Bool, List, false, filter, ℕ, ◌==◌, ◌≡◌}
use Rattle.agent_events.specs.declared.order.OrderRow.{OrderRow}
use Rattle.agent_events.specs.declared.request.AccountForm.{AccountForm}
use Rattle.agent_events.specs.declared.trade.Trade.{Trade}
use Rattle.forward_price.specs.declared.price_sheet.Sheet.{Sheet}
use Rattle.register_laws.specs.Lawful.{book_behind}
use Rattle.register_machine.specs.journal.Journals.{Journal}
use Rattle.register_machine.specs.journal.Kinds.{accounts_of, household_of}
use Rattle.register_machine.specs.journal.Lawful.{IsLawful}
use Rattle.register_machine.specs.journal.Views.{view}
use Rattle.register_machine.specs.pricing.CorrectedBook.{Book}
use Rattle.register_machine.specs.replay.Positions.{Position}
use Rattle.register_machine.specs.replay.Replay.{replay, replay_over, replay_to}
use Rattle.register_machine.specs.replay.Trades.{Day}

-- the account is one of this household
abbrev pub is_of_household : List AccountForm → ℕ → ℕ → Bool
is_of_household accounts household number =
    option_map_or (λ owner. owner == household) (household_of accounts number) false

abbrev pub is_own_position : (ℕ → Bool) → Position → Bool
is_own_position own position = own position.account

abbrev pub is_own_trade : (ℕ → Bool) → Trade → Bool
is_own_trade own trade = own trade.account

abbrev pub is_own_row : (ℕ → Bool) → OrderRow → Bool
is_own_row own row = own row.order.account

-- the positions and trades of some accounts, in their order
abbrev pub part_by : (ℕ → Bool) → Day → Day
part_by own day = record {
  register = filter (is_own_position own) day.register;
  trades = filter (is_own_trade own) day.trades;
}

-- the part of a household
abbrev pub part_of : List AccountForm → ℕ → Day → Day
part_of accounts household day = part_by (is_of_household accounts household) day

abbrev pub accounts_of_household : List AccountForm → ℕ → List AccountForm
accounts_of_household accounts household = filter (λ account. account.household == household) accounts

-- the orders of a household, in the order of a list
abbrev pub own_orders : List AccountForm → ℕ → List OrderRow → List OrderRow
own_orders accounts household rows = filter (is_own_row (is_of_household accounts household)) rows

-- the book with the accounts and the orders of one household alone
abbrev pub own_book : ℕ → Book → Book
own_book household book = record {
  table = book.table;
  classes = book.classes;
  accounts = accounts_of_household book.accounts household;
  orders = own_orders book.accounts household book.orders;
  rates = book.rates;
}

-- ---- Replayed alone.

-- The part of a household of a replay over any sheets is the replay of its own book over them.
abbrev pub ReplayedAlone : Book → ℕ → List Sheet → Type 0
ReplayedAlone book household sheets =
    part_of book.accounts household (replay_over book sheets) ≡ replay_over (own_book household book) sheets

-- So in a lawful journal it is the replay of the household's view, over all sheets and up to each of them.
pub record IsReplayedInView (journal : Journal) (household : ℕ) : Type 0 where
  pub whole : part_of (accounts_of journal) household (replay (book_behind journal))
      ≡ replay (book_behind (view household journal))
  pub up_to : (number : ℕ)
      → part_of (accounts_of journal) household (replay_to (book_behind journal) number)
      ≡ replay_to (book_behind (view household journal)) number

abbrev pub LawfulReplayedInView : Journal → ℕ → Type 0
LawfulReplayedInView journal household = IsLawful journal → IsReplayedInView journal household
