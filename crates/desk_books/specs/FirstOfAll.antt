-- The first order that a correction breaks, by the parts of the households.
use Rattle.std.specs.List.{Any}
use Rattle.std.specs.Prelude.{All, AllPairs, List, None, Option, Some, true, ℕ, ◌≡◌}
use Rattle.agent_events.specs.declared.order.Order.{Order}
use Rattle.agent_events.specs.declared.request.AccountForm.{AccountForm}
use Rattle.agent_events.specs.declared.trade.Trade.{Trade}
use Rattle.desk_books.specs.Least.{IsLeastOf}
use Rattle.desk_books.specs.Turns.{turn_in}
use Rattle.desk_books.specs.declared.least.BrokenTrade.{BrokenTrade}
use Rattle.register_laws.specs.TradesInTurn.{NamesOnce}
use Rattle.forward_price.specs.PriceTables.{AreNumbered}
use Rattle.forward_price.specs.declared.price_sheet.Sheet.{Sheet}
use Rattle.register_laws.specs.BrokenByParts.{BreaksByParts, first_broken_in}
use Rattle.register_laws.specs.Households.{is_of_household, part_of}
use Rattle.register_laws.specs.Priced.{GoesBefore}
use Rattle.register_machine.specs.pricing.CorrectedBook.{Book}
use Rattle.register_machine.specs.replay.Replay.{orders_on, priced_orders, replay}
use Rattle.register_machine.specs.replay.Trades.{Day}

-- the first trade that is broken in a household's part
abbrev pub first_in_part : Option Order → Day → List AccountForm → ℕ → Day → Option Trade
first_in_part order before accounts household after =
    first_broken_in order (part_of accounts household before) (part_of accounts household after)

-- a broken trade with its turn, which is the first one of a household's part
pub record IsFirstOfPart (book : Book) (order : Option Order) (before : Day) (accounts : List AccountForm) (broken : BrokenTrade) : Type 0 where
  pub turn : turn_in book.orders broken.trade ≡ Some broken.turn
  pub household : ℕ
  pub first : first_in_part order before accounts household (replay book) ≡ Some broken.trade

-- They are the first ones of the parts, and each household that has one is seen.
pub record AreFirstOfParts (book : Book) (order : Option Order) (before : Day) (accounts : List AccountForm) (brokens : List BrokenTrade) : Type 0 where
  pub each : All (IsFirstOfPart book order before accounts) brokens
  pub every : (household : ℕ) (trade : Trade)
      → first_in_part order before accounts household (replay book) ≡ Some trade
      → Any (λ broken. broken.trade ≡ trade) brokens

-- the first broken trade of all is of an account whose household is known
abbrev pub IsOwned : Book → Option Order → Day → List AccountForm → Type 0
IsOwned book order before accounts =
    (trade : Trade) → first_broken_in order before (replay book) ≡ Some trade
    → (household : ℕ) × (is_of_household accounts household trade.account ≡ true)

-- The least of them is the first broken trade of all, in a book whose sheets are numbered and whose orders go in turn.
abbrev pub LeastIsFirst : Book → Option Order → Day → List AccountForm → List BrokenTrade → BrokenTrade → Type 0
LeastIsFirst book order before accounts brokens least =
    AreNumbered book.table.sheets → NamesOnce book.orders
    → ((sheet : Sheet) → AllPairs GoesBefore (orders_on (priced_orders book) sheet))
    → BreaksByParts accounts order before (replay book) → IsOwned book order before accounts
    → AreFirstOfParts book order before accounts brokens → IsLeastOf brokens (Some least)
    → first_broken_in order before (replay book) ≡ Some least.trade

-- Where no household has one there is none of all.
abbrev pub NoneIsBroken : Book → Option Order → Day → List AccountForm → List BrokenTrade → Type 0
NoneIsBroken book order before accounts brokens =
    BreaksByParts accounts order before (replay book) → IsOwned book order before accounts
    → AreFirstOfParts book order before accounts brokens → IsLeastOf brokens None
    → first_broken_in order before (replay book) ≡ None
