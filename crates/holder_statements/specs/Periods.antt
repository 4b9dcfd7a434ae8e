-- The trades of a period: where they stand among all trades in the order of their sheets.
use Rattle.std.specs.Prelude.{All, AllPairs, Bool, List, [], ℕ, ◌*◌, ◌+◌, ◌<◌, ◌≤◌, filter, if◌then◌else◌}
use Rattle.agent_events.specs.declared.request.StatementForm.{StatementForm}
use Rattle.agent_events.specs.declared.trade.Trade.{Trade}
use Rattle.forward_price.specs.declared.price_sheet.Sheet.{Sheet}
use Rattle.register_machine.specs.pricing.CorrectedBook.{Book}
use Rattle.register_machine.specs.queries.Statement.{is_in_period, trade_line}
use Rattle.register_machine.specs.replay.Replay.{replay_over}

-- A trade's date is at most three days from the date of its moment in UTC. A day has 86,400 seconds.
pub record IsNear (trade : Trade) : Type 0 where
  pub not_after : trade.day * 86400 ≤ trade.moment + 259200
  pub not_before : trade.moment < trade.day * 86400 + 345600

-- trades in the order of their sheets: moments never fall, and each date is near its moment
pub record AreDated (trades : List Trade) : Type 0 where
  pub in_turn : AllPairs (λ earlier later. earlier.moment ≤ later.moment) trades
  pub near : All IsNear trades

-- the line of a trade, where it is of the account and dated within the period
abbrev pub line_in_period : StatementForm → Trade → List ℕ
line_in_period form trade = if is_in_period form trade then trade_line trade else []

-- the same of sheets in their order
pub record IsSheetNear (sheet : Sheet) : Type 0 where
  pub not_after : sheet.day * 86400 ≤ sheet.moment + 259200
  pub not_before : sheet.moment < sheet.day * 86400 + 345600

pub record AreSheetsDated (sheets : List Sheet) : Type 0 where
  pub in_turn : AllPairs (λ earlier later. earlier.moment ≤ later.moment) sheets
  pub near : All IsSheetNear sheets

-- over such sheets the trades of every replay are dated so
abbrev pub ReplayIsDated : Book → List Sheet → Type 0
ReplayIsDated book sheets = AreSheetsDated sheets → AreDated (replay_over book sheets).trades

-- and so are some of them in their order
abbrev pub PartIsDated : (Trade → Bool) → List Trade → Type 0
PartIsDated is_of trades = AreDated trades → AreDated (filter is_of trades)
