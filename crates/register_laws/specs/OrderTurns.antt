-- The turn of an order in a replay, and the register as it stands then.
use Rattle.std.proofs.Common.{◌++◌}
use Rattle.std.specs.Prelude.{List, ◌∷◌, ◌≡◌}
use Rattle.agent_events.specs.declared.order.OrderRow.{OrderRow}
use Rattle.forward_price.specs.declared.price_sheet.Sheet.{Sheet}
use Rattle.register_machine.specs.pricing.CorrectedBook.{Book}
use Rattle.register_machine.specs.replay.DayStep.{day_after_orders}
use Rattle.register_machine.specs.replay.Dividend.{day_after_dividends}
use Rattle.register_machine.specs.replay.Letter.{day_after_letter_ends}
use Rattle.register_machine.specs.replay.Positions.{Register}
use Rattle.register_machine.specs.replay.Replay.{orders_on, priced_orders, replay_over}
use Rattle.register_machine.specs.replay.Trades.{Day}

-- The turn of an order in a replay: its sheet with those before it, and the orders before it there.
pub record OrderTurn (book : Book) : Type 0 where
  pub sheets_before : List Sheet
  pub sheet : Sheet
  pub sheets_behind : List Sheet
  pub sheets : book.table.sheets ≡ sheets_before ++ sheet ∷ sheets_behind
  pub rows_before : List OrderRow
  pub row : OrderRow
  pub rows_behind : List OrderRow
  pub rows : orders_on (priced_orders book) sheet ≡ rows_before ++ row ∷ rows_behind

-- the day behind the sheets before, the sheet's dividends and the letters that end by date on it
abbrev pub day_before_orders : Book → List Sheet → Sheet → Day
day_before_orders book before sheet =
    day_after_letter_ends book sheet (day_after_dividends book sheet (replay_over book before))

-- and behind the orders before too: the day as it stands when the turn comes
abbrev pub day_at : Book → List Sheet → Sheet → List OrderRow → Day
day_at book before sheet rows = day_after_orders book sheet rows (day_before_orders book before sheet)

abbrev pub register_at : (book : Book) → OrderTurn book → Register
register_at book turn = (day_at book turn.sheets_before turn.sheet turn.rows_before).register
