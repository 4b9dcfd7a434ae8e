-- The orders that were filled, by what their accounts call them.
use Rattle.std.specs.List.{list_any}
use Rattle.std.specs.Option.{option_map_or}
use Rattle.std.specs.Prelude.{Bool, List, Option, false, not, ◌&&◌, ◌==◌, ◌||◌}
use Rattle.agent_events.specs.declared.order.Order.{Order}
use Rattle.agent_events.specs.declared.trade.Trade.{Trade}
use Rattle.desk_books.specs.declared.filled.TradeName.{TradeName}
use Rattle.register_machine.specs.rules.Breaks.{is_filled, is_trade_of}

abbrev pub same_name : TradeName → TradeName → Bool
same_name a b = a.account == b.account && a.ref_no == b.ref_no

abbrev pub name_of : Trade → TradeName
name_of trade = record { account = trade.account; ref_no = trade.ref_no }

-- the trade has this name and is filled
abbrev pub fills : TradeName → Trade → Bool
fills name trade = is_trade_of name.account name.ref_no trade && is_filled trade.outcome

abbrev pub named_filled : List Trade → TradeName → Bool
named_filled trades name = list_any (fills name) trades

-- unfilled, though its name is among those that were filled or is that of the corrected order
abbrev pub is_broken_by : Option Order → (TradeName → Bool) → Trade → Bool
is_broken_by order filled trade =
    not (is_filled trade.outcome)
    && (filled (name_of trade) || option_map_or (λ own. is_trade_of own.account own.ref_no trade) order false)
