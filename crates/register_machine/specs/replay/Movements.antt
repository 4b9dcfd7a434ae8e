-- The shares that a trade brings a class or takes from it.
use Rattle.std.specs.Prelude.{if◌then◌else◌, ℕ, ◌==◌}
use Rattle.agent_events.specs.declared.trade.Outcome.{Outcome}
use Rattle.agent_events.specs.declared.trade.Trade.{Trade}
use Rattle.agent_events.specs.declared.trade.TradeKind.{TradeKind}

-- mils of one class, where they are this class's
abbrev pub mils_if : ℕ → ℕ → ℕ → ℕ
mils_if class other mils = if other == class then mils else 0

-- a purchase, a dividend in shares and an exchange bring shares
abbrev pub mils_brought_by : TradeKind → ℕ → Trade → ℕ
mils_brought_by TradeKind.Buy class trade = mils_if class trade.class trade.mils
mils_brought_by TradeKind.DividendShares class trade = mils_if class trade.class trade.mils
mils_brought_by TradeKind.Exchange class trade = mils_if class trade.to_class trade.to_mils
mils_brought_by _ class trade = 0

-- a redemption, an exchange and a letter that ends by date take them
abbrev pub mils_taken_by : TradeKind → ℕ → Trade → ℕ
mils_taken_by TradeKind.Sell class trade = mils_if class trade.class trade.mils
mils_taken_by TradeKind.Exchange class trade = mils_if class trade.class trade.mils
mils_taken_by TradeKind.LetterEnded class trade = mils_if class trade.class trade.mils
mils_taken_by _ class trade = 0

-- an unfilled order does neither
abbrev pub if_filled : Outcome → ℕ → ℕ
if_filled Outcome.Filled mils = mils
if_filled (Outcome.Unfilled why) mils = 0

abbrev pub mils_brought : ℕ → Trade → ℕ
mils_brought class trade = if_filled trade.outcome (mils_brought_by trade.kind class trade)

abbrev pub mils_taken : ℕ → Trade → ℕ
mils_taken class trade = if_filled trade.outcome (mils_taken_by trade.kind class trade)
