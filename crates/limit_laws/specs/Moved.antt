-- How much all trades of a replay move together.
use Rattle.std.specs.Prelude.{List, length, sum_by, ℕ, ◌*◌, ◌^◌, ◌≤◌}
use Rattle.agent_events.specs.declared.trade.Trade.{Trade}
use Rattle.agent_events.specs.declared.trade.TradeKind.{TradeKind}
use Rattle.gain_loss_book.specs.Posted.{cents_moved}
use Rattle.limit_laws.specs.InForm.{AreInForm}
use Rattle.limit_laws.specs.Limited.{IsCounted, IsLimited}
use Rattle.register_laws.specs.Lawful.{book_behind}
use Rattle.register_machine.specs.corrections.Cash.{movements_in}
use Rattle.register_machine.specs.journal.Journals.{Journal}
use Rattle.register_machine.specs.pricing.CorrectedBook.{Book}
use Rattle.register_machine.specs.replay.Movements.{if_filled}
use Rattle.register_machine.specs.replay.Replay.{replay}

-- the cents that a trade moves between parties: those of a reinvested dividend go and come back
abbrev pub cents_of : Trade → ℕ
cents_of trade = cents_moved (movements_in trade.outcome trade)

-- the mils that it brings a class
abbrev pub mils_by : TradeKind → Trade → ℕ
mils_by TradeKind.Buy trade = trade.mils
mils_by TradeKind.DividendShares trade = trade.mils
mils_by TradeKind.Exchange trade = trade.to_mils
mils_by _ trade = 0

abbrev pub mils_of : Trade → ℕ
mils_of trade = if_filled trade.outcome (mils_by trade.kind trade)

-- at most 5 * 10^13 trades, 5 * 10^27 cents and 3 * 10^25 mils
abbrev pub most_trades : ℕ
most_trades = 5 * 10 ^ 13

abbrev pub most_cents_moved : ℕ
most_cents_moved = 5 * 10 ^ 27

abbrev pub most_mils_brought : ℕ
most_mils_brought = 3 * 10 ^ 25

pub record MoveLittle (trades : List Trade) : Type 0 where
  pub few : length trades ≤ most_trades
  pub cents : sum_by cents_of trades ≤ most_cents_moved
  pub mils : sum_by mils_of trades ≤ most_mils_brought

-- So much move the trades of a limited book with few things.
abbrev pub CountedMovesLittle : Book → Type 0
CountedMovesLittle book = IsLimited book → IsCounted book → MoveLittle (replay book).trades

-- The book of a lawful journal is one, where its events are in their forms.
pub record IsWithinAllLimits (journal : Journal) : Type 0 where
  pub limited : IsLimited (book_behind journal)
  pub counted : IsCounted (book_behind journal)
  pub moves : MoveLittle (replay (book_behind journal)).trades

abbrev pub InFormStaysWithin : Journal → Type 0
InFormStaysWithin journal = AreInForm journal → IsWithinAllLimits journal
