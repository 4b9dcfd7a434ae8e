-- What an open letter has bought: the gross of the purchases that were filled there since it began.
use Rattle.std.proofs.Common.{◌++◌}
use Rattle.std.specs.Prelude.{All, Bool, List, None, Option, Some, false, if◌then◌else◌, position, sum_by, true, ℕ, ◌&&◌, ◌==◌, ◌∷◌, ◌≡◌}
use Rattle.letter_of_intent.specs.declared.letter.Letter.{Letter}
use Rattle.register_machine.specs.pricing.CorrectedBook.{Book}
use Rattle.register_machine.specs.replay.Positions.{Position}
use Rattle.register_machine.specs.replay.Replay.{replay, replay_to}
use Rattle.agent_events.specs.declared.trade.Outcome.{Outcome}
use Rattle.agent_events.specs.declared.trade.Trade.{Trade}
use Rattle.agent_events.specs.declared.trade.TradeKind.{TradeKind}
use Rattle.register_machine.specs.replay.Trades.{Day}

abbrev pub is_trade_of : ℕ → ℕ → Trade → Bool
is_trade_of account class trade = trade.account == account && trade.class == class

-- what a filled purchase pays
abbrev pub gross_by : Outcome → TradeKind → ℕ → ℕ
gross_by Outcome.Filled TradeKind.Buy cash = cash
gross_by _ _ cash = 0

-- the gross of a filled purchase of this account in this class
abbrev pub gross_in : ℕ → ℕ → Trade → ℕ
gross_in account class trade =
    if is_trade_of account class trade then gross_by trade.outcome trade.kind trade.cash else 0

-- a letter begins or ends by the trade
abbrev pub turns_letter : Outcome → TradeKind → Bool
turns_letter Outcome.Filled TradeKind.Letter = true
turns_letter Outcome.Filled TradeKind.LetterReached = true
turns_letter Outcome.Filled TradeKind.LetterEnded = true
turns_letter _ _ = false

abbrev pub turns_letter_in : ℕ → ℕ → Trade → Bool
turns_letter_in account class trade =
    is_trade_of account class trade && turns_letter trade.outcome trade.kind

-- The letter of an account and class began by a trade, on its day and for its amount. Since then none began or ended there,
-- and what it has bought is the gross of the purchases that were filled.
pub record IsBoughtSince (trades : List Trade) (account class : ℕ) (letter : Letter) : Type 0 where
  pub earlier : List Trade
  pub begun : Trade
  pub later : List Trade
  pub all : trades ≡ earlier ++ begun ∷ later
  pub of_place : is_trade_of account class begun ≡ true
  pub kind : begun.kind ≡ TradeKind.Letter
  pub filled : begun.outcome ≡ Outcome.Filled
  pub amount : begun.cash ≡ letter.amount
  pub day : begun.day ≡ letter.day
  pub open_since : All (λ trade. turns_letter_in account class trade ≡ false) later
  pub bought : letter.bought ≡ sum_by (gross_in account class) later

abbrev pub IsBoughtWhereOpen : List Trade → ℕ → ℕ → Option Letter → Type 0
IsBoughtWhereOpen trades account class None = Unit {0}
IsBoughtWhereOpen trades account class (Some letter) = IsBoughtSince trades account class letter

abbrev pub IsBoughtIn : List Trade → Position → Type 0
IsBoughtIn trades position = IsBoughtWhereOpen trades position.account position.class position.letter

-- So for each open letter of a day.
abbrev pub LettersAreBought : Day → Type 0
LettersAreBought day = All (IsBoughtIn day.trades) day.register

-- In every book after each of its sheets, and after all.
pub record KeepsBought (book : Book) : Type 0 where
  pub up_to : (number : ℕ) → LettersAreBought (replay_to book number)
  pub at_last : LettersAreBought (replay book)
