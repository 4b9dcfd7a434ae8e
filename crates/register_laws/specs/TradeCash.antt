-- The cash that each kind of trade moves, from whom and to whom.
use Rattle.std.specs.Prelude.{All, List, [], ℕ, ◌+◌, ◌∷◌, ◌≡◌}
use Rattle.agent_events.specs.declared.order.Party.{Party}
use Rattle.register_laws.specs.ReplayKeeps.{IsWithinLimits}
use Rattle.register_machine.specs.corrections.Cash.{Movement, cash_movement, movements_in}
use Rattle.register_machine.specs.pricing.CorrectedBook.{Book}
use Rattle.register_machine.specs.replay.Replay.{replay}
use Rattle.agent_events.specs.declared.trade.Outcome.{Outcome}
use Rattle.agent_events.specs.declared.trade.Trade.{Trade}
use Rattle.agent_events.specs.declared.trade.TradeKind.{TradeKind}

-- one movement of so many cents
abbrev pub moves_one : Party → Party → ℕ → List Movement
moves_one giver taker cents = cash_movement giver taker cents ∷ []

-- a load is taken of the cash, and the rest goes over: together they are the cash
pub record IsSplit (trade : Trade) (moved : ℕ → List Movement) : Type 0 where
  pub rest : ℕ
  pub whole : trade.cash ≡ rest + trade.charge
  pub movements : movements_in trade.outcome trade ≡ moved rest

-- the holder of a purchase pays the class, and the underwriter its charge
abbrev pub purchase_moves : Trade → ℕ → List Movement
purchase_moves trade rest =
    cash_movement (Party.Holder trade.account) (Party.Class trade.class) rest
    ∷ cash_movement (Party.Holder trade.account) Party.Underwriter trade.charge ∷ []

-- of a redemption the class pays the holder, and the underwriter its charge
abbrev pub redemption_moves : Trade → ℕ → List Movement
redemption_moves trade rest =
    cash_movement (Party.Class trade.class) (Party.Holder trade.account) rest
    ∷ cash_movement (Party.Class trade.class) Party.Underwriter trade.charge ∷ []

-- a dividend in shares goes to the holder and comes back
abbrev pub reinvestment_moves : Trade → List Movement
reinvestment_moves trade =
    cash_movement (Party.Class trade.class) (Party.Holder trade.account) trade.cash
    ∷ cash_movement (Party.Holder trade.account) (Party.Class trade.class) trade.cash ∷ []

abbrev pub FilledMoves : TradeKind → Trade → Type 0
FilledMoves TradeKind.Buy trade = IsSplit trade (purchase_moves trade)
FilledMoves TradeKind.Sell trade = IsSplit trade (redemption_moves trade)
FilledMoves TradeKind.Exchange trade =
    movements_in trade.outcome trade ≡ moves_one (Party.Class trade.class) (Party.Class trade.to_class) trade.cash
FilledMoves TradeKind.LetterEnded trade =
    movements_in trade.outcome trade ≡ moves_one (Party.Class trade.class) Party.Underwriter trade.cash
FilledMoves TradeKind.DividendCash trade =
    movements_in trade.outcome trade ≡ moves_one (Party.Class trade.class) (Party.Holder trade.account) trade.cash
FilledMoves TradeKind.DividendShares trade = movements_in trade.outcome trade ≡ reinvestment_moves trade
FilledMoves TradeKind.Letter trade = movements_in trade.outcome trade ≡ []
FilledMoves TradeKind.LetterReached trade = movements_in trade.outcome trade ≡ []
FilledMoves TradeKind.ElectCash trade = movements_in trade.outcome trade ≡ []
FilledMoves TradeKind.ElectShares trade = movements_in trade.outcome trade ≡ []

-- an unfilled order moves none
abbrev pub MovesBy : Outcome → Trade → Type 0
MovesBy Outcome.Filled trade = FilledMoves trade.kind trade
MovesBy (Outcome.Unfilled why) trade = movements_in trade.outcome trade ≡ []

abbrev pub MovesItsCash : Trade → Type 0
MovesItsCash trade = MovesBy trade.outcome trade

-- In a book within limits each trade of the replay moves its cash so.
abbrev pub TradesMoveTheirCash : Book → Type 0
TradesMoveTheirCash book = IsWithinLimits book → All MovesItsCash (replay book).trades
