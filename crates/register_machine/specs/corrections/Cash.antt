-- The movements of cash that trades bring, the cash of each party, and the outstanding shares of a class.
use Rattle.std.specs.Prelude.{Bool, List, [], ℕ, ℤ, ◌-ℤ◌, ◌-◌, ◌==◌, ◌∷◌, false, flat_map, if◌then◌else◌, pos, sum_by, true}
use Rattle.agent_events.specs.declared.order.Party.{Party}
use Rattle.register_machine.specs.replay.Positions.{Position, Register, mils_of}
use Rattle.agent_events.specs.declared.trade.Outcome.{Outcome}
use Rattle.agent_events.specs.declared.trade.Trade.{Trade}
use Rattle.agent_events.specs.declared.trade.TradeKind.{TradeKind}

-- so many cents from one party to another
pub record Movement : Type 0 where
  pub giver : Party
  pub taker : Party
  pub cents : ℕ

abbrev pub cash_movement : Party → Party → ℕ → Movement
cash_movement giver taker cents = record { giver = giver; taker = taker; cents = cents }

-- a purchase pays its class and the underwriter, a redemption comes from the class, an exchange goes from class to class, a
-- dividend goes to the holder and comes back where it is reinvested, and a letter's shortfall goes to the underwriter
abbrev pub movements_by : TradeKind → Trade → List Movement
movements_by TradeKind.Buy trade =
    cash_movement (Party.Holder trade.account) (Party.Class trade.class) (trade.cash - trade.charge)
    ∷ cash_movement (Party.Holder trade.account) Party.Underwriter trade.charge ∷ []
movements_by TradeKind.Sell trade =
    cash_movement (Party.Class trade.class) (Party.Holder trade.account) (trade.cash - trade.charge)
    ∷ cash_movement (Party.Class trade.class) Party.Underwriter trade.charge ∷ []
movements_by TradeKind.Exchange trade = cash_movement (Party.Class trade.class) (Party.Class trade.to_class) trade.cash ∷ []
movements_by TradeKind.Letter trade = []
movements_by TradeKind.LetterReached trade = []
movements_by TradeKind.LetterEnded trade = cash_movement (Party.Class trade.class) Party.Underwriter trade.cash ∷ []
movements_by TradeKind.ElectCash trade = []
movements_by TradeKind.ElectShares trade = []
movements_by TradeKind.DividendShares trade =
    cash_movement (Party.Class trade.class) (Party.Holder trade.account) trade.cash
    ∷ cash_movement (Party.Holder trade.account) (Party.Class trade.class) trade.cash ∷ []
movements_by TradeKind.DividendCash trade = cash_movement (Party.Class trade.class) (Party.Holder trade.account) trade.cash ∷ []

-- an unfilled order moves nothing
abbrev pub movements_in : Outcome → Trade → List Movement
movements_in Outcome.Filled trade = movements_by trade.kind trade
movements_in (Outcome.Unfilled why) trade = []

abbrev pub movements_of : List Trade → List Movement
movements_of trades = flat_map (λ trade. movements_in trade.outcome trade) trades

abbrev pub same_party : Party → Party → Bool
same_party (Party.Holder a) (Party.Holder b) = a == b
same_party (Party.Class a) (Party.Class b) = a == b
same_party (Party.Dealer a) (Party.Dealer b) = a == b
same_party Party.Underwriter Party.Underwriter = true
same_party Party.Agent Party.Agent = true
same_party _ _ = false

-- what movements bring a party, what they take from it, and the one less the other
abbrev pub cents_received_in : Party → Movement → ℕ
cents_received_in party movement = if same_party movement.taker party then movement.cents else 0

abbrev pub cents_paid_in : Party → Movement → ℕ
cents_paid_in party movement = if same_party movement.giver party then movement.cents else 0

abbrev pub cents_received : List Movement → Party → ℕ
cents_received movements party = sum_by (cents_received_in party) movements

abbrev pub cents_paid : List Movement → Party → ℕ
cents_paid movements party = sum_by (cents_paid_in party) movements

abbrev pub balance : List Movement → Party → ℤ
balance movements party = pos (cents_received movements party) -ℤ pos (cents_paid movements party)

-- the cash of a party by trades
abbrev pub cash_of : List Trade → Party → ℤ
cash_of trades party = balance (movements_of trades) party

-- the loose and held mils of a class
abbrev pub outstanding_in : ℕ → Position → ℕ
outstanding_in class position = if position.class == class then mils_of position.holding else 0

abbrev pub outstanding : Register → ℕ → ℕ
outstanding register class = sum_by (outstanding_in class) register
