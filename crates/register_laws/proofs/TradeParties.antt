-- The trades of a replay are between parties that its orders name.
use Rattle.std.proofs.Common.{All, Bool, List, None, Option, Some, [], ap, false, filter, refl, subst, sym, true, unwrap_or, ℕ, ◌-◌, ◌∙◌, ◌∷◌, ◌≡◌}
use Rattle.std.proofs.lemmas.Bool.{true≢false}
use Rattle.std.proofs.lemmas.List.Elements.{All-append, All-cons, All-head, All-nil, All-tail, All-weaker}
use Rattle.agent_events.specs.declared.order.Body.{Body}
use Rattle.agent_events.specs.declared.order.Order.{Order}
use Rattle.agent_events.specs.declared.order.OrderRow.{OrderRow}
use Rattle.agent_events.specs.declared.order.Party.{Party}
use Rattle.forward_price.specs.declared.price_sheet.Sheet.{Sheet}
use Rattle.register_laws.proofs.DayTurns.{Turn, bought_by, elected_by, exchanged_by, keys_done, position_asked, positions_put, reached_by, reinvested, released, rows_done, settled_by, sold_by, trade_of, trades_added, with_letter_begun, with_letter_ended, with_lot_of, with_note_of, with_pieces_of}
use Rattle.register_laws.proofs.OrdersInTurn.{rows-standing}
use Rattle.register_laws.proofs.RegistersStand.{all_put-all}
use Rattle.register_laws.proofs.ReplayTurns.{All-one, TurnsKeep, replay-kept}
use Rattle.register_laws.specs.Priced.{kind_of}
use Rattle.register_machine.proofs.FoundFacts.{own-account, own-class}
use Rattle.register_machine.specs.corrections.Cash.{Movement, cash_movement, movements_by, movements_in, movements_of}
use Rattle.register_machine.specs.pricing.CorrectedBook.{Book}
use Rattle.register_machine.specs.pricing.CorrectedOrders.{stands}
use Rattle.register_machine.specs.pricing.OrderClasses.{class_of, target_of}
use Rattle.register_machine.specs.replay.Dividend.{cash_dividend_trade, dividend_trade}
use Rattle.register_machine.specs.replay.Letter.{letter_end_trade}
use Rattle.register_machine.specs.replay.Positions.{Position, PositionKey, Register, key_of, position_at, position_of}
use Rattle.register_machine.specs.replay.Redemption.{position_less}
use Rattle.register_machine.specs.replay.Replay.{first_day, replay}
use Rattle.agent_events.specs.declared.trade.Outcome.{Outcome}
use Rattle.agent_events.specs.declared.trade.Trade.{Trade}
use Rattle.agent_events.specs.declared.trade.TradeKind.{TradeKind}
use Rattle.register_machine.specs.replay.Trades.{Day, order_trade}
use Rattle.share_lots.specs.Lots.{mils}

-- ---- what is known of orders, positions, trades and movements

abbrev pub KnownTarget : (Party → Type 0) → Option ℕ → Type 0
KnownTarget K None = Unit {0}
KnownTarget K (Some to) = K (Party.Class to)

pub record KnownOrder (K : Party → Type 0) (order : Order) : Type 0 where
  pub account : K (Party.Holder order.account)
  pub class : K (Party.Class (class_of order.body))
  pub target : KnownTarget K (target_of order.body)

pub record KnownPosition (K : Party → Type 0) (position : Position) : Type 0 where
  pub account : K (Party.Holder position.account)
  pub class : K (Party.Class position.class)

pub record KnownKey (K : Party → Type 0) (key : PositionKey) : Type 0 where
  pub account : K (Party.Holder key.account)
  pub class : K (Party.Class key.class)

abbrev pub is_exchange : TradeKind → Bool
is_exchange TradeKind.Exchange = true
is_exchange _ = false

pub record KnownTrade (K : Party → Type 0) (trade : Trade) : Type 0 where
  pub account : K (Party.Holder trade.account)
  pub class : K (Party.Class trade.class)
  pub target : is_exchange trade.kind ≡ true → K (Party.Class trade.to_class)

pub record KnownDay (K : Party → Type 0) (day : Day) : Type 0 where
  pub positions : All (KnownPosition K) day.register
  pub trades : All (KnownTrade K) day.trades

pub record KnownMovement (K : Party → Type 0) (movement : Movement) : Type 0 where
  pub giver : K movement.giver
  pub taker : K movement.taker

-- ---- movements

pub one-moved : (K : Party → Type 0) (giver taker : Party) (cents : ℕ) → K giver → K taker → All (KnownMovement K) (cash_movement giver taker cents ∷ [])
one-moved K giver taker cents gives takes =
    All-cons (KnownMovement K) (cash_movement giver taker cents) [] (record { giver = gives; taker = takes }) (All-nil (KnownMovement K))

pub two-moved : (K : Party → Type 0) (giver taker giver2 taker2 : Party) (cents cents2 : ℕ) → K giver → K taker → K giver2 → K taker2 → All (KnownMovement K) (cash_movement giver taker cents ∷ cash_movement giver2 taker2 cents2 ∷ [])
two-moved K giver taker giver2 taker2 cents cents2 gives takes gives2 takes2 =
    All-cons (KnownMovement K) (cash_movement giver taker cents) (cash_movement giver2 taker2 cents2 ∷ []) (record { giver = gives; taker = takes })
    (one-moved K giver2 taker2 cents2 gives2 takes2)

pub kind-moves : (K : Party → Type 0) → K Party.Underwriter → (kind : TradeKind) (trade : Trade) → trade.kind ≡ kind → KnownTrade K trade → All (KnownMovement K) (movements_by kind trade)
kind-moves K under TradeKind.Buy trade e known =
    two-moved K (Party.Holder trade.account) (Party.Class trade.class) (Party.Holder trade.account) Party.Underwriter (trade.cash - trade.charge) trade.charge known.account known.class known.account under
kind-moves K under TradeKind.Sell trade e known =
    two-moved K (Party.Class trade.class) (Party.Holder trade.account) (Party.Class trade.class) Party.Underwriter (trade.cash - trade.charge) trade.charge known.class known.account known.class under
kind-moves K under TradeKind.Exchange trade e known =
    one-moved K (Party.Class trade.class) (Party.Class trade.to_class) trade.cash known.class (known.target (ap is_exchange e))
kind-moves K under TradeKind.Letter trade e known = All-nil (KnownMovement K)
kind-moves K under TradeKind.LetterReached trade e known = All-nil (KnownMovement K)
kind-moves K under TradeKind.LetterEnded trade e known =
    one-moved K (Party.Class trade.class) Party.Underwriter trade.cash known.class under
kind-moves K under TradeKind.ElectCash trade e known = All-nil (KnownMovement K)
kind-moves K under TradeKind.ElectShares trade e known = All-nil (KnownMovement K)
kind-moves K under TradeKind.DividendShares trade e known =
    two-moved K (Party.Class trade.class) (Party.Holder trade.account) (Party.Holder trade.account) (Party.Class trade.class) trade.cash trade.cash known.class known.account known.account known.class
kind-moves K under TradeKind.DividendCash trade e known =
    one-moved K (Party.Class trade.class) (Party.Holder trade.account) trade.cash known.class known.account

pub outcome-moves : (K : Party → Type 0) → K Party.Underwriter → (outcome : Outcome) (trade : Trade) → KnownTrade K trade → All (KnownMovement K) (movements_in outcome trade)
outcome-moves K under Outcome.Filled trade known = kind-moves K under trade.kind trade refl known
outcome-moves K under (Outcome.Unfilled why) trade known = All-nil (KnownMovement K)

pub trades-move : (K : Party → Type 0) → K Party.Underwriter → (trades : List Trade) → All (KnownTrade K) trades → All (KnownMovement K) (movements_of trades)
trades-move K under [] all = All-nil (KnownMovement K)
trades-move K under (trade ∷ trades) all =
    All-append (KnownMovement K) (movements_in trade.outcome trade) (movements_of trades)
    (outcome-moves K under trade.outcome trade (All-head (KnownTrade K) trade trades all))
    (trades-move K under trades (All-tail (KnownTrade K) trade trades all))

-- ---- positions

-- a position in the place of an order's or a key's
placed-known : (K : Party → Type 0) (register : Register) (a c : ℕ) (p : Position) → p.account ≡ (position_of register a c).account → p.class ≡ (position_of register a c).class → K (Party.Holder a) → K (Party.Class c) → KnownPosition K p
placed-known K register a c p account class holder of_class = record {
  account = subst (λ x. K (Party.Holder x)) (sym (account ∙ own-account register a c)) holder;
  class = subst (λ x. K (Party.Class x)) (sym (class ∙ own-class register a c)) of_class;
}

row-known : (K : Party → Type 0) (register : Register) (row : OrderRow) (p : Position) → p.account ≡ (position_asked register row).account → p.class ≡ (position_asked register row).class → All (λ (r : OrderRow). KnownOrder K r.order) (row ∷ []) → All (KnownPosition K) (p ∷ [])
row-known K register row p account class those =
    let is = All-head (λ (r : OrderRow). KnownOrder K r.order) row [] those in
    All-one (KnownPosition K) p (placed-known K register row.order.account (class_of row.order.body) p account class is.account is.class)

key-known : (K : Party → Type 0) (register : Register) (key : PositionKey) (p : Position) → p.account ≡ (position_at register key).account → p.class ≡ (position_at register key).class → All (KnownKey K) (key ∷ []) → All (KnownPosition K) (p ∷ [])
key-known K register key p account class those =
    let is = All-head (KnownKey K) key [] those in
    All-one (KnownPosition K) p (placed-known K register key.account key.class p account class is.account is.class)

-- what is known of the order of a turn, and of its key
abbrev RowsKnown : (K : Party → Type 0) (book : Book) (sheet : Sheet) (register : Register) → Turn book sheet register → Type 0
RowsKnown K book sheet register turn =
    All (λ (row : OrderRow). KnownOrder K row.order) (rows_done book sheet register turn)

abbrev KeysKnown : (K : Party → Type 0) (book : Book) (sheet : Sheet) (register : Register) → Turn book sheet register → Type 0
KeysKnown K book sheet register turn = All (KnownKey K) (keys_done book sheet register turn)

positions-known : (K : Party → Type 0) (book : Book) (sheet : Sheet) (register : Register) (turn : Turn book sheet register) → RowsKnown K book sheet register turn → KeysKnown K book sheet register turn → All (KnownPosition K) (positions_put book sheet register turn)
positions-known K book sheet register Turn.Nothing rows keys = All-nil (KnownPosition K)
positions-known K book sheet register (Turn.Unfilled row why) rows keys = All-nil (KnownPosition K)
positions-known K book sheet register (Turn.Bought row gross split is none_open) rows keys =
    row-known K register row (with_lot_of sheet (position_asked register row) gross split) refl refl rows
positions-known K book sheet register (Turn.Noted row gross split letter is so) rows keys =
    row-known K register row (with_note_of sheet (position_asked register row) gross split letter) refl refl rows
positions-known K book sheet register (Turn.Reached row gross split letter is so) rows keys =
    row-known K register row (released (with_note_of sheet (position_asked register row) gross split letter)) refl refl rows
positions-known K book sheet register (Turn.Sold row asked is) rows keys =
    row-known K register row (position_less (position_asked register row) asked) refl refl rows
positions-known K book sheet register (Turn.Exchanged row to asked is) rows keys =
    let known = All-head (λ (r : OrderRow). KnownOrder K r.order) row [] rows in
    All-cons (KnownPosition K) (position_less (position_asked register row) asked) (with_pieces_of sheet register row to asked ∷ [])
    (placed-known K register row.order.account (class_of row.order.body) (position_less (position_asked register row) asked) refl refl known.account known.class)
    (All-one (KnownPosition K) (with_pieces_of sheet register row to asked)
    (placed-known K register row.order.account to (with_pieces_of sheet register row to asked) refl refl known.account (subst (KnownTarget K) is.target known.target)))
positions-known K book sheet register (Turn.Elected row in_cash is) rows keys =
    row-known K register row (record (position_asked register row) { in_cash = in_cash }) refl refl rows
positions-known K book sheet register (Turn.Begun row amount is) rows keys =
    row-known K register row (with_letter_begun book sheet register row amount) refl refl rows
positions-known K book sheet register (Turn.Paid key cash) rows keys = All-nil (KnownPosition K)
positions-known K book sheet register (Turn.Reinvested key cash mils room) rows keys =
    key-known K register key (reinvested sheet (position_at register key) cash mils) refl refl keys
positions-known K book sheet register (Turn.Ended key letter is) rows keys =
    key-known K register key (with_letter_ended book sheet (position_at register key) letter) refl refl keys

-- ---- trades

-- an order's trade, which has a target where its kind is an exchange
order-known : (K : Party → Type 0) (sheet : Sheet) (row : OrderRow) (trade : Trade) → trade.account ≡ row.order.account → trade.class ≡ class_of row.order.body → trade.to_class ≡ unwrap_or (target_of row.order.body) 0 → trade.kind ≡ kind_of row.order.body → All (λ (r : OrderRow). KnownOrder K r.order) (row ∷ []) → KnownTrade K trade
order-known K sheet row trade account class to kind those =
    let is = All-head (λ (r : OrderRow). KnownOrder K r.order) row [] those in
    record {
      account = subst (λ x. K (Party.Holder x)) (sym account) is.account;
      class = subst (λ x. K (Party.Class x)) (sym class) is.class;
      target = λ q. subst (λ x. K (Party.Class x)) (sym to) (towards row.order.body is.target (sym (ap is_exchange kind) ∙ q));
    }
  where
    towards : (body : Body) → KnownTarget K (target_of body) → is_exchange (kind_of body) ≡ true → K (Party.Class (unwrap_or (target_of body) 0))
    towards (Body.Exchange from target mils) known q = known
    towards (Body.ExchangeAll from target) known q = known
    towards (Body.Buy from gross) known q = absurd (true≢false (sym q))
    towards (Body.Sell from mils) known q = absurd (true≢false (sym q))
    towards (Body.SellCash from amount) known q = absurd (true≢false (sym q))
    towards (Body.SellAll from) known q = absurd (true≢false (sym q))
    towards (Body.Letter from amount) known q = absurd (true≢false (sym q))
    towards (Body.Elect from true) known q = absurd (true≢false (sym q))
    towards (Body.Elect from false) known q = absurd (true≢false (sym q))

-- a trade without a target
plain-known : (K : Party → Type 0) (register : Register) (a c : ℕ) (trade : Trade) → is_exchange trade.kind ≡ false → trade.account ≡ (position_of register a c).account → trade.class ≡ (position_of register a c).class → K (Party.Holder a) → K (Party.Class c) → KnownTrade K trade
plain-known K register a c trade other account class holder of_class = record {
  account = subst (λ x. K (Party.Holder x)) (sym (account ∙ own-account register a c)) holder;
  class = subst (λ x. K (Party.Class x)) (sym (class ∙ own-class register a c)) of_class;
  target = λ q. absurd (true≢false (sym q ∙ other));
}

key-trade-known : (K : Party → Type 0) (register : Register) (key : PositionKey) (trade : Trade) → is_exchange trade.kind ≡ false → trade.account ≡ (position_at register key).account → trade.class ≡ (position_at register key).class → All (KnownKey K) (key ∷ []) → All (KnownTrade K) (trade ∷ [])
key-trade-known K register key trade other account class those =
    let is = All-head (KnownKey K) key [] those in
    All-one (KnownTrade K) trade (plain-known K register key.account key.class trade other account class is.account is.class)

trades-known : (K : Party → Type 0) (book : Book) (sheet : Sheet) (register : Register) (turn : Turn book sheet register) → RowsKnown K book sheet register turn → KeysKnown K book sheet register turn → All (KnownTrade K) (trades_added book sheet register turn)
trades-known K book sheet register Turn.Nothing rows keys = All-nil (KnownTrade K)
trades-known K book sheet register (Turn.Unfilled row why) rows keys =
    let trade = record (trade_of sheet row) { outcome = Outcome.Unfilled why } in
    All-one (KnownTrade K) trade (order-known K sheet row trade refl refl refl refl rows)
trades-known K book sheet register (Turn.Bought row gross split is none_open) rows keys =
    All-one (KnownTrade K) (bought_by sheet row gross split) (order-known K sheet row (bought_by sheet row gross split) refl refl refl (sym (ap kind_of is.body)) rows)
trades-known K book sheet register (Turn.Noted row gross split letter is so) rows keys =
    All-one (KnownTrade K) (bought_by sheet row gross split) (order-known K sheet row (bought_by sheet row gross split) refl refl refl (sym (ap kind_of is.body)) rows)
trades-known K book sheet register (Turn.Reached row gross split letter is so) rows keys =
    let known = All-head (λ (r : OrderRow). KnownOrder K r.order) row [] rows in
    All-cons (KnownTrade K) (bought_by sheet row gross split) (reached_by sheet register row ∷ [])
    (order-known K sheet row (bought_by sheet row gross split) refl refl refl (sym (ap kind_of is.body)) rows)
    (All-one (KnownTrade K) (reached_by sheet register row)
    (plain-known K register row.order.account (class_of row.order.body) (reached_by sheet register row) refl refl refl known.account known.class))
trades-known K book sheet register (Turn.Sold row asked is) rows keys =
    All-one (KnownTrade K) (sold_by book sheet register row asked) (order-known K sheet row (sold_by book sheet register row asked) refl refl refl (sym is.body) rows)
trades-known K book sheet register (Turn.Exchanged row to asked is) rows keys =
    All-one (KnownTrade K) (exchanged_by sheet register row to asked) (order-known K sheet row (exchanged_by sheet register row to asked) refl refl refl (sym is.body) rows)
trades-known K book sheet register (Turn.Elected row in_cash is) rows keys =
    All-one (KnownTrade K) (elected_by sheet row in_cash) (order-known K sheet row (elected_by sheet row in_cash) refl refl refl (sym (ap kind_of is)) rows)
trades-known K book sheet register (Turn.Begun row amount is) rows keys =
    let trade = record (order_trade sheet row.order TradeKind.Letter) { cash = amount } in
    All-one (KnownTrade K) trade (order-known K sheet row trade refl refl refl (sym (ap kind_of is.body)) rows)
trades-known K book sheet register (Turn.Paid key cash) rows keys =
    key-trade-known K register key (cash_dividend_trade sheet (position_at register key) cash) refl refl refl keys
trades-known K book sheet register (Turn.Reinvested key cash mils room) rows keys =
    key-trade-known K register key (dividend_trade sheet (position_at register key) cash mils) refl refl refl keys
trades-known K book sheet register (Turn.Ended key letter is) rows keys =
    key-trade-known K register key (letter_end_trade sheet (position_at register key) (settled_by book sheet (position_at register key) letter)) refl refl refl keys

-- ---- the replay

turns-known : (K : Party → Type 0) (book : Book) → TurnsKeep book (λ sheet row. KnownOrder K row.order) (KnownKey K) (λ done day. KnownDay K day)
turns-known K book = record {
  keys = λ done day known. All-weaker (KnownPosition K) (λ x. KnownKey K (key_of x)) (λ x is. record { account = is.account; class = is.class }) day.register known.positions;
  turn = λ sheet done day turn published rows keys known. record {
    positions = all_put-all (KnownPosition K) (positions_put book sheet day.register turn) day.register (positions-known K book sheet day.register turn rows keys) known.positions;
    trades = All-append (KnownTrade K) day.trades (trades_added book sheet day.register turn) known.trades (trades-known K book sheet day.register turn rows keys);
  };
}

pub replay-moves : (K : Party → Type 0) → K Party.Underwriter → (book : Book) → All (λ (row : OrderRow). KnownOrder K row.order) (filter stands book.orders) → All (KnownMovement K) (movements_of (replay book).trades)
replay-moves K under book those =
    let first : KnownDay K first_day = record { positions = All-nil (KnownPosition K); trades = All-nil (KnownTrade K) } in
    let known = replay-kept book (λ sheet row. KnownOrder K row.order) (KnownKey K) (λ done day. KnownDay K day) (turns-known K book)
    (λ sheet. rows-standing (λ (row : OrderRow). KnownOrder K row.order) book sheet those) first in
    trades-move K under (replay book).trades known.trades
