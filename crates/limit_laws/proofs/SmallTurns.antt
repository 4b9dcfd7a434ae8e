-- The trades of an order's turn are small, and two at most.
use Rattle.std.proofs.Common.{All, List, None, Option, Some, [], arith, find, length, option_map, sum_by, unwrap_or, ℕ, ◌*◌, ◌+◌, ◌==◌, ◌^◌, ◌∷◌, ◌≡◌, ◌≤◌, subst}
use Rattle.std.proofs.Math.Nat.{mul-le-mul}
use Rattle.std.proofs.lemmas.List.Elements.{All-cons, All-head, All-nil}
use Rattle.agent_events.specs.declared.order.Body.{Body}
use Rattle.agent_events.specs.declared.trade.Outcome.{Outcome}
use Rattle.agent_events.specs.declared.trade.Trade.{Trade}
use Rattle.agent_events.specs.declared.trade.TradeKind.{TradeKind}
use Rattle.contingent_charge.proofs.ChargeLemmas.{values-from}
use Rattle.contingent_charge.specs.DeferredCharge.{charge_of_pieces}
use Rattle.forward_price.specs.declared.price_sheet.Sheet.{Sheet}
use Rattle.limit_laws.specs.SmallTrades.{IsSmallTrade}
use Rattle.money_units.proofs.RoundingFacts.{half-le}
use Rattle.register_laws.proofs.DayTurns.{Turn, bought_by, elected_by, exchanged_by, keys_done, position_asked, reached_by, rows_done, sold_by, trade_of, trades_added}
use Rattle.register_laws.proofs.HouseholdCredit.{FoundAs, found-as}
use Rattle.register_laws.proofs.RegistersStand.{RegisterStands, Stands, looked_up-stands}
use Rattle.register_laws.proofs.ReplayTurns.{All-one}
use Rattle.register_laws.specs.ReplayKeeps.{AsksInRange, RowInRange, SheetInRange, most_nav}
use Rattle.register_machine.specs.pricing.CorrectedBook.{Book, schedule_of}
use Rattle.register_machine.specs.pricing.OrderClasses.{class_of}
use Rattle.register_machine.specs.replay.Positions.{Position, PositionKey, Register, mils_of}
use Rattle.register_machine.specs.replay.Trades.{nav_of, order_trade}
use Rattle.share_lots.proofs.KeptLemmas.{pieces-mils}
use Rattle.share_lots.proofs.LotLemmas.{sum-mils}
use Rattle.share_lots.specs.Lots.{mils, most_mils}
use Rattle.share_lots.specs.Taking.{pieces}
use Rattle.share_lots.specs.Values.{value_at}
use Rattle.share_lots.specs.declared.lot.Piece.{Piece}

-- ---- prices and values

pub nav-low : (sheet : Sheet) (class : ℕ) → SheetInRange sheet → nav_of sheet class ≤ most_nav
nav-low sheet class low =
    by (find (λ (price : ℕ × ℕ). price.0 == class) sheet.prices) (found-as (λ (price : ℕ × ℕ). price.1 ≤ most_nav) (λ price. price.0 == class) sheet.prices low)
  where
    by : (found : Option (ℕ × ℕ)) → FoundAs (λ (price : ℕ × ℕ). price.1 ≤ most_nav) found → unwrap_or (option_map (λ (price : ℕ × ℕ). price.1) found) 0 ≤ most_nav
    by None is = omega arith
    by (Some price) is = is

-- what the mils of a position are worth at most
pub value-low : (nav quantity : ℕ) → nav ≤ most_nav → quantity ≤ most_mils → value_at nav quantity ≤ 10 ^ 16
value-low nav quantity low few =
    let product : quantity * nav ≤ most_mils * most_nav = mul-le-mul {n₁ = quantity} {m₁ = nav} {n₂ = most_mils} {m₂ = most_nav} few low in
    half-le (quantity * nav) 1000 (10 ^ 16) (omega arith) (omega (arith, product))

pub few-mils : (x : Position) → Stands x → mils_of x.holding ≤ most_mils
few-mils x stand = omega (arith, sum-mils x.holding.lots, stand.holding.few_mils)

pieces-few : (x : Position) (asked : ℕ) → Stands x → sum_by (λ (p : Piece). p.mils) (pieces asked x.holding.lots) ≤ most_mils
pieces-few x asked stand = omega (arith, pieces-mils asked x.holding.lots, stand.holding.few_mils)

charged-low : (given : List Piece) (nav day : ℕ) (schedule : List ℕ) → nav ≤ most_nav → sum_by (λ (p : Piece). p.mils) given ≤ most_mils → (charge_of_pieces given nav day schedule).value ≤ 10 ^ 16
charged-low given nav day schedule low few =
    let all : value_at nav 0 + (charge_of_pieces given nav day schedule).value ≡ value_at nav (0 + sum_by (λ (p : Piece). p.mils) given) = values-from nav 0 given in
    let value = value-low nav (0 + sum_by (λ (p : Piece). p.mils) given) low (omega (arith, few)) in
    omega (arith, all, value)

-- ---- the trades of turns

no-key : (key : PositionKey) → (key ∷ [] ≡ []) → ⊥
no-key key h = cc

pub record AreFewSmall (trades : List Trade) : Type 0 where
  pub small : All IsSmallTrade trades
  pub few : length trades ≤ 2

none-small : AreFewSmall []
none-small = record { small = All-nil IsSmallTrade; few = omega arith }

one-small : (trade : Trade) → IsSmallTrade trade → AreFewSmall (trade ∷ [])
one-small trade is = record { small = All-one IsSmallTrade trade is; few = omega arith }

pub turn-small : (book : Book) (sheet : Sheet) (register : Register) (turn : Turn book sheet register) → keys_done book sheet register turn ≡ [] → SheetInRange sheet → All RowInRange (rows_done book sheet register turn) → RegisterStands register → AreFewSmall (trades_added book sheet register turn)
turn-small book sheet register Turn.Nothing keys low asks stand = none-small
turn-small book sheet register (Turn.Unfilled row why) keys low asks stand =
    one-small (record (trade_of sheet row) { outcome = Outcome.Unfilled why }) (record { cash = omega arith; mils = omega arith; to_mils = omega arith })
turn-small book sheet register (Turn.Bought row gross split is none_open) keys low asks stand =
    one-small (bought_by sheet row gross split) (record { cash = omega (arith, is.room.cost_fits); mils = omega (arith, is.room.mils_fit); to_mils = omega arith })
turn-small book sheet register (Turn.Noted row gross split letter is so) keys low asks stand =
    one-small (bought_by sheet row gross split) (record { cash = omega (arith, is.room.cost_fits); mils = omega (arith, is.room.mils_fit); to_mils = omega arith })
turn-small book sheet register (Turn.Reached row gross split letter is so) keys low asks stand = record {
  small = All-cons IsSmallTrade (bought_by sheet row gross split) (reached_by sheet register row ∷ [])
      (record { cash = omega (arith, is.room.cost_fits); mils = omega (arith, is.room.mils_fit); to_mils = omega arith })
      (All-one IsSmallTrade (reached_by sheet register row) (record { cash = omega arith; mils = omega arith; to_mils = omega arith }));
  few = omega arith;
}
turn-small book sheet register (Turn.Sold row asked is) keys low asks stand =
    let x = position_asked register row in
    let here = looked_up-stands register row.order.account (class_of row.order.body) stand in
    one-small (sold_by book sheet register row asked) (record {
      cash = charged-low (pieces asked x.holding.lots) (nav_of sheet x.class) sheet.day (schedule_of book x.class) (nav-low sheet x.class low) (pieces-few x asked here);
      mils = omega (arith, is.enough, few-mils x here);
      to_mils = omega arith;
    })
turn-small book sheet register (Turn.Exchanged row to asked is) keys low asks stand =
    let x = position_asked register row in
    let here = looked_up-stands register row.order.account (class_of row.order.body) stand in
    one-small (exchanged_by sheet register row to asked) (record {
      cash = value-low (nav_of sheet x.class) (sum_by (λ (p : Piece). p.mils) (pieces asked x.holding.lots)) (nav-low sheet x.class low) (pieces-few x asked here);
      mils = omega (arith, is.enough, few-mils x here);
      to_mils = omega (arith, is.room.mils_fit);
    })
turn-small book sheet register (Turn.Elected row in_cash is) keys low asks stand =
    one-small (elected_by sheet row in_cash) (record { cash = omega arith; mils = omega arith; to_mils = omega arith })
turn-small book sheet register (Turn.Begun row amount is) keys low asks stand =
    let limits : AsksInRange (Body.Letter (class_of row.order.body) amount) = subst AsksInRange is.body (All-head RowInRange row [] asks) in
    one-small (record (order_trade sheet row.order TradeKind.Letter) { cash = amount })
    (record { cash = omega (arith, limits.1); mils = omega arith; to_mils = omega arith })
turn-small book sheet register (Turn.Paid key cash) keys low asks stand = absurd (no-key key keys)
turn-small book sheet register (Turn.Reinvested key cash quantity room) keys low asks stand = absurd (no-key key keys)
turn-small book sheet register (Turn.Ended key letter is) keys low asks stand = absurd (no-key key keys)
