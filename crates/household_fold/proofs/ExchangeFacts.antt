-- An exchange: what its parts make of the day of the definitions, and the lots of the target on the way.
use Rattle.std.proofs.Common.{cond, ◌++◌, List, [], ap, arith, drop, false, fold, get_or, length, nat_le, refl, sym, true, ℕ, ◌&&◌, ◌+◌, ◌<◌, ◌==◌, ◌∙◌, ◌∷◌, ◌≡◌, ◌≤◌}
use Rattle.std.proofs.lemmas.Bool.{eq-eqb, eqb-true, ne_eqb, true≢false}
use Rattle.std.proofs.lemmas.Bool.Decides.{nat_tests}
use Rattle.std.proofs.lemmas.List.{at_drop_more}
use Rattle.std.proofs.lemmas.List.Sums.{sum_by-cons}
use Rattle.agent_events.specs.declared.order.Order.{Order}
use Rattle.agent_events.specs.declared.trade.Trade.{Trade}
use Rattle.agent_events.specs.declared.trade.TradeKind.{TradeKind}
use Rattle.fund_exchange.specs.Exchange.{transfer_of, cost_total as pieces_cost, mils_total as pieces_mils}
use Rattle.fund_exchange.specs.declared.carrying.Carried.{Carried}
use Rattle.household_positions.specs.Register.{day_without}
use Rattle.household_positions.proofs.DayFacts.{close-back, put-back}
use Rattle.register_machine.proofs.FoundFacts.{found-elsewhere, own-account, own-class}
use Rattle.register_machine.proofs.PutAgain.{put-over}
use Rattle.register_machine.specs.pricing.OrderClasses.{class_of}
use Rattle.register_machine.specs.replay.Exchange.{exchange_reasons, exchange_trade, holding_with_piece, position_with_pieces}
use Rattle.register_machine.specs.replay.Positions.{Position, Register, has_room, mils_of, position_of, put, with_holding}
use Rattle.register_machine.specs.replay.Redemption.{loose_of, position_less}
use Rattle.register_machine.specs.replay.Trades.{Day, day_after_trade, day_unless_any, nav_of, order_trade, with_position}
use Rattle.share_lots.specs.Lots.{Holding, cost_total, loose_total, most_cost, most_mils}
use Rattle.share_lots.specs.Taking.{after_taking, pieces}
use Rattle.share_lots.specs.declared.lot.Piece.{Piece}
use Rattle.share_lots.proofs.AddedLemmas.{next_kept}
use Rattle.household_fold.specs.Exchanges.{day_by_move, day_given, exchange_known, moved_known, source_of, target_of}
use Rattle.household_fold.specs.Facts.{Known, sheet_at_hand}
use Rattle.household_fold.specs.declared.exchange.Move.{Move}

-- no pieces of no lots
pub pieces-none : (asked : ℕ) → [] ≡ pieces asked []
unfolding pieces
pieces-none asked = refl

-- the exchange of an order is that of its shares
pub order-move : (known : Known) (day : Day) (order : Order) (to asked : ℕ) (move : Move) (trade : Trade) (moved : Carried)
    → move ≡ record { account = order.account; class = class_of order.body; to = to; asked = asked }
    → trade ≡ order_trade (sheet_at_hand known) order TradeKind.Exchange → moved ≡ moved_known known day.register move
    → day_by_move known day trade move moved ≡ exchange_known known day order to asked
order-move known day order to asked move trade moved move_is trade_is moved_is =
    let m : Move = record { account = order.account; class = class_of order.body; to = to; asked = asked } in
    let sheet = sheet_at_hand known in
    let p = position_of day.register order.account (class_of order.body) in
    rw (moved_is, trade_is, move_is)
    (ap (λ nav. day_unless_any (exchange_reasons p (target_of day.register m) asked (transfer_of nav (nav_of sheet to) (pieces asked p.holding.lots))) day
    (order_trade sheet order TradeKind.Exchange)
    (day_after_trade (with_position day (position_less p asked))
    (position_with_pieces (target_of day.register m) (transfer_of nav (nav_of sheet to) (pieces asked p.holding.lots)).pieces)
    (exchange_trade (order_trade sheet order TradeKind.Exchange) nav asked (transfer_of nav (nav_of sheet to) (pieces asked p.holding.lots)))))
    (ap (nav_of sheet) (sym (own-class day.register order.account (class_of order.body)))))

other-class : (x y a c to : ℕ) → y ≡ c → ¬ (c ≡ to) → (x == a && y == to) ≡ false
other-class x y a c to same apart = grind (arith, nat_tests)

-- the target stands as before while the source is put
pub target-stays : (register : Register) (a c to : ℕ) (p : Position) → p.class ≡ c → ¬ (c ≡ to) → position_of (put p register) a to ≡ position_of register a to
target-stays register a c to p of apart = found-elsewhere p register a to (other-class p.account p.class a c to of apart)

-- the source put back, as over the whole register
pub source-back : (day before back : Day) (a c asked : ℕ) (x : Position) (h : Holding)
    → before ≡ day_without a c day → x ≡ position_of day.register a c → h ≡ after_taking x.holding asked
    → back ≡ with_position before (with_holding x h)
    → back ≡ with_position day (position_less (position_of day.register a c) asked)
source-back day before back a c asked x h before_is x_is h_is back_is =
    let p = position_less (position_of day.register a c) asked in
    back_is
    ∙ (rw (before_is, h_is, x_is)
    (ap (λ (register : Register). record { register = register; trades = day.trades })
    (put-back p day.register a c (own-account day.register a c) (own-class day.register a c))))

-- the target as it is found then
pub target-found : (day back : Day) (a c to asked : ℕ) → ¬ (c ≡ to) → back ≡ with_position day (position_less (position_of day.register a c) asked)
    → position_of back.register a to ≡ position_of day.register a to
target-found day back a c to asked apart is =
    ap (λ (d : Day). position_of d.register a to) is
    ∙ target-stays day.register a c to (position_less (position_of day.register a c) asked) (own-class day.register a c) apart

-- and with its pieces
pub target-closed : (day back before after : Day) (a to : ℕ) (given : List Piece) (x : Position) (h : Holding) (trade : Trade)
    → position_of back.register a to ≡ position_of day.register a to
    → before ≡ day_without a to back → x ≡ position_of back.register a to → h ≡ fold holding_with_piece x.holding given
    → after ≡ day_after_trade before (with_holding x h) trade
    → after ≡ day_after_trade back (position_with_pieces (position_of day.register a to) given) trade
target-closed day back before after a to given x h trade stays before_is x_is h_is after_is =
    let q = position_with_pieces (position_of day.register a to) given in
    after_is
    ∙ (rw (before_is, h_is, x_is, stays)
    (close-back back a to q trade (own-account day.register a to) (own-class day.register a to)))

-- room is room in mils and in cost
pub record HasRoom (holding : Holding) (mils cost : ℕ) : Type 0 where
  pub mils_fit : mils_of holding + mils ≤ most_mils
  pub cost_fits : cost_total holding + cost ≤ most_cost

both-fit : (a b c d : ℕ) → (nat_le a b && nat_le c d) ≡ true → (a ≤ b) × (c ≤ d)
both-fit a b c d h = (grind (arith, nat_tests), grind (arith, nat_tests))

pub room-parts : (holding : Holding) (mils cost : ℕ) → has_room holding mils cost ≡ true → HasRoom holding mils cost
room-parts holding mils cost room =
    let fit = both-fit (mils_of holding + mils) most_mils (cost_total holding + cost) most_cost room in
    record { mils_fit = fit.0; cost_fits = fit.1 }

-- the next number never falls
pub next-pieces : (given : List Piece) (h : Holding) → h.next_lot ≤ (fold holding_with_piece h given).next_lot
next-pieces [] h = omega arith
next-pieces (piece ∷ given) h =
    omega (arith, next_kept h piece.day piece.mils piece.cost piece.free, next-pieces given (holding_with_piece h piece))

-- one more piece
pub pieces-more : (h : Holding) (given : List Piece) (i : ℕ) (piece : Piece) → i < length given
    → fold holding_with_piece h (drop i given) ≡ fold holding_with_piece (holding_with_piece h (get_or given i piece)) (drop (i + 1) given)
pieces-more h given i piece short = at_drop_more (fold holding_with_piece h) given i piece short

pub mils-more : (given : List Piece) (i : ℕ) (piece : Piece) → i < length given
    → pieces_mils (drop i given) ≡ (get_or given i piece).mils + pieces_mils (drop (i + 1) given)
mils-more given i piece short =
    at_drop_more pieces_mils given i piece short ∙ sum_by-cons (λ (p : Piece). p.mils) (get_or given i piece) (drop (i + 1) given)

pub cost-more : (given : List Piece) (i : ℕ) (piece : Piece) → i < length given
    → pieces_cost (drop i given) ≡ (get_or given i piece).cost + pieces_cost (drop (i + 1) given)
cost-more given i piece short =
    at_drop_more pieces_cost given i piece short ∙ sum_by-cons (λ (p : Piece). p.cost) (get_or given i piece) (drop (i + 1) given)

-- the number of the next lot within the loop
pub number-piece : (given : List Piece) (i : ℕ) (piece : Piece) (now first : Holding) → i < length given → piece ≡ get_or given i piece
    → fold holding_with_piece now (drop i given) ≡ fold holding_with_piece first given → (fold holding_with_piece first given).next_lot ≤ 4294967295
    → (holding_with_piece now piece).next_lot ≤ 4294967295
number-piece given i piece now first short is same within =
    let all = sym same ∙ pieces-more now given i piece short in
    let end : (fold holding_with_piece first given).next_lot ≡ (fold holding_with_piece (holding_with_piece now (get_or given i piece)) (drop (i + 1) given)).next_lot = ap (λ (h : Holding). h.next_lot) all in
    let here : (holding_with_piece now piece).next_lot ≡ (holding_with_piece now (get_or given i piece)).next_lot = ap (λ p. (holding_with_piece now p).next_lot) is in
    omega (arith, end, here, next-pieces (drop (i + 1) given) (holding_with_piece now (get_or given i piece)), within)

-- a move by its parts
abbrev pub move_of : ℕ → ℕ → ℕ → ℕ → Move
move_of to asked account class = record { account = account; class = class; to = to; asked = asked }

pub move-by : (a b c d to asked : ℕ) → a ≡ b → c ≡ d → move_of to asked a c ≡ move_of to asked b d
move-by a b c d to asked one two = ap (λ x. move_of to asked x c) one ∙ ap (λ y. move_of to asked b y) two

-- the target as it is found when the source has given
pub target-given : (day : Day) (move : Move) → position_of (day_given day move).register move.account move.to ≡ target_of day.register move
target-given day move =
    elim (move.class == move.to) as (λ b. (move.class == move.to) ≡ b → position_of (cond b day (with_position day (position_less (source_of day.register move) move.asked))).register move.account move.to ≡ target_of day.register move) [
      | true ↦ λ e. refl
      | false ↦ λ e.
          target-found day (with_position day (position_less (source_of day.register move) move.asked)) move.account move.class move.to move.asked
          (λ same. true≢false (sym (eq-eqb move.class move.to same) ∙ e)) refl
    ] refl

-- and the day that it closes
pub given-closed : (day : Day) (move : Move) (q : Position) (trade : Trade) → q.account ≡ move.account → q.class ≡ move.to
    → day_after_trade (day_given day move) q trade ≡ day_after_trade (with_position day (position_less (source_of day.register move) move.asked)) q trade
given-closed day move q trade at of =
    let p = position_less (source_of day.register move) move.asked in
    elim (move.class == move.to) as (λ b. (move.class == move.to) ≡ b → day_after_trade (cond b day (with_position day p)) q trade ≡ day_after_trade (with_position day p) q trade) [
      | true ↦ λ e.
          ap (λ (register : Register). record { register = register; trades = day.trades ++ trade ∷ [] })
          (sym (put-over q p day.register (own-account day.register move.account move.class ∙ sym at)
          (own-class day.register move.account move.class ∙ (eqb-true move.class move.to e ∙ sym of))))
      | false ↦ λ e. refl
    ] refl

-- the loose shares of an order's position
pub loose-is : (day : Day) (order : Order) (register : Register) (a c n : ℕ) → n ≡ loose_total (position_of register a c).holding
    → register ≡ day.register → a ≡ order.account → c ≡ class_of order.body → n ≡ loose_of day order
loose-is day order register a c n is same at of = is ∙ (rw (same, at, of) refl)

-- the source has given, where the classes differ
pub given-apart : (day after : Day) (move : Move) → ¬ (move.class ≡ move.to)
    → after ≡ with_position day (position_less (source_of day.register move) move.asked) → after ≡ day_given day move
given-apart day after move apart is =
    is ∙ sym (ap (λ b. cond b day (with_position day (position_less (source_of day.register move) move.asked))) (ne_eqb move.class move.to apart))
