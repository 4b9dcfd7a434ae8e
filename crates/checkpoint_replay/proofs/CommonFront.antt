-- Where some trades stand in the place of others, those at the front of both that move the same change nothing.
use Rattle.agent_events.specs.declared.order.Party.{Party}
use Rattle.agent_events.specs.declared.trade.Trade.{Trade}
use Rattle.checkpoint_replay.proofs.FlowsOfMoves.{IsAdditive}
use Rattle.checkpoint_replay.specs.Differences.{cash_by_moves, dropped_trades, mils_by_moves, trades_cash, with_cash_of, with_mils_of}
use Rattle.checkpoint_replay.specs.declared.change.HouseholdMove.{HouseholdMove}
use Rattle.checkpoint_replay.specs.declared.part.HouseholdPart.{HouseholdPart}
use Rattle.gain_loss_book.proofs.PostedFacts.{flow-in, flow-out}
use Rattle.gain_loss_book.specs.Flows.{net, no_flow, reverse_flow, with_flow}
use Rattle.gain_loss_book.specs.Movements.{trades_mils}
use Rattle.gain_loss_book.specs.declared.flows.Flow.{Flow}
use Rattle.std.proofs.Common.{List, ap, arith, drop, fold, get_or, length, sym, take, ℕ, ◌+◌, ◌-◌, ◌<◌, ◌∙◌, ◌≡◌}
use Rattle.std.proofs.lemmas.Int.{ints}
use Rattle.std.proofs.lemmas.List.{length-drop, take-append-drop, take_all}
use Rattle.std.proofs.lemmas.List.Sums.{fold_more}

-- the rest behind a place, as a slice gives it
rest-whole : (n : ℕ) (xs : List Trade) → take (length xs - n) (drop n xs) ≡ drop n xs
rest-whole n xs = take_all (length xs - n) (drop n xs) (omega (arith, length-drop n xs))

-- what is brought and taken back behind the front differs by as much as all of it
pub net-behind_front : (flow : List Trade → Flow) → IsAdditive flow → (n : ℕ) (brought dropped : List Trade) → flow (take n brought) ≡ flow (take n dropped) → (base now next : Flow) → now ≡ with_flow base (flow (take (length brought - n) (drop n brought))) → next ≡ with_flow now (reverse_flow (flow (take (length dropped - n) (drop n dropped)))) → net next ≡ net (with_flow (with_flow base (flow brought)) (reverse_flow (flow dropped)))
net-behind_front flow additive n brought dropped alike base now next was is =
    let first : flow brought ≡ with_flow (flow (take n brought)) (flow (drop n brought)) = ap flow (sym (take-append-drop n brought)) ∙ additive (take n brought) (drop n brought) in
    let second : flow dropped ≡ with_flow (flow (take n dropped)) (flow (drop n dropped)) = ap flow (sym (take-append-drop n dropped)) ∙ additive (take n dropped) (drop n dropped) in
    let was_rest = ap flow (rest-whole n brought) in
    let is_rest = ap flow (rest-whole n dropped) in
    omega (arith, ints, flow-in _ _ was, flow-out _ _ was, flow-in _ _ is, flow-out _ _ is, flow-in _ _ was_rest, flow-out _ _ was_rest, flow-in _ _ is_rest, flow-out _ _ is_rest, flow-in _ _ alike, flow-out _ _ alike, flow-in _ _ first, flow-out _ _ first, flow-in _ _ second, flow-out _ _ second)

-- a move behind others, by what they change
abbrev with_trades : (HouseholdMove → Flow) → (HouseholdMove → Flow) → Flow → HouseholdMove → Flow
with_trades brought dropped flow change = with_flow (with_flow flow (brought change)) (reverse_flow (dropped change))

net-more : (brought dropped : HouseholdMove → Flow) (moves : List HouseholdMove) (i : ℕ) (x d : HouseholdMove) → i < length moves → x ≡ get_or moves i d → (now next : Flow) → net now ≡ net (fold (with_trades brought dropped) no_flow (take i moves)) → net next ≡ net (with_trades brought dropped now x) → net next ≡ net (fold (with_trades brought dropped) no_flow (take (i + 1) moves))
net-more brought dropped moves i x d there at now next was is =
    let before = fold (with_trades brought dropped) no_flow (take i moves) in
    let same : net (with_trades brought dropped now x) ≡ net (with_trades brought dropped before x) = omega (arith, ints, was) in
    is ∙ (same
    ∙ (ap (λ (y : HouseholdMove). net (with_trades brought dropped before y)) at
    ∙ sym (ap net (fold_more (with_trades brought dropped) no_flow moves i d there))))

pub net-cash_more : (parts : List (ℕ × HouseholdPart)) (party : Party) (moves : List HouseholdMove) (i : ℕ) (x d : HouseholdMove) → i < length moves → x ≡ get_or moves i d → (now next : Flow) → net now ≡ net (cash_by_moves parts (take i moves) party) → net next ≡ net (with_cash_of parts party now x) → net next ≡ net (cash_by_moves parts (take (i + 1) moves) party)
net-cash_more parts party =
    net-more (λ change. trades_cash change.trades party) (λ change. trades_cash (dropped_trades parts change) party)

pub net-mils_more : (parts : List (ℕ × HouseholdPart)) (class : ℕ) (moves : List HouseholdMove) (i : ℕ) (x d : HouseholdMove) → i < length moves → x ≡ get_or moves i d → (now next : Flow) → net now ≡ net (mils_by_moves parts (take i moves) class) → net next ≡ net (with_mils_of parts class now x) → net next ≡ net (mils_by_moves parts (take (i + 1) moves) class)
net-mils_more parts class =
    net-more (λ change. trades_mils change.trades class) (λ change. trades_mils (dropped_trades parts change) class)
