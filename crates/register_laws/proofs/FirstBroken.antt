-- The first order that a correction breaks, among the first ones of the households.
use Rattle.std.proofs.Common.{AllPairs, Bool, List, Option, Some, [], ap, arith, cond, false, filter, get_or, inl, inr, length, not, refl, slice_get, subst, suc, sym, true, zero, ℕ, ◌||◌, ◌<◌, ◌∙◌, ◌∷◌, ◌≡◌, ◌≤◌, ◌⊎◌}
use Rattle.std.proofs.lemmas.Option.{get_or_from_slice_get}
use Rattle.std.specs.Option.{option_map_or}
use Rattle.std.proofs.lemmas.Bool.{and_parts, cases_lt, true≢false}
use Rattle.std.proofs.lemmas.List.Kept.{AllPairs-cons}
use Rattle.agent_events.specs.declared.order.Order.{Order}
use Rattle.agent_events.specs.declared.request.AccountForm.{AccountForm}
use Rattle.agent_events.specs.declared.trade.Trade.{Trade}
use Rattle.register_laws.proofs.OrderTurns.{some-same, trades_in_turn}
use Rattle.register_laws.specs.FirstBroken.{FirstBrokenIsFirst}
use Rattle.register_laws.specs.TradesInTurn.{IsExecutedBefore}
use Rattle.fund_calendar.proofs.ListFacts.{AllPairs-head, AllPairs-tail}
use Rattle.fund_calendar.proofs.LookUpLemmas.{find_passes}
use Rattle.register_laws.proofs.BrokenByParts.{breaks_by_parts}
use Rattle.register_laws.proofs.Choosing.{none_some}
use Rattle.register_laws.proofs.ExecutedInTurn.{pairs-none, unfilled_are_orders}
use Rattle.register_laws.proofs.Tests.{not-true}
use Rattle.register_laws.proofs.Unreached.{all-unfiltered}
use Rattle.register_laws.specs.BrokenByParts.{first_broken_in}
use Rattle.register_laws.specs.Households.{part_of}
use Rattle.register_laws.specs.Priced.{is_order_kind}
use Rattle.register_machine.specs.pricing.CorrectedBook.{Book}
use Rattle.register_machine.specs.replay.Replay.{replay}
use Rattle.register_machine.specs.replay.Trades.{Day}
use Rattle.register_machine.specs.rules.Breaks.{is_broken, is_filled, is_trade_of, was_filled}

-- ---- pairs of a part of a list

abbrev WherePassing : {X : Type 0} → (X → Bool) → (X → X → Type 0) → X → X → Type 0
WherePassing p R x y = p x ≡ true → p y ≡ true → R x y

pairs-unless : {X : Type 0} (p : X → Bool) (R : X → X → Type 0) (xs : List X) → AllPairs R (filter p xs) → AllPairs (WherePassing p R) xs
pairs-unless p R [] pairs = pairs-none (WherePassing p R)
pairs-unless {X = X} p R (x ∷ xs) pairs = by (p x) refl pairs (pairs-unless p R xs)
  where
    by : (b : Bool) → p x ≡ b → AllPairs R (cond b (x ∷ filter p xs) (filter p xs)) → (AllPairs R (filter p xs) → AllPairs (WherePassing p R) xs) → AllPairs (WherePassing p R) (x ∷ xs)
    by true is pairs later =
        AllPairs-cons (WherePassing p R) x xs
        (λ k d short here there. all-unfiltered (R x) p xs (AllPairs-head R x (filter p xs) pairs) k d short there)
        (later (AllPairs-tail R x (filter p xs) pairs))
    by false is pairs later =
        AllPairs-cons (WherePassing p R) x xs (λ k d short here. absurd (true≢false (sym here ∙ is))) (later pairs)

-- ---- what is broken is an order's trade

not-filled : (order : Option Order) (before : List Trade) (trade : Trade) → is_broken order before trade ≡ true → is_filled trade.outcome ≡ false
not-filled order before trade e = not-true (is_filled trade.outcome) (and_parts (not (is_filled trade.outcome)) (was_filled before trade || option_map_or (λ own. is_trade_of own.account own.ref_no trade) order false) e).0

pub within-list : {X : Type 0} (xs : List X) (i : ℕ) (x : X) → slice_get xs i ≡ Some x → i < length xs
within-list [] i x e = absurd (none_some e)
within-list (y ∷ ys) zero x e = omega arith
within-list (y ∷ ys) (suc i) x e = let rest = within-list ys i x e in omega (arith, rest)

pub first_broken_is_first : (book : Book) (order : Option Order) (before : Day) (accounts : List AccountForm) (household : ℕ) → FirstBrokenIsFirst book order before accounts household
first_broken_is_first book order before accounts household numbers once turns trade least own whole = by_place (cases_lt first place)
  where
    trades : List Trade
    trades = (replay book).trades

    found : (place : ℕ) × (first : ℕ) × (other : Trade) × (slice_get trades place ≡ Some trade) × (slice_get trades first ≡ Some other) × (first_broken_in order before (replay book) ≡ Some other) × (first ≤ place)
    found = (breaks_by_parts accounts order before (replay book)).some household trade own

    place : ℕ
    place = found.0

    first : ℕ
    first = found.1

    same : found.2 ≡ least
    same = some-same found.2 least (sym found.5 ∙ whole)

    is-order : (other : Trade) (i : ℕ) → slice_get trades i ≡ Some other → is_filled other.outcome ≡ false → is_order_kind other.kind ≡ true
    is-order other i there unfilled =
        let at = get_or_from_slice_get trades i other other there in
        subst (λ (t : Trade). is_order_kind t.kind ≡ true) at
        (unfilled_are_orders book i other (within-list trades i other there) (ap (λ (t : Trade). is_filled t.outcome) at ∙ unfilled))

    own_unfilled : is_filled trade.outcome ≡ false
    own_unfilled =
        not-filled order (part_of accounts household before).trades trade
        (find_passes (is_broken order (part_of accounts household before).trades) (part_of accounts household (replay book)).trades trade own)

    least_unfilled : is_filled least.outcome ≡ false
    least_unfilled = not-filled order before.trades least (find_passes (is_broken order before.trades) trades least whole)

    first_there : slice_get trades first ≡ Some least
    first_there = found.4 ∙ ap Some same

    place_there : slice_get trades place ≡ Some trade
    place_there = found.3

    by_place : (first < place) ⊎ (place ≤ first) → (trade ≡ least) ⊎ IsExecutedBefore book.orders least trade
    by_place (inl less) =
        inr
        (subst (λ t. IsExecutedBefore book.orders least t) (get_or_from_slice_get trades place trade trade place_there)
        (subst (λ t. IsExecutedBefore book.orders t (get_or trades place trade)) (get_or_from_slice_get trades first least trade first_there)
        (pairs-unless (λ (t : Trade). is_order_kind t.kind) (IsExecutedBefore book.orders) trades (trades_in_turn book numbers once turns) first place trade less
        (within-list trades place trade place_there)
        (ap (λ (t : Trade). is_order_kind t.kind) (get_or_from_slice_get trades first least trade first_there) ∙ is-order least first first_there least_unfilled)
        (ap (λ (t : Trade). is_order_kind t.kind) (get_or_from_slice_get trades place trade trade place_there) ∙ is-order trade place place_there own_unfilled))))
    by_place (inr back) =
        let le = found.6 in
        inl (some-same trade least (sym place_there ∙ (ap (slice_get trades) (equal place first back le) ∙ first_there)))
      where
        equal : (a b : ℕ) → a ≤ b → b ≤ a → a ≡ b
        equal a b one two = omega (arith, one, two)
