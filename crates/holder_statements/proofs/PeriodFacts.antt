-- Trades in the order of their moments, cut by dates: what is cut off isn't of the period.
use Rattle.std.proofs.Common.{AllPairs, Bool, List, [], ap, arith, cond, drop, false, filter, get_or, inl, inr, length, ltb, nat_le, refl, suc, sym, take, true, zero, ℕ, ◌&&◌, ◌*◌, ◌++◌, ◌+◌, ◌-◌, ◌<◌, ◌==◌, ◌∙◌, ◌∷◌, ◌≡◌, ◌≤◌}
use Rattle.std.specs.List.{flat_map}
use Rattle.std.specs.List.Sorted.{IsPartitionPoint, IsPartitionedBy}
use Rattle.std.proofs.lemmas.Bool.{cases_lt, ltb-false, ltb-true}
use Rattle.std.proofs.lemmas.Bool.Decides.{leb_tells}
use Rattle.std.proofs.lemmas.List.Elements.{All-take}
use Rattle.std.proofs.lemmas.List.Sorted.{IsPartitionedBy-ltb}
use Rattle.agent_events.specs.declared.request.StatementForm.{StatementForm}
use Rattle.agent_events.specs.declared.trade.Trade.{Trade}
use Rattle.register_machine.specs.queries.Statement.{is_in_period, trade_line}
use Rattle.holder_statements.proofs.HoldingFacts.{none_pass}
use Rattle.holder_statements.specs.Periods.{AreDated, IsNear, line_in_period}

-- ---- lists

pub filter_drop : {X : Type 0} (p : X → Bool) (xs : List X) (i : ℕ) → ((k : ℕ) (d : X) → k < i → k < length xs → p (get_or xs k d) ≡ false) → filter p (drop i xs) ≡ filter p xs
filter_drop p [] zero h = refl
filter_drop p [] (suc i) h = refl
filter_drop p (x ∷ xs) zero h = refl
filter_drop p (x ∷ xs) (suc i) h =
    rw (h 0 x (omega arith) (omega arith)) (filter_drop p xs i (λ k d lt short. h (suc k) d (omega arith) (omega arith)))

pub filter_take : {X : Type 0} (p : X → Bool) (xs : List X) (i : ℕ) → ((k : ℕ) (d : X) → i ≤ k → k < length xs → p (get_or xs k d) ≡ false) → filter p (take i xs) ≡ filter p xs
filter_take p [] zero h = refl
filter_take p [] (suc i) h = refl
filter_take p (x ∷ xs) zero h = sym (none_pass p (x ∷ xs) (λ k d short. h k d (omega arith) short))
filter_take p (x ∷ xs) (suc i) h =
    ap (λ ys. cond (p x) (x ∷ ys) ys) (filter_take p xs i (λ k d le short. h (suc k) d (omega arith) (omega arith)))

-- the pieces of those that pass are the pieces of all, where the others have none
pub pieces_of_passing : {X Y : Type 0} (p : X → Bool) (f : X → List Y) (xs : List X) → flat_map (λ x. cond (p x) (f x) []) xs ≡ flat_map f (filter p xs)
pieces_of_passing p f [] = refl
pieces_of_passing p f (x ∷ xs) =
    elim (p x) as (λ b. cond b (f x) [] ++ flat_map (λ x. cond (p x) (f x) []) xs ≡ flat_map f (cond b (x ∷ filter p xs) (filter p xs))) [
      | true ↦ ap (λ ys. f x ++ ys) (pieces_of_passing p f xs)
      | false ↦ pieces_of_passing p f xs
    ]

pairs_take : {X : Type 0} (R : X → X → Type 0) (xs : List X) (i : ℕ) → AllPairs R xs → AllPairs R (take i xs)
pairs_take R xs i h a b d lt short =
    let within : b < length xs = take_short xs i b short in
    let in_front : b < i = take_front xs i b short in
    rw (take_at xs i a d (omega arith), take_at xs i b d in_front) (h a b d lt within)
  where
    take_short : {X : Type 0} (xs : List X) (i k : ℕ) → k < length (take i xs) → k < length xs
    take_short [] zero k h = h
    take_short [] (suc i) k h = h
    take_short (x ∷ xs) zero k h = absurd (omega arith)
    take_short (x ∷ xs) (suc i) zero h = omega arith
    take_short (x ∷ xs) (suc i) (suc k) h = let less = take_short xs i k (omega arith) in omega arith

    take_front : {X : Type 0} (xs : List X) (i k : ℕ) → k < length (take i xs) → k < i
    take_front [] zero k h = absurd (omega arith)
    take_front [] (suc i) k h = absurd (omega arith)
    take_front (x ∷ xs) zero k h = absurd (omega arith)
    take_front (x ∷ xs) (suc i) zero h = omega arith
    take_front (x ∷ xs) (suc i) (suc k) h = let less = take_front xs i k (omega arith) in omega arith

    take_at : {X : Type 0} (xs : List X) (i k : ℕ) (d : X) → k < i → get_or (take i xs) k d ≡ get_or xs k d
    take_at xs zero k d h = absurd (omega arith)
    take_at [] (suc i) k d h = refl
    take_at (x ∷ xs) (suc i) zero d h = refl
    take_at (x ∷ xs) (suc i) (suc k) d h = take_at xs i k d (omega arith)

-- ---- trades

pub dated_take : (trades : List Trade) (i : ℕ) → AreDated trades → AreDated (take i trades)
dated_take trades i dated = record {
  in_turn = pairs_take (λ (earlier : Trade) (later : Trade). earlier.moment ≤ later.moment) trades i dated.in_turn;
  near = All-take IsNear i trades dated.near;
}

-- moments that never fall are cut at one place
pub parted_by : (trades : List Trade) (seconds : ℕ) → AllPairs (λ earlier later. earlier.moment ≤ later.moment) trades → IsPartitionedBy (λ trade. ltb trade.moment seconds) trades
parted_by trades seconds pairs =
    IsPartitionedBy-ltb (λ (trade : Trade). trade.moment) trades seconds
    (λ i j d le short. (elim (cases_lt i j) [
      | inl lt ↦ pairs i j d lt short
      | inr ge ↦ let same : i ≡ j = omega arith in rw same (omega arith)
    ]))

le_false : (a b : ℕ) → b < a → nat_le a b ≡ false
le_false a b h = elim (leb_tells a b) [ inl (_, le) ↦ absurd (omega arith) | inr (t, _) ↦ t ]

and_false : (b : Bool) → (b && false) ≡ false
and_false true = refl
and_false false = refl

early : (form : StatementForm) (trade : Trade) → trade.day < form.first → is_in_period form trade ≡ false
early form trade lt =
    ap (λ b. (trade.account == form.account) && (b && nat_le trade.day form.last)) (le_false form.first trade.day lt) ∙ and_false (trade.account == form.account)

late : (form : StatementForm) (trade : Trade) → form.last < trade.day → is_in_period form trade ≡ false
late form trade lt =
    ap (λ b. (trade.account == form.account) && (nat_le form.first trade.day && b)) (le_false trade.day form.last lt)
    ∙ (ap (λ b. (trade.account == form.account) && b) (and_false (nat_le form.first trade.day)) ∙ and_false (trade.account == form.account))

-- before the fourth day behind the period stand all trades of it
pub cut_behind : (form : StatementForm) (trades : List Trade) (place seconds : ℕ) → AreDated trades → seconds ≡ (form.last + 4) * 86400
    → IsPartitionPoint (λ trade. ltb trade.moment seconds ≡ true) (λ trade. ltb trade.moment seconds ≡ false) trades place
    → filter (is_in_period form) (take place trades) ≡ filter (is_in_period form) trades
cut_behind form trades place seconds dated is point =
    filter_take (is_in_period form) trades place
    (λ k d le short.
    let trade = get_or trades k d in
    let not_before : seconds ≤ trade.moment = ltb-false trade.moment seconds (point.1 k d le short) in
    let near = (dated.near k d short).not_before in
    late form trade (omega arith))

-- from the third day before the period on stand all trades of it
pub cut_before : (form : StatementForm) (trades : List Trade) (place seconds : ℕ) → AreDated trades → seconds ≡ form.first * 86400 - 259200
    → IsPartitionPoint (λ trade. ltb trade.moment seconds ≡ true) (λ trade. ltb trade.moment seconds ≡ false) trades place
    → filter (is_in_period form) (drop place trades) ≡ filter (is_in_period form) trades
cut_before form trades place seconds dated is point =
    filter_drop (is_in_period form) trades place
    (λ k d lt short.
    let trade = get_or trades k d in
    let before : trade.moment < seconds = ltb-true trade.moment seconds (point.0 k d (omega arith) lt) in
    let near = (dated.near k d short).not_after in
    early form trade (omega arith))

pub lines_in_period : (form : StatementForm) (trades : List Trade) → flat_map (line_in_period form) trades ≡ flat_map trade_line (filter (is_in_period form) trades)
lines_in_period form trades = pieces_of_passing (is_in_period form) trade_line trades
