-- What a change of a position's own lots makes of all its lots: those that it has in common with copies stand as they are.
use Rattle.std.proofs.Common.{◌≡◌, ℕ, ◌+◌, ◌-◌, ◌≤◌, Bool, true, false, cond, not, ◌&&◌, ◌||◌, ◌==◌, min, List, [], ◌∷◌, ◌++◌, length, get_or, map, filter, sum_by, refl, sym, ap, ◌∙◌, inl, inr, arith, append_assoc, append-nil, find, Some, option_map, get_or-append-add, length-append, subst}
use Rattle.std.specs.Prelude.{All, AllPairs, ◌⊎◌}
use Rattle.std.specs.List.{list_any, slice_get}
use Rattle.std.proofs.lemmas.Bool.{cases_lt}
use Rattle.std.proofs.lemmas.List.{get_or_append_left, map-append}
use Rattle.std.proofs.lemmas.Option.{get_or_from_slice_get}
use Rattle.std.proofs.lemmas.List.Elements.{filter-append}
use Rattle.std.proofs.lemmas.List.Kept.{AllPairs-cons}
use Rattle.std.proofs.lemmas.List.Sums.{sum_by-cons, sum_by-append}
use Rattle.fund_calendar.proofs.ListFacts.{All-left, All-right}
use Rattle.share_lots.specs.declared.lot.Lot.{Lot}
use Rattle.share_lots.specs.Lots.{mils, AreRanked, ranks_before, before_by_date, hold_in, release_lot, join_free, lots_with, free_number}
use Rattle.share_lots.specs.Taking.{lot_less, pieces_of, pieces, lots_less, has_mils}
use Rattle.share_lots.proofs.OrderLemmas.{ranks-next}
use Rattle.share_lots.proofs.LotLemmas.{All-head, All-tail, AllPairs-head, AllPairs-tail, nothing-taken, nothing-lessened, owned_behind, map-join_none, none_before, placed-behind}
use Rattle.share_lots.proofs.KeptLemmas.{sum-has_mils}
use Rattle.share_lots.proofs.AddedLemmas.{none_found}

pub AllPairs-left : {X : Type 0} (R : X → X → Type 0) (xs ys : List X) → AllPairs R (xs ++ ys) → AllPairs R xs
AllPairs-left R [] ys pairs = λ i j d lt short. absurd (omega arith)
AllPairs-left R (x ∷ xs) ys pairs =
    AllPairs-cons R x xs (All-left (R x) xs ys (AllPairs-head R x (xs ++ ys) pairs)) (AllPairs-left R xs ys (AllPairs-tail R x (xs ++ ys) pairs))

pub AllPairs-right : {X : Type 0} (R : X → X → Type 0) (xs ys : List X) → AllPairs R (xs ++ ys) → AllPairs R ys
AllPairs-right R [] ys pairs = pairs
AllPairs-right R (x ∷ xs) ys pairs = AllPairs-right R xs ys (AllPairs-tail R x (xs ++ ys) pairs)

-- a taking that the first lots have enough loose mils for
less-front : (asked : ℕ) (xs ys : List Lot) → asked ≤ sum_by (λ l. l.loose) xs → All (λ l. 1 ≤ mils l) ys
    → lots_less asked xs ++ ys ≡ lots_less asked (xs ++ ys)
unfolding lots_less
less-front asked [] ys enough some =
    let none : asked ≡ 0 = omega arith in
    sym (ap (λ n. lots_less n ys) none ∙ nothing-lessened ys some)
less-front asked (x ∷ xs) ys enough some =
    let left : asked - x.loose ≤ sum_by (λ l. l.loose) xs = omega (arith, enough, sum_by-cons (λ (l : Lot). l.loose) x xs) in
    ap (λ ls. lot_less x (min x.loose asked) ∷ ls) (less-front (asked - x.loose) xs ys left some)

all_kept : (lots : List Lot) → All (λ l. 1 ≤ mils l) lots → filter has_mils lots ≡ lots
all_kept [] some = refl
all_kept (x ∷ xs) some =
    let here : has_mils x ≡ true = grind (arith, All-head (λ l. 1 ≤ mils l) x xs some) in
    ap (λ b. cond b (x ∷ filter has_mils xs) (filter has_mils xs)) here
    ∙ ap (λ ls. x ∷ ls) (all_kept xs (All-tail (λ l. 1 ≤ mils l) x xs some))

taken-first : (asked : ℕ) (xs ys : List Lot) → (asked ≤ sum_by (λ l. l.loose) xs) ⊎ (ys ≡ []) → All (λ l. 1 ≤ mils l) (xs ++ ys)
    → filter has_mils (lots_less asked xs) ++ ys ≡ filter has_mils (lots_less asked (xs ++ ys))
taken-first asked xs ys (inl enough) some =
    let last = All-right (λ l. 1 ≤ mils l) xs ys some in
    sym (ap (filter has_mils) (sym (less-front asked xs ys enough last))
    ∙ filter-append has_mils (lots_less asked xs) ys
    ∙ ap (λ ls. filter has_mils (lots_less asked xs) ++ ls) (all_kept ys last))
taken-first asked xs ys (inr none) some =
    ap (λ ls. filter has_mils (lots_less asked xs) ++ ls) none
    ∙ append-nil (filter has_mils (lots_less asked xs))
    ∙ ap (λ ls. filter has_mils (lots_less asked ls)) (sym (append-nil xs))
    ∙ ap (λ ls. filter has_mils (lots_less asked (xs ++ ls))) (sym none)

pub taken-front : (asked : ℕ) (xs ys zs : List Lot) → (asked ≤ sum_by (λ l. l.loose) xs) ⊎ (ys ++ zs ≡ []) → All (λ l. 1 ≤ mils l) (xs ++ ys ++ zs)
    → filter has_mils (lots_less asked xs) ++ ys ++ zs ≡ filter has_mils (lots_less asked (xs ++ ys ++ zs))
taken-front asked xs ys zs enough some =
    append_assoc (filter has_mils (lots_less asked xs)) ys zs
    ∙ taken-first asked xs (ys ++ zs) enough (rw (append_assoc xs ys zs) at some)
    ∙ ap (λ ls. filter has_mils (lots_less asked ls)) (sym (append_assoc xs ys zs))

-- its pieces, and those of a taking from all
pieces-append : (asked : ℕ) (xs ys : List Lot) → pieces asked (xs ++ ys) ≡ pieces asked xs ++ pieces (asked - sum_by (λ l. l.loose) xs) ys
unfolding pieces
pieces-append asked [] ys = let same : asked ≡ asked - 0 = omega arith in ap (λ n. pieces n ys) same
pieces-append asked (x ∷ xs) ys =
    let left : asked - x.loose - sum_by (λ (l : Lot). l.loose) xs ≡ asked - sum_by (λ (l : Lot). l.loose) (x ∷ xs) = omega (arith, sum_by-cons (λ (l : Lot). l.loose) x xs) in
    ap (λ ps. pieces_of x (min x.loose asked) ++ ps) (pieces-append (asked - x.loose) xs ys)
    ∙ sym (append_assoc (pieces_of x (min x.loose asked)) (pieces (asked - x.loose) xs) (pieces (asked - x.loose - sum_by (λ (l : Lot). l.loose) xs) ys))
    ∙ ap (λ n. pieces_of x (min x.loose asked) ++ pieces (asked - x.loose) xs ++ pieces n ys) left

pub pieces-three : (asked : ℕ) (xs ys zs : List Lot)
    → [] ++ pieces asked xs ++ pieces (asked - sum_by (λ l. l.loose) xs) ys
    ++ pieces (asked - sum_by (λ l. l.loose) xs - sum_by (λ l. l.loose) ys) zs
    ≡ pieces asked (xs ++ ys ++ zs)
pieces-three asked xs ys zs =
    let left : asked - sum_by (λ (l : Lot). l.loose) xs - sum_by (λ (l : Lot). l.loose) ys ≡ asked - sum_by (λ (l : Lot). l.loose) (xs ++ ys) = omega (arith, sum_by-append (λ (l : Lot). l.loose) xs ys) in
    ap (λ n. pieces asked xs ++ pieces (asked - sum_by (λ l. l.loose) xs) ys ++ pieces n zs) left
    ∙ ap (λ ps. ps ++ pieces (asked - sum_by (λ (l : Lot). l.loose) (xs ++ ys)) zs) (sym (pieces-append asked xs ys))
    ∙ sym (pieces-append asked (xs ++ ys) zs)

pub pieces-front : (asked : ℕ) (xs ys zs : List Lot) → (asked ≤ sum_by (λ l. l.loose) xs) ⊎ (ys ++ zs ≡ []) → pieces asked xs ≡ pieces asked (xs ++ ys ++ zs)
pieces-front asked xs ys zs (inl enough) =
    let none : asked - sum_by (λ (l : Lot). l.loose) xs ≡ 0 = omega (arith, enough) in
    sym (ap (pieces asked) (append_assoc xs ys zs)
    ∙ pieces-append asked xs (ys ++ zs)
    ∙ ap (λ n. pieces asked xs ++ pieces n (ys ++ zs)) none
    ∙ ap (λ ps. pieces asked xs ++ ps) (nothing-taken (ys ++ zs))
    ∙ append-nil (pieces asked xs))
pieces-front asked xs ys zs (inr none) =
    sym (ap (pieces asked) (append_assoc xs ys zs ∙ ap (λ ls. xs ++ ls) none ∙ append-nil xs))

-- mils and cost that join the free lot, which is the first where there is one
joined-first : (q c : ℕ) (xs ys : List Lot) → 1 ≤ length xs → AreRanked (xs ++ ys)
    → map (join_free q c) xs ++ ys ≡ map (join_free q c) (xs ++ ys)
joined-first q c [] ys some ranked = absurd (omega arith)
joined-first q c (x ∷ xs) ys some ranked =
    let owned = All-right (λ l. l.free ≡ false) xs ys (owned_behind x (xs ++ ys) ranked) in
    sym (map-append (join_free q c) (x ∷ xs) ys ∙ ap (λ ls. map (join_free q c) (x ∷ xs) ++ ls) (map-join_none q c ys owned))

pub joined-front : (q c : ℕ) (xs ys zs : List Lot) → (1 ≤ length xs) ⊎ (ys ++ zs ≡ []) → AreRanked (xs ++ ys ++ zs)
    → map (join_free q c) xs ++ ys ++ zs ≡ map (join_free q c) (xs ++ ys ++ zs)
joined-front q c xs ys zs (inl some) ranked =
    append_assoc (map (join_free q c) xs) ys zs
    ∙ joined-first q c xs (ys ++ zs) some (rw (append_assoc xs ys zs) at ranked)
    ∙ ap (map (join_free q c)) (sym (append_assoc xs ys zs))
joined-front q c xs ys zs (inr none) ranked =
    append_assoc (map (join_free q c) xs) ys zs
    ∙ ap (λ ls. map (join_free q c) xs ++ ls) none
    ∙ append-nil (map (join_free q c) xs)
    ∙ ap (map (join_free q c)) (sym (append_assoc xs ys zs ∙ ap (λ ls. xs ++ ls) none ∙ append-nil xs))

find-owned : (xs ys : List Lot) → All (λ l. l.free ≡ false) ys → find (λ l. l.free) xs ≡ find (λ l. l.free) (xs ++ ys)
find-owned [] ys owned = sym (none_found ys owned)
find-owned (x ∷ xs) ys owned = ap (λ found. cond x.free (Some x) found) (find-owned xs ys owned)

free-first : (xs ys : List Lot) → 1 ≤ length xs → AreRanked (xs ++ ys) → free_number xs ≡ free_number (xs ++ ys)
free-first [] ys some ranked = absurd (omega arith)
free-first (x ∷ xs) ys some ranked =
    ap (option_map (λ (l : Lot). l.number)) (find-owned (x ∷ xs) ys (All-right (λ l. l.free ≡ false) xs ys (owned_behind x (xs ++ ys) ranked)))

pub free-front : (xs ys zs : List Lot) → (1 ≤ length xs) ⊎ (ys ++ zs ≡ []) → AreRanked (xs ++ ys ++ zs) → free_number xs ≡ free_number (xs ++ ys ++ zs)
free-front xs ys zs (inl some) ranked =
    free-first xs (ys ++ zs) some (rw (append_assoc xs ys zs) at ranked) ∙ ap free_number (sym (append_assoc xs ys zs))
free-front xs ys zs (inr none) ranked =
    ap free_number (sym (append_assoc xs ys zs ∙ ap (λ ls. xs ++ ls) none ∙ append-nil xs))

-- a new lot before those that it comes before, or behind those that come before it
placed-before : (lot : Lot) (xs ys : List Lot) → All (λ other. ranks_before other lot ≡ false) ys → lots_with lot xs ++ ys ≡ lots_with lot (xs ++ ys)
placed-before lot xs ys behind =
    let none = none_before lot ys behind in
    let first = filter-append (λ other. ranks_before other lot) xs ys ∙ ap (λ ls. filter (λ other. ranks_before other lot) xs ++ ls) none.0 ∙ append-nil (filter (λ other. ranks_before other lot) xs) in
    let last = filter-append (λ other. not (ranks_before other lot)) xs ys ∙ ap (λ ls. filter (λ other. not (ranks_before other lot)) xs ++ ls) none.1 in
    append_assoc (filter (λ other. ranks_before other lot) xs) (lot ∷ filter (λ other. not (ranks_before other lot)) xs) ys
    ∙ ap (λ ls. filter (λ other. ranks_before other lot) xs ++ lot ∷ ls) (sym last)
    ∙ ap (λ ls. ls ++ lot ∷ filter (λ other. not (ranks_before other lot)) (xs ++ ys)) (sym first)

behind-free : (lot : Lot) (ys : List Lot) → lot.free ≡ true → All (λ other. ranks_before other lot ≡ false) ys
behind-free lot ys free k d short =
    ap (λ b. not b && ((get_or ys k d).free || before_by_date (get_or ys k d) lot)) free

pub placed-free : (lot : Lot) (xs ys zs : List Lot) → lot.free ≡ true → lots_with lot xs ++ ys ++ zs ≡ lots_with lot (xs ++ ys ++ zs)
placed-free lot xs ys zs free =
    append_assoc (lots_with lot xs) ys zs
    ∙ placed-before lot xs (ys ++ zs) (behind-free lot (ys ++ zs) free)
    ∙ ap (lots_with lot) (sym (append_assoc xs ys zs))

pub placed-last : (lot : Lot) (xs ys : List Lot) → All (λ other. ranks_before other lot ≡ true) xs → xs ++ lots_with lot ys ≡ lots_with lot (xs ++ ys)
placed-last lot [] ys before = refl
placed-last lot (x ∷ xs) ys before =
    ap (λ ls. x ∷ ls) (placed-last lot xs ys (All-tail (λ other. ranks_before other lot ≡ true) x xs before))
    ∙ sym (placed-behind x lot (xs ++ ys) (All-head (λ other. ranks_before other lot ≡ true) x xs before))

-- lots whose last one comes before another
pub all-precede : (lots : List Lot) (lot last : Lot) → AreRanked lots → slice_get lots (length lots - 1) ≡ Some last → ranks_before last lot ≡ true
    → All (λ other. ranks_before other lot ≡ true) lots
all-precede lots lot last ranked is first k d short =
    let end = get_or_from_slice_get lots (length lots - 1) last d is in
    elim (cases_lt k (length lots - 1)) [
      | inl lt ↦ ranks-next (get_or lots k d) (get_or lots (length lots - 1) d) lot (ranked k (length lots - 1) d lt (omega arith)) (rw end first)
      | inr ge ↦ let same : k ≡ length lots - 1 = omega arith in rw (same, end) first
    ]

-- lots before others whose last one comes before another
pub part-precedes : (xs ys : List Lot) (lot last : Lot) → AreRanked (xs ++ ys) → slice_get ys (length ys - 1) ≡ Some last → ranks_before last lot ≡ true
    → All (λ other. ranks_before other lot ≡ true) xs
part-precedes xs [] lot last ranked is first k d short = absurd cc
part-precedes xs (y ∷ ys) lot last ranked is first k d short =
    let end = get_or_from_slice_get (y ∷ ys) (length (y ∷ ys) - 1) last d is in
    let place = get_or-append-add xs (y ∷ ys) (length (y ∷ ys) - 1) d in
    let whole = length-append xs (y ∷ ys) in
    let before = ranked k (length xs + (length (y ∷ ys) - 1)) d (omega arith) (omega (arith, whole)) in
    let near = subst (λ (a : Lot). ranks_before a (get_or (xs ++ y ∷ ys) (length xs + (length (y ∷ ys) - 1)) d) ≡ true) (get_or_append_left xs (y ∷ ys) d k short) before in
    ranks-next (get_or xs k d) last lot (subst (λ (a : Lot). ranks_before (get_or xs k d) a ≡ true) (place ∙ end) near) first

-- mils that are kept back in a lot that isn't among those in common
neither : (a b : Bool) → (a || b) ≡ false → (a ≡ false) × (b ≡ false)
neither true b h = absurd cc
neither false b h = (refl, h)

held-apart : (number q : ℕ) (lots : List Lot) → list_any (λ l. l.number == number) lots ≡ false → map (hold_in number q) lots ≡ lots
held-apart number q [] none = refl
held-apart number q (x ∷ xs) none =
    let apart = neither (x.number == number) (list_any (λ l. l.number == number) xs) none in
    ap (λ b. cond b (record x { loose = x.loose - q; held = x.held + q }) x ∷ map (hold_in number q) xs) apart.0
    ∙ ap (λ ls. x ∷ ls) (held-apart number q xs apart.1)

pub held-around : (number q : ℕ) (xs ys zs : List Lot) → list_any (λ l. l.number == number) ys ≡ false
    → map (hold_in number q) xs ++ ys ++ map (hold_in number q) zs ≡ map (hold_in number q) (xs ++ ys ++ zs)
held-around number q xs ys zs none =
    sym (map-append (hold_in number q) (xs ++ ys) zs
    ∙ ap (λ ls. ls ++ map (hold_in number q) zs) (map-append (hold_in number q) xs ys ∙ ap (λ ls. map (hold_in number q) xs ++ ls) (held-apart number q ys none)))

-- sums over the parts
pub sum-three : (f : Lot → ℕ) (xs ys zs : List Lot) → sum_by f (xs ++ ys ++ zs) ≡ sum_by f xs + sum_by f ys + sum_by f zs
sum-three f xs ys zs = omega (arith, sum_by-append f (xs ++ ys) zs, sum_by-append f xs ys)

-- held mils aren't taken, and none are held after a release
held-less : (asked : ℕ) (lots : List Lot) → sum_by (λ l. l.held) (lots_less asked lots) ≡ sum_by (λ l. l.held) lots
unfolding lots_less
held-less asked [] = refl
held-less asked (x ∷ xs) =
    sum_by-cons (λ (l : Lot). l.held) (lot_less x (min x.loose asked)) (lots_less (asked - x.loose) xs)
    ∙ ap (λ n. x.held + n) (held-less (asked - x.loose) xs)
    ∙ sym (sum_by-cons (λ (l : Lot). l.held) x xs)

pub held-taken : (asked : ℕ) (lots : List Lot) → sum_by (λ l. l.held) (filter has_mils (lots_less asked lots)) ≡ sum_by (λ l. l.held) lots
held-taken asked lots =
    sum-has_mils (λ l. l.held) (lots_less asked lots) (λ k d short none. omega (arith, none)) ∙ held-less asked lots

pub held-released : (lots : List Lot) → sum_by (λ l. l.held) (map release_lot lots) ≡ 0
held-released [] = refl
held-released (x ∷ xs) = rw (sum_by-cons (λ (l : Lot). l.held) (release_lot x) (map release_lot xs)) (omega (arith, held-released xs))

-- lots are there where there are mils
pub no_lots : (lots : List Lot) → All (λ l. 1 ≤ mils l) lots → (sum_by mils lots == 0) ≡ (length lots == 0)
no_lots [] some = refl
no_lots (x ∷ xs) some =
    let positive = All-head (λ l. 1 ≤ mils l) x xs some in
    grind (arith, sum_by-cons mils x xs, positive)
