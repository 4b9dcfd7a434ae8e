-- What additions, takings, holding back and paying leave of the mils and the cost of a holding.
use Rattle.std.proofs.Common.{All, Bool, List, None, Some, [], ap, arith, cond, count_by, false, filter, find, fold, is_none, length, map, min, not, option_map, refl, sum_by, sym, true, ℕ, ◌&&◌, ◌*◌, ◌+◌, ◌-◌, ◌==◌, ◌∙◌, ◌∷◌, ◌≡◌, ◌≤◌}
use Rattle.std.proofs.lemmas.Bool.{and_parts, eqb-true, true≢false}
use Rattle.std.proofs.lemmas.List.Elements.{All-head, All-tail}
use Rattle.std.proofs.lemmas.List.Sums.{sum_by-cons}
use Rattle.register_laws.proofs.Sums.{passing}
use Rattle.register_machine.specs.replay.Exchange.{holding_with_piece}
use Rattle.register_machine.specs.replay.Positions.{Position, is_fresh, mils_of}
use Rattle.share_lots.proofs.KeptLemmas.{hold-keeps_mils, pieces-whole, release-keeps_mils, taking-keeps_mils}
use Rattle.share_lots.proofs.LotLemmas.{All-placed, IsHolding-joined, IsHolding-release, IsHolding-with_lot, lone_free, owned_behind, sum-mils, sum-placed, sum_by-filter-le}
use Rattle.share_lots.proofs.PaidLemmas.{paying-keeps_loose, paying-whole}
use Rattle.share_lots.proofs.PayingLemmas.{IsHolding-paying}
use Rattle.share_lots.specs.Lots.{AreRanked, HasLoose, Holding, IsHolding, shares_added, added_to, cost_total, held_total, hold_in, hold_mils, join_free, loose_total, most_cost, most_mils, new_lot, release_all, release_lot, with_lot}
use Rattle.share_lots.specs.Taking.{after_paying, after_taking, has_mils, lot_less, lots_less}
use Rattle.share_lots.specs.declared.lot.Lot.{Lot}
use Rattle.share_lots.specs.declared.lot.Piece.{Piece}

abbrev pub its_mils : Position → ℕ
its_mils x = mils_of x.holding

pub no-mils : (h : Holding) → length h.lots ≡ 0 → mils_of h ≡ 0
no-mils h = none h.lots
  where
    none : (lots : List Lot) → length lots ≡ 0 → sum_by (λ (lot : Lot). lot.loose) lots + sum_by (λ (lot : Lot). lot.held) lots ≡ 0
    none [] e = refl
    none (x ∷ xs) e = absurd (omega (arith, e))

pub fresh-no_mils : (p : Position) → is_fresh p ≡ true → mils_of p.holding ≡ 0
fresh-no_mils p e =
    no-mils p.holding (eqb-true (length p.holding.lots) 0 (and_parts (length p.holding.lots == 0) (p.holding.next_lot == 1 && (not p.in_cash && is_none p.letter)) e).0)

abbrev pub frees : List Lot → ℕ
frees lots = count_by (λ (lot : Lot). lot.free) lots

abbrev pub free_of : Lot → ℕ
free_of lot = cond lot.free 1 0

-- an addition brings its mils, where no more than one lot is free
pub lot-mils : (h : Holding) (lot : Lot) → lot.held ≡ 0 → mils_of (with_lot h lot) ≡ mils_of h + lot.loose
lot-mils h lot none =
    omega (arith, none, sum-placed (λ (l : Lot). l.loose) lot h.lots, sum-placed (λ (l : Lot). l.held) lot h.lots)

pub join-loose : (quantity cents : ℕ) (lots : List Lot) → sum_by (λ (l : Lot). l.loose) (map (join_free quantity cents) lots) ≡ sum_by (λ (l : Lot). l.loose) lots + sum_by (λ (l : Lot). cond l.free quantity 0) lots
join-loose quantity cents [] = refl
join-loose quantity cents (x ∷ xs) =
    let one = elim x.free as (λ b. (cond b (record x { loose = x.loose + quantity; cost = x.cost + cents }) x).loose ≡ x.loose + cond b quantity 0) [ true ↦ refl | false ↦ omega arith ] in
    omega (arith, one, join-loose quantity cents xs, sum_by-cons (λ (l : Lot). l.loose) x xs, sum_by-cons (λ (l : Lot). l.loose) (join_free quantity cents x) (map (join_free quantity cents) xs), sum_by-cons (λ (l : Lot). cond l.free quantity 0) x xs)

pub join-held : (quantity cents : ℕ) (lots : List Lot) → sum_by (λ (l : Lot). l.held) (map (join_free quantity cents) lots) ≡ sum_by (λ (l : Lot). l.held) lots
join-held quantity cents [] = refl
join-held quantity cents (x ∷ xs) =
    let one = elim x.free as (λ b. (cond b (record x { loose = x.loose + quantity; cost = x.cost + cents }) x).held ≡ x.held) [ true ↦ refl | false ↦ refl ] in
    omega (arith, one, join-held quantity cents xs, sum_by-cons (λ (l : Lot). l.held) x xs, sum_by-cons (λ (l : Lot). l.held) (join_free quantity cents x) (map (join_free quantity cents) xs))

pub join-frees : (quantity cents : ℕ) (lots : List Lot) → frees (map (join_free quantity cents) lots) ≡ frees lots
join-frees quantity cents [] = refl
join-frees quantity cents (x ∷ xs) =
    omega (arith, one x, join-frees quantity cents xs, sum_by-cons free_of x xs, sum_by-cons free_of (join_free quantity cents x) (map (join_free quantity cents) xs))
  where
    one : (lot : Lot) → free_of (join_free quantity cents lot) ≡ free_of lot
    one lot = elim lot.free as (λ b. lot.free ≡ b → free_of (cond b (record lot { loose = lot.loose + quantity; cost = lot.cost + cents }) lot) ≡ free_of lot) [ true ↦ λ e. refl | false ↦ λ e. refl ] refl

pub some-free : (lots : List Lot) (lot : Lot) → find (λ (lot : Lot). lot.free) lots ≡ Some lot → 1 ≤ frees lots
some-free [] lot e = absurd (none_some e)
  where
    none_some : None ≡ Some lot → ⊥
    none_some h = cc
some-free (x ∷ xs) lot e =
    elim x.free as (λ b. cond b (Some x) (find (λ (lot : Lot). lot.free) xs) ≡ Some lot → frees (x ∷ xs) ≡ cond b 1 0 + frees xs → 1 ≤ frees (x ∷ xs)) [
      | true ↦ λ h s. omega (arith, s)
      | false ↦ λ h s. omega (arith, s, some-free xs lot h)
    ] e (sum_by-cons free_of x xs)

pub taking-shrinks : (h : Holding) (asked : ℕ) → asked ≤ loose_total h → mils_of (after_taking h asked) + asked ≡ mils_of h
taking-shrinks h asked enough =
    omega (arith, sum-mils h.lots, sum-mils (filter has_mils (lots_less asked h.lots)), taking-keeps_mils asked h.lots, pieces-whole asked h.lots enough)

pub joined-cost : (quantity cents : ℕ) (lots : List Lot) → sum_by (λ (l : Lot). l.cost) (map (join_free quantity cents) lots) ≡ sum_by (λ (l : Lot). l.cost) lots + sum_by (λ (l : Lot). cond l.free cents 0) lots
joined-cost quantity cents [] = refl
joined-cost quantity cents (x ∷ xs) =
    let one = elim x.free as (λ b. (cond b (record x { loose = x.loose + quantity; cost = x.cost + cents }) x).cost ≡ x.cost + cond b cents 0) [ true ↦ refl | false ↦ omega arith ] in
    omega (arith, one, joined-cost quantity cents xs, sum_by-cons (λ (l : Lot). l.cost) x xs, sum_by-cons (λ (l : Lot). l.cost) (join_free quantity cents x) (map (join_free quantity cents) xs), sum_by-cons (λ (l : Lot). cond l.free cents 0) x xs)

-- of lots by rank one at most is free
pub one-free : (lots : List Lot) → AreRanked lots → frees lots ≤ 1
one-free [] ranked = omega arith
one-free (x ∷ xs) ranked =
    omega (arith, sum_by-cons free_of x xs, none xs (owned_behind x xs ranked), at_most x.free)
  where
    none : (ys : List Lot) → All (λ l. l.free ≡ false) ys → frees ys ≡ 0
    none [] all = refl
    none (y ∷ ys) all =
        let here : free_of y ≡ 0 = ap (λ b. cond b 1 0) (All-head (λ (l : Lot). l.free ≡ false) y ys all) in
        omega (arith, here, sum_by-cons free_of y ys, none ys (All-tail (λ (l : Lot). l.free ≡ false) y ys all))

    at_most : (b : Bool) → cond b 1 0 ≤ 1
    at_most true = omega arith
    at_most false = omega arith

-- so many mils more and at most so much cost, all of them loose
pub record Grown (before after : Holding) (quantity cents : ℕ) : Type 0 where
  pub holding : IsHolding after
  pub grown : mils_of after ≡ mils_of before + quantity
  pub dear : cost_total after ≤ cost_total before + cents
  pub held : held_total after ≡ held_total before

pub added-grown : (h : Holding) (day quantity cents : ℕ) (free : Bool) → IsHolding h → 1 ≤ quantity → mils_of h + quantity ≤ most_mils → cost_total h + cents ≤ most_cost → Grown h (shares_added h day quantity cents free).holding quantity cents
added-grown h day quantity cents false is some fits cost =
    let lot = new_lot h day quantity cents false in
    record {
      holding = IsHolding-with_lot h lot is refl (omega (arith, some)) (omega (arith, sum-mils h.lots, fits)) cost (λ e. absurd (true≢false (sym e)));
      grown = lot-mils h lot refl;
      dear = omega (arith, sum-placed (λ (l : Lot). l.cost) lot h.lots);
      held = omega (arith, sum-placed (λ (l : Lot). l.held) lot h.lots);
    }
added-grown h day quantity cents true is some fits cost =
    let lot = new_lot h day quantity cents true in
    elim (find (λ (l : Lot). l.free) h.lots) as (λ found. find (λ (l : Lot). l.free) h.lots ≡ found → Grown h (added_to h lot (option_map (λ (l : Lot). l.number) found)).holding quantity cents) [
      | None ↦ λ e. record {
        holding = IsHolding-with_lot h lot is refl (omega (arith, some)) (omega (arith, sum-mils h.lots, fits)) cost (lone_free h.lots true (ap (option_map (λ (l : Lot). l.number)) e));
        grown = lot-mils h lot refl;
        dear = omega (arith, sum-placed (λ (l : Lot). l.cost) lot h.lots);
        held = omega (arith, sum-placed (λ (l : Lot). l.held) lot h.lots);
      }
      | Some other ↦ λ e.
          let one : frees h.lots ≡ 1 = omega (arith, one-free h.lots is.ranked, some-free h.lots other e) in
          let more : sum_by (λ (l : Lot). cond l.free quantity 0) h.lots ≡ quantity = passing (λ (l : Lot). l.free) quantity h.lots ∙ (ap (λ n. quantity * n) one ∙ omega arith) in
          let dearer : sum_by (λ (l : Lot). cond l.free cents 0) h.lots ≡ cents = passing (λ (l : Lot). l.free) cents h.lots ∙ (ap (λ n. cents * n) one ∙ omega arith) in
          record {
            holding = IsHolding-joined h quantity cents is (omega (arith, sum-mils h.lots, fits)) cost;
            grown = omega (arith, join-loose quantity cents h.lots, join-held quantity cents h.lots, more);
            dear = omega (arith, joined-cost quantity cents h.lots, dearer);
            held = join-held quantity cents h.lots;
          }
    ] refl

pub pieces-grown : (given : List Piece) (h : Holding) → IsHolding h → All (λ (piece : Piece). 1 ≤ piece.mils) given → mils_of h + sum_by (λ (piece : Piece). piece.mils) given ≤ most_mils → cost_total h + sum_by (λ (piece : Piece). piece.cost) given ≤ most_cost → Grown h (fold holding_with_piece h given) (sum_by (λ (piece : Piece). piece.mils) given) (sum_by (λ (piece : Piece). piece.cost) given)
pieces-grown [] h is some fits cost =
    record { holding = is; grown = omega arith; dear = omega arith; held = refl }
pieces-grown (piece ∷ given) h is some fits cost =
    let total = sum_by-cons (λ (p : Piece). p.mils) piece given in
    let costs = sum_by-cons (λ (p : Piece). p.cost) piece given in
    let here = added-grown h piece.day piece.mils piece.cost piece.free is (All-head (λ (p : Piece). 1 ≤ p.mils) piece given some) (omega (arith, fits, total)) (omega (arith, cost, costs)) in
    let rest = pieces-grown given (holding_with_piece h piece) here.holding (All-tail (λ (p : Piece). 1 ≤ p.mils) piece given some) (omega (arith, fits, total, here.grown)) (omega (arith, cost, costs, here.dear)) in
    record {
      holding = rest.holding;
      grown = omega (arith, here.grown, rest.grown, total);
      dear = omega (arith, here.dear, rest.dear, costs);
      held = rest.held ∙ here.held;
    }

-- ---- held back, released, taken and paid

-- held back, released and paid
pub hold-frees : (number quantity : ℕ) (lots : List Lot) → frees (map (hold_in number quantity) lots) ≡ frees lots
hold-frees number quantity [] = refl
hold-frees number quantity (x ∷ xs) =
    let one = elim (x.number == number) as (λ b. free_of (cond b (record x { loose = x.loose - quantity; held = x.held + quantity }) x) ≡ free_of x) [ true ↦ refl | false ↦ refl ] in
    omega (arith, one, hold-frees number quantity xs, sum_by-cons free_of x xs, sum_by-cons free_of (hold_in number quantity x) (map (hold_in number quantity) xs))

pub release-frees : (lots : List Lot) → frees (map release_lot lots) ≡ frees lots
release-frees [] = refl
release-frees (x ∷ xs) =
    omega (arith, release-frees xs, sum_by-cons free_of x xs, sum_by-cons free_of (release_lot x) (map release_lot xs))

pub release-mils : (h : Holding) → mils_of (release_all h) ≡ mils_of h
release-mils h = omega (arith, sum-mils h.lots, sum-mils (map release_lot h.lots), release-keeps_mils h.lots)

pub hold-mils : (h : Holding) (number quantity : ℕ) → HasLoose h.lots number quantity → mils_of (hold_mils h number quantity) ≡ mils_of h
hold-mils h number quantity has =
    omega (arith, sum-mils h.lots, sum-mils (map (hold_in number quantity) h.lots), hold-keeps_mils number quantity h.lots has)

-- the new lot of a purchase has its mils loose
pub new-loose : (h : Holding) (day quantity cents hold : ℕ) → IsHolding h → hold ≤ quantity → HasLoose (shares_added h day quantity cents false).holding.lots (shares_added h day quantity cents false).number hold
new-loose h day quantity cents hold is le =
    All-placed (λ l. l.number ≡ h.next_lot → hold ≤ l.loose) (new_lot h day quantity cents false) h.lots (λ e. le)
    (λ k d short e. let below = is.below_next k d short in absurd (omega (arith, below, e)))

pub release-none_held : (lots : List Lot) → sum_by (λ (l : Lot). l.held) (map release_lot lots) ≡ 0
release-none_held [] = refl
release-none_held (x ∷ xs) =
    omega (arith, release-none_held xs, sum_by-cons (λ (l : Lot). l.held) (release_lot x) (map release_lot xs))

-- a taking leaves no more held mils than there were
pub taking-held : (h : Holding) (asked : ℕ) → held_total (after_taking h asked) ≤ held_total h
unfolding lots_less
taking-held h asked =
    omega (arith, sum_by-filter-le (λ (l : Lot). l.held) has_mils (lots_less asked h.lots), same asked h.lots)
  where
    same : (asked : ℕ) (lots : List Lot) → sum_by (λ (l : Lot). l.held) (lots_less asked lots) ≡ sum_by (λ (l : Lot). l.held) lots
    same asked [] = refl
    same asked (x ∷ xs) =
        omega (arith, same (asked - x.loose) xs, sum_by-cons (λ (l : Lot). l.held) x xs, sum_by-cons (λ (l : Lot). l.held) (lot_less x (min x.loose asked)) (lots_less (asked - x.loose) xs))

pub paying-shrinks : (h : Holding) (asked : ℕ) → IsHolding h → asked ≤ held_total h → mils_of (release_all (after_paying h asked)) + asked ≡ mils_of h
paying-shrinks h asked is enough =
    omega (arith, release-mils (after_paying h asked), paying-keeps_loose h.lots asked, paying-whole h.lots asked is.ranked is.distinct enough)

pub paying-holds : (h : Holding) (asked : ℕ) → IsHolding h → IsHolding (release_all (after_paying h asked))
paying-holds h asked is = IsHolding-release (after_paying h asked) (IsHolding-paying h asked is)

-- a position without lots is one
pub fresh-holds : IsHolding (record { lots = []; next_lot = 1 })
fresh-holds = record {
  next_number = omega arith;
  numbered = λ k d short. absurd (omega (arith, short));
  below_next = λ k d short. absurd (omega (arith, short));
  distinct = λ i j d lt short. absurd (omega (arith, short));
  ranked = λ i j d lt short. absurd (omega (arith, short));
  with_mils = λ k d short. absurd (omega (arith, short));
  few_mils = omega arith;
  low_cost = omega arith;
}
