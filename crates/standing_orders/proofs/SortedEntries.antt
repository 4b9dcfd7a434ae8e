-- Rows under numbers, sorted by receipt and by number.
use Rattle.std.proofs.Common.{Bool, List, ap, arith, cond, false, filter, get_or, inl, inr, length, map, nat_lt, not, refl, subst, sym, true, ℕ, ◌&&◌, ◌<◌, ◌==◌, ◌∙◌, ◌≡◌, ◌≤◌}
use Rattle.std.proofs.lemmas.Bool.{cases_lt}
use Rattle.std.proofs.lemmas.List.{get_or-map, length-map}
use Rattle.std.proofs.lemmas.List.Sorted.{IsNonDecreasingBy-from_sort}
use Rattle.std.proofs.lemmas.List.Elements.{filter_agree}
use Rattle.std.specs.List.Sorted.{IsNonDecreasingBy, IsSortedByKey, IsStableByKey, ties}
use Rattle.std.specs.Ordering.{is_lt, nat_cmp}
use Rattle.std.specs.declared.cmp.Ordering.TheVariants.{Equal, Greater, Less}
use Rattle.agent_events.specs.declared.order.Body.{Body}
use Rattle.agent_events.specs.declared.order.OrderRow.{OrderRow}
use Rattle.register_laws.proofs.Comparisons.{eq-no, eq-yes, lt-no, lt-yes}
use Rattle.register_laws.proofs.ListParts.{filter-map}
use Rattle.register_machine.specs.replay.Replay.{all_in_turn}
use Rattle.standing_orders.proofs.InTurn.{are-in-turn, received_at}
use Rattle.standing_orders.specs.Entries.{is_under, order_of, row_of, rows_of}
use Rattle.checkpoint_replay.specs.Replays.{NumberedOrder}
use Rattle.standing_orders.specs.declared.entries.NumberedRow.{NumberedRow}

lt-of-cmp : (a b : ℕ) → is_lt (nat_cmp a b) ≡ nat_lt a b
lt-of-cmp a b = by_less (nat_lt a b)
  where
    by_same : (same : Bool) → is_lt (cond same Equal Greater) ≡ false
    by_same true = refl
    by_same false = refl

    by_less : (is : Bool) → is_lt (cond is Less (cond (a == b) Equal Greater)) ≡ is
    by_less true = refl
    by_less false = by_same (a == b)

level : (a b : ℕ) → (not (nat_lt a b) && not (nat_lt b a)) ≡ (b == a)
level a b = elim (cases_lt a b) [
  | inl low ↦ ap (λ is. not is && not (nat_lt b a)) (lt-yes a b low) ∙ sym (eq-no b a (λ e. omega (arith, low, e)))
  | inr ge ↦
      ap (λ is. not is && not (nat_lt b a)) (lt-no a b ge)
      ∙ elim (cases_lt b a) [
        | inl high ↦ ap not (lt-yes b a high) ∙ sym (eq-no b a (λ e. omega (arith, high, e)))
        | inr le ↦ ap not (lt-no b a le) ∙ sym (eq-yes b a (omega (arith, ge, le)))
      ]
]

-- what ties by a number has the same number
tie-at : {X : Type 0} (key : X → ℕ) (x y : X) → ties (λ a b. is_lt (nat_cmp (key a) (key b))) x y ≡ (key y == key x)
tie-at key x y =
    ap (λ is. not is && not (is_lt (nat_cmp (key y) (key x)))) (lt-of-cmp (key x) (key y))
    ∙ (ap (λ is. not (nat_lt (key x) (key y)) && not is) (lt-of-cmp (key y) (key x))
    ∙ level (key x) (key y))

pub stable-at : {X : Type 0} (key : X → ℕ) (xs ys : List X) → IsStableByKey key nat_cmp xs ys → (x : X) → filter (λ y. key y == key x) ys ≡ filter (λ y. key y == key x) xs
stable-at key xs ys stable x =
    sym (filter_agree (ties (λ a b. is_lt (nat_cmp (key a) (key b))) x) (λ y. key y == key x) (tie-at key x) ys)
    ∙ (stable x
    ∙ filter_agree (ties (λ a b. is_lt (nat_cmp (key a) (key b))) x) (λ y. key y == key x) (tie-at key x) xs)

-- ---- by receipt

abbrev pub receipt_in : NumberedRow → ℕ
receipt_in entry = entry.row.receipt

rows-rise : (entries : List NumberedRow) → IsNonDecreasingBy receipt_in entries → IsNonDecreasingBy (λ (row : OrderRow). row.receipt) (rows_of entries)
rows-rise entries rises i j d le short =
    let within : j < length entries = subst (λ n. j < n) (length-map entries row_of) short in
    let other : NumberedRow = record { number = 0; row = d } in
    subst (λ (row : OrderRow). row.receipt ≤ (get_or (map row_of entries) j d).receipt) (sym (get_or-map row_of entries i other d (omega (arith, le, within))))
    (subst (λ (row : OrderRow). (get_or entries i other).row.receipt ≤ row.receipt) (sym (get_or-map row_of entries j other d within)) (rises i j other le within))

pub sorted-turn : (xs ys : List NumberedRow) → IsSortedByKey receipt_in nat_cmp ys → IsStableByKey receipt_in nat_cmp xs ys → rows_of ys ≡ all_in_turn (rows_of xs)
sorted-turn xs ys sorted stable =
    are-in-turn (rows_of xs) (rows_of ys) (rows-rise ys (IsNonDecreasingBy-from_sort receipt_in ys sorted))
    (λ z. filter-map (received_at z.receipt) row_of ys
    ∙ (ap (map row_of) (stable-at receipt_in xs ys stable (record { number = 0; row = z }))
    ∙ sym (filter-map (received_at z.receipt) row_of xs)))

-- ---- by number

some-row : OrderRow
some-row = record { place = 0; receipt = 0; struck = false; order = record { account = 0; ref_no = 0; body = Body.SellAll 0 } }

pub sorted-under : (xs ys : List NumberedRow) → IsStableByKey (λ (entry : NumberedRow). entry.number) nat_cmp xs ys → (number : ℕ) → filter (is_under number) ys ≡ filter (is_under number) xs
sorted-under xs ys stable number = stable-at (λ (entry : NumberedRow). entry.number) xs ys stable (record { number = number; row = some-row })

pub orders-rise : (entries : List NumberedRow) → IsNonDecreasingBy (λ (entry : NumberedRow). entry.number) entries → IsNonDecreasingBy (λ (order : NumberedOrder). order.number) (map order_of entries)
orders-rise entries rises i j d le short =
    let within : j < length entries = subst (λ n. j < n) (length-map entries order_of) short in
    let other : NumberedRow = record { number = 0; row = some-row } in
    subst (λ (order : NumberedOrder). order.number ≤ (get_or (map order_of entries) j d).number) (sym (get_or-map order_of entries i other d (omega (arith, le, within))))
    (subst (λ (order : NumberedOrder). (get_or entries i other).number ≤ order.number) (sym (get_or-map order_of entries j other d within)) (rises i j other le within))
