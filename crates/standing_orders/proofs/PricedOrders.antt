-- The orders of a sheet by household: what is gathered, sorted and written is what the corrected book has.
use Rattle.std.proofs.Common.{All, Bool, List, None, Option, Some, [], ap, cond, false, filter, map, option_map, refl, subst, suc, sym, true, zero, ℕ, ◌&&◌, ◌==◌, ◌∙◌, ◌∷◌, ◌≡◌, ◌||◌}
use Rattle.std.proofs.lemmas.List.Elements.{All-cons, All-nil}
use Rattle.std.proofs.lemmas.List.Sorted.{All-permutation}
use Rattle.std.specs.List.{cons_option, filter_map, slice_get}
use Rattle.std.specs.List.Sorted.{IsPermutation}
use Rattle.std.specs.Option.{option_map_or}
use Rattle.std.specs.Prelude.{option_and_then}
use Rattle.agent_events.specs.declared.order.OrderRow.{OrderRow}
use Rattle.agent_events.specs.declared.request.AccountForm.{AccountForm}
use Rattle.forward_price.specs.declared.price_sheet.Sheet.{Sheet}
use Rattle.register_laws.proofs.Comparisons.{eq-yes}
use Rattle.register_laws.proofs.ListParts.{filter-known, filter-map}
use Rattle.register_laws.proofs.OrdersStanding.{orders-standing}
use Rattle.register_laws.specs.Households.{is_of_household, is_own_row}
use Rattle.register_machine.specs.journal.Choices.{when}
use Rattle.register_machine.specs.journal.Kinds.{household_of}
use Rattle.register_machine.specs.pricing.CorrectedBook.{Book}
use Rattle.register_machine.specs.pricing.CorrectedOrders.{stands}
use Rattle.register_machine.specs.replay.Replay.{all_in_turn, is_priced_on, orders_on, priced_in, priced_orders}
use Rattle.standing_orders.proofs.PickedRows.{chosen_at, picked-all}
use Rattle.standing_orders.specs.Entries.{is_priced, is_under, order_of, owned_at, row_of, rows_of}
use Rattle.checkpoint_replay.specs.Replays.{NumberedOrder, orders_under}
use Rattle.standing_orders.specs.Places.{RisesWithin, is_among}
use Rattle.standing_orders.specs.Priced.{ArePricedOn}
use Rattle.standing_orders.specs.Rows.{AreOwners, is_taken}
use Rattle.standing_orders.specs.declared.entries.NumberedRow.{NumberedRow}

-- ---- lists

pub map-twice : {X Y Z : Type 0} (f : X → Y) (g : Y → Z) (xs : List X) → map g (map f xs) ≡ map (λ x. g (f x)) xs
map-twice f g [] = refl
map-twice f g (x ∷ xs) = ap (λ rest. g (f x) ∷ rest) (map-twice f g xs)

pub filter-both : {X : Type 0} (p q : X → Bool) (xs : List X) → filter q (filter p xs) ≡ filter (λ x. p x && q x) xs
filter-both p q [] = refl
filter-both {X} p q (x ∷ xs) = by (p x) (filter-both p q xs)
  where
    by : (a : Bool) → filter q (filter p xs) ≡ filter (λ y. p y && q y) xs → filter q (cond a (x ∷ filter p xs) (filter p xs)) ≡ cond (a && q x) (x ∷ filter (λ y. p y && q y) xs) (filter (λ y. p y && q y) xs)
    by true rest = ap (λ later. cond (q x) (x ∷ later) later) rest
    by false rest = rest

pub mapped-found : {X Y Z : Type 0} (f : Y → Z) (g : X → Option Y) (h : X → Option Z) → ((x : X) → option_map f (g x) ≡ h x) → (xs : List X) → map f (filter_map g xs) ≡ filter_map h xs
mapped-found f g h alike [] = refl
mapped-found {X} {Y} {Z} f g h alike (x ∷ xs) = by_found (g x) ∙ (ap (λ found. cons_option found (map f (filter_map g xs))) (alike x) ∙ ap (cons_option (h x)) (mapped-found f g h alike xs))
  where
    by_found : (found : Option Y) → map f (cons_option found (filter_map g xs)) ≡ cons_option (option_map f found) (map f (filter_map g xs))
    by_found None = refl
    by_found (Some y) = refl

pub found-all : {X Y : Type 0} (P : Y → Type 0) (g : X → Option Y) → ((x : X) (y : Y) → g x ≡ Some y → P y) → (xs : List X) → All P (filter_map g xs)
found-all P g each [] = All-nil P
found-all {X} {Y} P g each (x ∷ xs) = by_found (g x) refl (found-all P g each xs)
  where
    by_found : (found : Option Y) → g x ≡ found → All P (filter_map g xs) → All P (cons_option found (filter_map g xs))
    by_found None e rest = rest
    by_found (Some y) e rest = All-cons P y (filter_map g xs) (each x y e) rest

pub or-first : (a b : Bool) → a ≡ true → (a || b) ≡ true
or-first a b e = ap (λ is. is || b) e

pub or-second : (a b : Bool) → b ≡ true → (a || b) ≡ true
or-second true b e = refl
or-second false b e = e

-- ---- owners

pub record IsOwned (accounts : List AccountForm) (row : OrderRow) (owners : List ℕ) (place : ℕ) : Type 0 where
  pub owner : ℕ
  pub there : slice_get owners place ≡ Some owner
  pub own : household_of accounts row.order.account ≡ Some owner

owner-at : (accounts : List AccountForm) (rows : List OrderRow) (owners : List ℕ) → AreOwners accounts rows owners → (place : ℕ) (row : OrderRow) → slice_get rows place ≡ Some row → IsOwned accounts row owners place
owner-at accounts [] owners are place row is = absurd (no-row is)
  where
    no-row : None ≡ Some row → ⊥
    no-row h = cc
owner-at accounts (first ∷ rows) [] are place row is = absurd (too-few are)
  where
    too-few : household_of accounts first.order.account ∷ map (λ (r : OrderRow). household_of accounts r.order.account) rows ≡ [] → ⊥
    too-few h = cc
owner-at accounts (first ∷ rows) (owner ∷ owners) are zero row is =
    record { owner = owner; there = refl; own = subst (λ (r : OrderRow). household_of accounts r.order.account ≡ Some owner) (some-same is) (heads are) }
  where
    some-same : Some first ≡ Some row → first ≡ row
    some-same h = cc

    heads : household_of accounts first.order.account ∷ map (λ (r : OrderRow). household_of accounts r.order.account) rows ≡ Some owner ∷ map Some owners → household_of accounts first.order.account ≡ Some owner
    heads h = cc
owner-at accounts (first ∷ rows) (owner ∷ owners) are (suc place) row is =
    let later = owner-at accounts rows owners (tails are) place row is in
    record { owner = later.owner; there = later.there; own = later.own }
  where
    tails : household_of accounts first.order.account ∷ map (λ (r : OrderRow). household_of accounts r.order.account) rows ≡ Some owner ∷ map Some owners → map (λ (r : OrderRow). household_of accounts r.order.account) rows ≡ map Some owners
    tails h = cc

-- ---- what is gathered

abbrev HasOwner : List AccountForm → NumberedRow → Type 0
HasOwner accounts entry = household_of accounts entry.row.order.account ≡ Some entry.number

module _ (accounts : List AccountForm) (test : OrderRow → Bool) (rows : List OrderRow) (owners : List ℕ) (are : AreOwners accounts rows owners) where
  row-found : (place : ℕ) → option_map row_of (owned_at test rows owners place) ≡ chosen_at test rows place
  row-found place = by_row (slice_get rows place) refl
    where
      found : (row : OrderRow) → Option ℕ → Option NumberedRow
      found row owner = option_and_then (λ (o : ℕ). when (test row) (record { number = o; row = row })) owner

      by_test : (row : OrderRow) (owner : ℕ) (is : Bool) → option_map row_of (let e : NumberedRow = record { number = owner; row = row } in when is e) ≡ when is row
      by_test row owner true = refl
      by_test row owner false = refl

      by_row : (at : Option OrderRow) → slice_get rows place ≡ at → option_map row_of (option_and_then (λ (row : OrderRow). option_and_then (λ (o : ℕ). let e : NumberedRow = record { number = o; row = row } in when (test row) e) (slice_get owners place)) at) ≡ option_and_then (λ (row : OrderRow). when (test row) row) at
      by_row None e = refl
      by_row (Some row) e =
          let owned = owner-at accounts rows owners are place row e in
          ap (λ (owner : Option ℕ). option_map row_of (option_and_then (λ (o : ℕ). let e : NumberedRow = record { number = o; row = row } in when (test row) e) owner)) owned.there
          ∙ by_test row owned.owner (test row)

  entry-owned : (place : ℕ) (entry : NumberedRow) → owned_at test rows owners place ≡ Some entry → HasOwner accounts entry
  entry-owned place entry = by_row (slice_get rows place) refl
    where
      nothing : None ≡ Some entry → ⊥
      nothing h = cc

      some-same : (other : NumberedRow) → Some other ≡ Some entry → other ≡ entry
      some-same other h = cc

      by_test : (row : OrderRow) (owner : ℕ) → household_of accounts row.order.account ≡ Some owner → (is : Bool) → (let e : NumberedRow = record { number = owner; row = row } in when is e) ≡ Some entry → HasOwner accounts entry
      by_test row owner own true h = subst (HasOwner accounts) (some-same (record { number = owner; row = row }) h) own
      by_test row owner own false h = absurd (nothing h)

      by_row : (at : Option OrderRow) → slice_get rows place ≡ at → option_and_then (λ (row : OrderRow). option_and_then (λ (o : ℕ). let e : NumberedRow = record { number = o; row = row } in when (test row) e) (slice_get owners place)) at ≡ Some entry → HasOwner accounts entry
      by_row None e h = absurd (nothing h)
      by_row (Some row) e h =
          let owned = owner-at accounts rows owners are place row e in
          by_test row owned.owner owned.own (test row)
          (sym (ap (λ (owner : Option ℕ). option_and_then (λ (o : ℕ). let e : NumberedRow = record { number = o; row = row } in when (test row) e) owner) owned.there) ∙ h)

-- ---- the orders that a sheet of the corrected book prices

pub orders-listed : (book : Book) (sheet : Sheet) → orders_on (priced_orders book) sheet ≡ all_in_turn (filter (is_priced sheet.number book.table.sheets) book.orders)
orders-listed book sheet =
    orders-standing book sheet
    ∙ ap all_in_turn (filter-both stands (λ (row : OrderRow). is_priced_on sheet.number (priced_in book.table.sheets row)) book.orders)

-- what stands under a number
pub under-number : (number : ℕ) (entries : List NumberedRow) → orders_under number (map order_of entries) ≡ map (λ (row : OrderRow). row.order) (rows_of (filter (is_under number) entries))
under-number number entries =
    ap (map (λ (o : NumberedOrder). o.order)) (filter-map (λ (o : NumberedOrder). o.number == number) order_of entries)
    ∙ (map-twice order_of (λ (o : NumberedOrder). o.order) (filter (is_under number) entries)
    ∙ sym (map-twice row_of (λ (row : OrderRow). row.order) (filter (is_under number) entries)))

-- those of a household are the own ones
own-under : (accounts : List AccountForm) (household : ℕ) (entries : List NumberedRow) → All (HasOwner accounts) entries → rows_of (filter (is_under household) entries) ≡ filter (is_own_row (is_of_household accounts household)) (rows_of entries)
own-under accounts household entries owned =
    let own = is_own_row (is_of_household accounts household) in
    ap (map row_of) (filter-known (is_under household) (λ entry. own (row_of entry)) entries
    (λ k d short. sym (ap (λ (owner : Option ℕ). option_map_or (λ (o : ℕ). o == household) owner false) (owned k d short))))
    ∙ sym (filter-map own row_of entries)

-- two tests that agree on the rows at the places
found-alike : (p q : OrderRow → Bool) (rows : List OrderRow) (places : List ℕ) → ((place : ℕ) (row : OrderRow) → slice_get rows place ≡ Some row → is_among places place ≡ true → p row ≡ q row) → filter_map (chosen_at p rows) places ≡ filter_map (chosen_at q rows) places
found-alike p q rows [] agree = refl
found-alike p q rows (place ∷ places) agree =
    ap (λ found. cons_option found (filter_map (chosen_at p rows) places)) (by_row (slice_get rows place) refl)
    ∙ ap (cons_option (chosen_at q rows place)) (found-alike p q rows places (λ k row there among. agree k row there (or-second (k == place) (is_among places k) among)))
  where
    by_row : (at : Option OrderRow) → slice_get rows place ≡ at → option_and_then (λ (row : OrderRow). when (p row) row) at ≡ option_and_then (λ (row : OrderRow). when (q row) row) at
    by_row None e = refl
    by_row (Some row) e = ap (λ is. when is row) (agree place row e (or-first (place == place) (is_among places place) (eq-yes place place refl)))

pub priced-on : (number : ℕ) (rows : List OrderRow) (sheets : List Sheet) (owners waiting : List ℕ) (to : ℕ) (gathered turned grouped : List NumberedRow) (orders : List NumberedOrder)
    → RisesWithin 0 to waiting → gathered ≡ filter_map (owned_at (is_taken number sheets) rows owners) waiting
    → rows_of turned ≡ all_in_turn (rows_of gathered) → IsPermutation gathered turned
    → ((n : ℕ) → filter (is_under n) grouped ≡ filter (is_under n) turned)
    → orders ≡ map order_of grouped
    → ArePricedOn number rows sheets owners waiting orders
priced-on number rows sheets owners waiting to gathered turned grouped orders rises gathered_is turned_is moved grouped_is orders_are book sheet number_is of_book each takes household =
    ap (orders_under household) orders_are
    ∙ (under-number household grouped
    ∙ ap (map (λ (row : OrderRow). row.order))
    (ap rows_of (grouped_is household)
    ∙ (own-under book.accounts household turned owned
    ∙ ap (filter (is_own_row (is_of_household book.accounts household)))
    (turned_is
    ∙ (ap all_in_turn found
    ∙ sym (orders-listed book sheet ∙ ap all_in_turn (same_priced)))))))
  where
    owned : All (HasOwner book.accounts) turned
    owned = All-permutation (HasOwner book.accounts) gathered turned moved
        (subst (All (HasOwner book.accounts)) (sym gathered_is)
        (found-all (HasOwner book.accounts) (owned_at (is_taken number sheets) rows owners) (entry-owned book.accounts (is_taken number sheets) rows owners of_book.households) waiting))

    found : rows_of gathered ≡ filter (is_priced number sheets) rows
    found =
        ap rows_of gathered_is
        ∙ (mapped-found row_of (owned_at (is_taken number sheets) rows owners) (chosen_at (is_taken number sheets) rows) (row-found book.accounts (is_taken number sheets) rows owners of_book.households) waiting
        ∙ (found-alike (is_taken number sheets) (is_priced number sheets) rows waiting takes
        ∙ picked-all (is_priced number sheets) rows to waiting rises each))

    same_priced : filter (is_priced sheet.number book.table.sheets) book.orders ≡ filter (is_priced number sheets) rows
    same_priced =
        ap (λ n. filter (is_priced n book.table.sheets) book.orders) number_is
        ∙ (ap (λ all. filter (is_priced number all) book.orders) of_book.sheets
        ∙ ap (filter (is_priced number sheets)) of_book.orders)
