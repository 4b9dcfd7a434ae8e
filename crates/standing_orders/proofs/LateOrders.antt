-- The orders of a household behind a sheet: those at the places before which all are settled are enough.
use Rattle.std.proofs.Common.{All, Bool, List, None, Option, Some, [], ap, append_assoc, arith, cond, false, filter, length, option_map, option_to_list, refl, subst, sym, true, ℕ, ◌++◌, ◌+◌, ◌<◌, ◌==◌, ◌||◌, ◌∙◌, ◌∷◌, ◌≡◌}
use Rattle.std.proofs.lemmas.Bool.{eqb-true, leb-false, leb-true}
use Rattle.std.proofs.lemmas.List.{length-append}
use Rattle.std.proofs.lemmas.List.Elements.{All-cons, All-head, All-nil, All-tail, All-weaker}
use Rattle.std.proofs.lemmas.Option.{slice_get-map}
use Rattle.std.specs.List.{cons_option, filter_map, slice_get}
use Rattle.std.specs.Option.{option_map_or}
use Rattle.std.specs.Prelude.{nat_le, not, option_and_then}
use Rattle.agent_events.specs.Events.{Event}
use Rattle.agent_events.specs.declared.order.OrderRow.{OrderRow}
use Rattle.agent_events.specs.declared.request.AccountForm.{AccountForm}
use Rattle.forward_price.specs.declared.price_sheet.Sheet.{Sheet}
use Rattle.order_book.proofs.Places.{got-behind}
use Rattle.order_book.specs.Trials.{row_on_trial}
use Rattle.register_laws.proofs.Comparisons.{eq-no, eq-yes}
use Rattle.register_laws.specs.Households.{is_of_household}
use Rattle.register_machine.specs.journal.Choices.{when}
use Rattle.register_machine.specs.journal.Kinds.{household_of}
use Rattle.register_machine.specs.pricing.CorrectedOrders.{stands}
use Rattle.register_machine.specs.replay.Replay.{is_priced_on, priced_in}
use Rattle.standing_orders.specs.Entries.{numbered_at, numbered_on, row_of, rows_of}
use Rattle.standing_orders.specs.Places.{not_before, places_from, places_where}
use Rattle.standing_orders.specs.Rows.{AreOwners, is_owner, is_settled, sheet_number}
use Rattle.standing_orders.specs.declared.entries.NumberedRow.{NumberedRow}

-- ---- the places of a household are its own

own-from : (household : ℕ) (before owners : List ℕ) → All (λ place. slice_get (before ++ owners) place ≡ Some household) (places_from (length before) (is_owner household) owners)
own-from household before [] = All-nil (λ place. slice_get (before ++ []) place ≡ Some household)
own-from household before (owner ∷ owners) = by (owner == household) refl (rest (own-from household (before ++ owner ∷ []) owners))
  where
    one-more : length (before ++ owner ∷ []) ≡ length before + 1
    one-more = omega (arith, length-append before (owner ∷ []))

    rest : All (λ place. slice_get ((before ++ owner ∷ []) ++ owners) place ≡ Some household) (places_from (length (before ++ owner ∷ [])) (is_owner household) owners) → All (λ place. slice_get (before ++ owner ∷ owners) place ≡ Some household) (places_from (length before + 1) (is_owner household) owners)
    rest all =
        subst (λ n. All (λ place. slice_get (before ++ owner ∷ owners) place ≡ Some household) (places_from n (is_owner household) owners)) one-more
        (subst (λ whole. All (λ place. slice_get whole place ≡ Some household) (places_from (length (before ++ owner ∷ [])) (is_owner household) owners)) (append_assoc before (owner ∷ []) owners) all)

    by : (is : Bool) → (owner == household) ≡ is → All (λ place. slice_get (before ++ owner ∷ owners) place ≡ Some household) (places_from (length before + 1) (is_owner household) owners) → All (λ place. slice_get (before ++ owner ∷ owners) place ≡ Some household) (cond is (length before ∷ []) [] ++ places_from (length before + 1) (is_owner household) owners)
    by true same later =
        All-cons (λ place. slice_get (before ++ owner ∷ owners) place ≡ Some household) (length before) (places_from (length before + 1) (is_owner household) owners)
        (got-behind before owner owners ∙ ap Some (eqb-true owner household same)) later
    by false same later = later

-- ---- an order that is settled is on no later sheet

abbrev on_sheet : ℕ → List Sheet → OrderRow → Bool
on_sheet number sheets row = is_priced_on number (priced_in sheets row)

settled-elsewhere : (sheets : List Sheet) (number later : ℕ) (row : OrderRow) → number < later → is_settled sheets number row ≡ true → filter (on_sheet later sheets) (rows_of (option_to_list (numbered_on sheets row))) ≡ []
settled-elsewhere sheets number later row less settled = by (sheet_number sheets row) refl (stands row) settled
  where
    by : (found : Option ℕ) → sheet_number sheets row ≡ found → (on : Bool) → (not on || option_map_or (λ own. nat_le own number) found false) ≡ true → filter (on_sheet later sheets) (rows_of (option_to_list (option_and_then (λ (n : ℕ). let e : NumberedRow = record { number = n; row = row } in when on e) found))) ≡ []
    by None is true settled = refl
    by None is false settled = refl
    by (Some n) is false settled = refl
    by (Some n) is true settled =
        let early = leb-true n number settled in
        ap (λ b. cond b (row ∷ []) []) (ap (λ (found : Option ℕ). option_map_or (λ (m : ℕ). m == later) found false) is ∙ eq-no n later (λ same. omega (arith, early, less, same)))

module _ (sheets : List Sheet) (accounts : List AccountForm) (household : ℕ) (trial : Option Event) (rows : List OrderRow) (owners : List ℕ) (first number later : ℕ)
    (are : AreOwners accounts rows owners) (less : number < later)
    (settled : (place : ℕ) (row : OrderRow) → place < first → slice_get rows place ≡ Some row → is_of_household accounts household row.order.account ≡ true → is_settled sheets number (row_on_trial trial row) ≡ true) where
  -- at an early place of the household no order is on the later sheet
  abbrev IsElsewhere : ℕ → Type 0
  IsElsewhere place = nat_le first place ≡ false → filter (on_sheet later sheets) (rows_of (option_to_list (numbered_at sheets trial rows place))) ≡ []

  own-account : (place : ℕ) (row : OrderRow) → slice_get owners place ≡ Some household → slice_get rows place ≡ Some row → household_of accounts row.order.account ≡ Some household
  own-account place row own there =
      some-same
      (sym (ap (option_map (λ (r : OrderRow). household_of accounts r.order.account)) there)
      ∙ (sym (slice_get-map (λ (r : OrderRow). household_of accounts r.order.account) rows place)
      ∙ (ap (λ all. slice_get all place) are
      ∙ (slice_get-map Some owners place ∙ ap (option_map Some) own))))
    where
      some-same : Some (household_of accounts row.order.account) ≡ Some (Some household) → household_of accounts row.order.account ≡ Some household
      some-same h = cc

  elsewhere : (place : ℕ) → slice_get owners place ≡ Some household → IsElsewhere place
  elsewhere place own early = by (slice_get rows place) refl
    where
      by : (found : Option OrderRow) → slice_get rows place ≡ found → filter (on_sheet later sheets) (rows_of (option_to_list (option_and_then (λ row. numbered_on sheets (row_on_trial trial row)) found))) ≡ []
      by None e = refl
      by (Some row) e =
          settled-elsewhere sheets number later (row_on_trial trial row) less
          (settled place row (leb-false first place early) e
          (ap (λ (found : Option ℕ). option_map_or (λ (o : ℕ). o == household) found false) (own-account place row own e) ∙ eq-yes household household refl))

  late-rows : (places : List ℕ) → All IsElsewhere places → filter (on_sheet later sheets) (rows_of (filter_map (numbered_at sheets trial rows) (not_before first places))) ≡ filter (on_sheet later sheets) (rows_of (filter_map (numbered_at sheets trial rows) places))
  late-rows [] all = refl
  late-rows (place ∷ places) all = by (nat_le first place) refl (numbered_at sheets trial rows place) refl (late-rows places (All-tail IsElsewhere place places all))
    where
      f : ℕ → Option NumberedRow
      f = numbered_at sheets trial rows

      on : OrderRow → Bool
      on = on_sheet later sheets

      with-found : (found : Option NumberedRow) → filter on (rows_of (filter_map f (not_before first places))) ≡ filter on (rows_of (filter_map f places)) → filter on (rows_of (cons_option found (filter_map f (not_before first places)))) ≡ filter on (rows_of (cons_option found (filter_map f places)))
      with-found None same = same
      with-found (Some entry) same = ap (λ rest. cond (on (row_of entry)) (row_of entry ∷ rest) rest) same

      without : (found : Option NumberedRow) → filter on (rows_of (option_to_list found)) ≡ [] → filter on (rows_of (filter_map f places)) ≡ filter on (rows_of (cons_option found (filter_map f places)))
      without None dropped = refl
      without (Some entry) dropped = by_on (on (row_of entry)) dropped
        where
          by_on : (b : Bool) → cond b (row_of entry ∷ []) [] ≡ [] → filter on (rows_of (filter_map f places)) ≡ cond b (row_of entry ∷ filter on (rows_of (filter_map f places))) (filter on (rows_of (filter_map f places)))
          by_on true none = cc
          by_on false none = refl

      by : (late : Bool) → nat_le first place ≡ late → (found : Option NumberedRow) → f place ≡ found → filter on (rows_of (filter_map f (not_before first places))) ≡ filter on (rows_of (filter_map f places)) → filter on (rows_of (filter_map f (cond late (place ∷ not_before first places) (not_before first places)))) ≡ filter on (rows_of (cons_option (f place) (filter_map f places)))
      by true e found is same = with-found (f place) same
      by false e found is same = same ∙ without (f place) (All-head IsElsewhere place places all e)

  pub late-gathered : filter (on_sheet later sheets) (rows_of (filter_map (numbered_at sheets trial rows) (not_before first (places_where (is_owner household) owners)))) ≡ filter (on_sheet later sheets) (rows_of (filter_map (numbered_at sheets trial rows) (places_where (is_owner household) owners)))
  late-gathered =
      late-rows (places_where (is_owner household) owners)
      (All-weaker (λ place. slice_get owners place ≡ Some household) IsElsewhere elsewhere (places_where (is_owner household) owners) (own-from household [] owners))
