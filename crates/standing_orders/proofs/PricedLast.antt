-- What a sheet prices that is published behind the others has waited until then.
use Rattle.std.proofs.Common.{All, Bool, List, None, Option, Some, [], ap, arith, cond, false, filter, is_none, nat_le, not, option_map, refl, slice_get, subst, sym, true, ℕ, ◌&&◌, ◌++◌, ◌==◌, ◌∙◌, ◌∷◌, ◌≡◌, ◌≢◌, ◌≤◌, ◌||◌}
use Rattle.std.proofs.lemmas.Bool.{and_parts, eqb-true, false≢true}
use Rattle.std.proofs.lemmas.List.Elements.{All-contains}
use Rattle.std.proofs.lemmas.List.Sums.{fold-append}
use Rattle.std.specs.Option.{option_map_or}
use Rattle.agent_events.specs.declared.order.OrderRow.{OrderRow}
use Rattle.forward_price.proofs.ChoiceFacts.{best-choice}
use Rattle.forward_price.proofs.PricingFacts.{lt_fact}
use Rattle.forward_price.proofs.TurnFacts.{earlier-order}
use Rattle.forward_price.specs.Choices.{IsBest, IsChoice, best_so_far, found_or_better}
use Rattle.forward_price.specs.PriceTables.{is_earlier, next_sheet, prices_order}
use Rattle.forward_price.specs.declared.price_sheet.Sheet.{Sheet}
use Rattle.register_machine.specs.pricing.CorrectedOrders.{stands}
use Rattle.register_machine.specs.pricing.OrderClasses.{classes_in}
use Rattle.register_laws.proofs.Comparisons.{eq-yes}
use Rattle.register_machine.specs.replay.Replay.{is_priced_on, priced_in}
use Rattle.standing_orders.proofs.PricedOrders.{or-first, or-second}
use Rattle.standing_orders.specs.Entries.{is_priced}
use Rattle.standing_orders.specs.Places.{is_among, is_other_or_passes, passes_at}
use Rattle.standing_orders.specs.Rows.{could_price, is_settled, is_taken, is_within, sheet_number, stays, waits}
use Rattle.standing_orders.specs.WaitingLaws.{AllLeftWait, AllSettledWait, IsNumbered, LastLeaves, LastTakes, PricedAfterWaiting}

not-earlier : (a b : Sheet) → b.moment ≤ a.moment → is_earlier a b ≡ false
not-earlier a b le = by_test (is_earlier a b) refl
  where
    by_test : (is : Bool) → is_earlier a b ≡ is → is ≡ false
    by_test false e = refl
    by_test true e = let less = lt_fact a.moment b.moment e in absurd (omega arith)

stays-first : (passes : Sheet → Bool) (s last : Sheet) → s.moment ≤ last.moment → best_so_far passes is_earlier (Some s) last ≡ Some s
stays-first passes s last le = by_test (passes last)
  where
    by_test : (is : Bool) → cond is (found_or_better is_earlier (Some s) last) (Some s) ≡ Some s
    by_test false = refl
    by_test true = ap (λ earlier. cond earlier (Some last) (Some s)) (not-earlier last s le)

pub priced_after_waiting : (sheets : List Sheet) (last : Sheet) (row : OrderRow) → PricedAfterWaiting sheets last row
priced_after_waiting sheets last row comes priced = by_before (next_sheet sheets (classes_in row.order.body) row.receipt) refl
  where
    passes : Sheet → Bool
    passes = prices_order (classes_in row.order.body) row.receipt

    before : Option Sheet
    before = next_sheet sheets (classes_in row.order.body) row.receipt

    goes-on : next_sheet (sheets ++ last ∷ []) (classes_in row.order.body) row.receipt ≡ best_so_far passes is_earlier before last
    goes-on = fold-append (best_so_far passes is_earlier) None sheets (last ∷ [])

    parts : (stands row ≡ true) × (option_map_or (λ (n : ℕ). n == last.number) (sheet_number (sheets ++ last ∷ []) row) false ≡ true)
    parts = and_parts (stands row) (option_map_or (λ (n : ℕ). n == last.number) (sheet_number (sheets ++ last ∷ []) row) false) priced

    on : option_map_or (λ (n : ℕ). n == last.number) (option_map (λ (sheet : Sheet). sheet.number) (best_so_far passes is_earlier before last)) false ≡ true
    on = sym (ap (λ (found : Option Sheet). option_map_or (λ (n : ℕ). n == last.number) (option_map (λ (sheet : Sheet). sheet.number) found) false) goes-on) ∙ parts.1

    never : (s : Sheet) → before ≡ Some s → ⊥
    never s e =
        let chosen : IsBest passes is_earlier sheets s = subst (IsChoice passes is_earlier sheets) e (best-choice passes is_earlier earlier-order sheets) in
        let facts = All-contains (λ (sheet : Sheet). passes sheet ≡ true → (sheet.number ≢ last.number) × (sheet.moment ≤ last.moment)) sheets s comes chosen.among chosen.here in
        let same : option_map_or (λ (n : ℕ). n == last.number) (option_map (λ (sheet : Sheet). sheet.number) (Some s)) false ≡ true =
        sym (ap (λ (found : Option Sheet). option_map_or (λ (n : ℕ). n == last.number) (option_map (λ (sheet : Sheet). sheet.number) found) false)
        (ap (λ (found : Option Sheet). best_so_far passes is_earlier found last) e ∙ stays-first passes s last facts.1)) ∙ on in
        facts.0 (eqb-true s.number last.number same)

    by_before : (found : Option Sheet) → before ≡ found → waits sheets row ≡ true
    by_before None e =
        ap (λ is. is && is_none (sheet_number sheets row)) parts.0
        ∙ ap (λ (found : Option Sheet). is_none (option_map (λ (sheet : Sheet). sheet.number) found)) e
    by_before (Some s) e = absurd (never s e)

-- ---- what is settled stays settled

-- a sheet that isn't earlier than any before it leaves each order its sheet
number-stays : (sheets : List Sheet) (last : Sheet) (row : OrderRow) (n : ℕ) → All (λ (s : Sheet). s.moment ≤ last.moment) sheets → sheet_number sheets row ≡ Some n → sheet_number (sheets ++ last ∷ []) row ≡ Some n
number-stays sheets last row n earlier has =
    ap (option_map (λ (sheet : Sheet). sheet.number)) (fold-append (best_so_far passes is_earlier) None sheets (last ∷ []))
    ∙ by (next_sheet sheets (classes_in row.order.body) row.receipt) refl has
  where
    passes : Sheet → Bool
    passes = prices_order (classes_in row.order.body) row.receipt

    by : (found : Option Sheet) → next_sheet sheets (classes_in row.order.body) row.receipt ≡ found → option_map (λ (sheet : Sheet). sheet.number) found ≡ Some n → option_map (λ (sheet : Sheet). sheet.number) (best_so_far passes is_earlier (next_sheet sheets (classes_in row.order.body) row.receipt) last) ≡ Some n
    by None e is = cc
    by (Some s) e is =
        let chosen : IsBest passes is_earlier sheets s = subst (IsChoice passes is_earlier sheets) e (best-choice passes is_earlier earlier-order sheets) in
        ap (option_map (λ (sheet : Sheet). sheet.number))
        (ap (λ (found : Option Sheet). best_so_far passes is_earlier found last) e
        ∙ stays-first passes s last (All-contains (λ (sheet : Sheet). sheet.moment ≤ last.moment) sheets s earlier chosen.among))
        ∙ is

pub settled_more : (sheets : List Sheet) (last : Sheet) (number : ℕ) (row : OrderRow) → All (λ (s : Sheet). s.moment ≤ last.moment) sheets → is_settled sheets number row ≡ true → is_settled (sheets ++ last ∷ []) number row ≡ true
settled_more sheets last number row earlier settled = by (stands row) (sheet_number sheets row) refl settled
  where
    by : (on : Bool) (found : Option ℕ) → sheet_number sheets row ≡ found → (not on || option_map_or (λ own. nat_le own number) found false) ≡ true → (not on || option_map_or (λ own. nat_le own number) (sheet_number (sheets ++ last ∷ []) row) false) ≡ true
    by false found e settled = refl
    by true None e settled = absurd (false≢true settled)
    by true (Some n) e settled = ap (λ (found : Option ℕ). option_map_or (λ own. nat_le own number) found false) (number-stays sheets last row n earlier e) ∙ settled

-- ---- what the last sheet takes of those that wait for it

none-found : (sheets : List Sheet) (row : OrderRow) → waits sheets row ≡ true → next_sheet sheets (classes_in row.order.body) row.receipt ≡ None
none-found sheets row waiting = by_found (next_sheet sheets (classes_in row.order.body) row.receipt) (and_parts (stands row) (is_none (sheet_number sheets row)) waiting).1
  where
    by_found : (found : Option Sheet) → is_none (option_map (λ (sheet : Sheet). sheet.number) found) ≡ true → found ≡ None
    by_found None h = refl
    by_found (Some s) h = absurd (false≢true h)

alone-next : (sheets : List Sheet) (last : Sheet) (row : OrderRow) → waits sheets row ≡ true → next_sheet (sheets ++ last ∷ []) (classes_in row.order.body) row.receipt ≡ cond (could_price last row) (Some last) None
alone-next sheets last row waiting =
    let passes = prices_order (classes_in row.order.body) row.receipt in
    fold-append (best_so_far passes is_earlier) None sheets (last ∷ [])
    ∙ ap (λ (found : Option Sheet). best_so_far passes is_earlier found last) (none-found sheets row waiting)

within-last : (sheets : List Sheet) (last : Sheet) (row : OrderRow) → IsNumbered sheets last → is_within last.number (sheets ++ last ∷ []) row ≡ could_price last row
within-last sheets last row numbered = ap (λ (found : Option Sheet). option_map_or (λ (sheet : Sheet). could_price sheet row) found false) numbered

taken-priced : (sheets : List Sheet) (last : Sheet) (row : OrderRow) → IsNumbered sheets last → waits sheets row ≡ true → is_within last.number (sheets ++ last ∷ []) row ≡ is_priced_on last.number (priced_in (sheets ++ last ∷ []) row)
taken-priced sheets last row numbered waiting =
    within-last sheets last row numbered
    ∙ sym (ap (λ (found : Option Sheet). option_map_or (λ (n : ℕ). n == last.number) (option_map (λ (sheet : Sheet). sheet.number) found) false) (alone-next sheets last row waiting)
    ∙ by_test (could_price last row))
  where
    by_test : (is : Bool) → option_map_or (λ (n : ℕ). n == last.number) (option_map (λ (sheet : Sheet). sheet.number) (cond is (Some last) None)) false ≡ is
    by_test true = eq-yes last.number last.number refl
    by_test false = refl

pub last_takes : (rows : List OrderRow) (sheets : List Sheet) (last : Sheet) (places : List ℕ) → LastTakes rows sheets last places
last_takes rows sheets last places numbered wait place row there among = by_stands (stands row) refl
  where
    by_stands : (b : Bool) → stands row ≡ b → is_taken last.number (sheets ++ last ∷ []) row ≡ is_priced last.number (sheets ++ last ∷ []) row
    by_stands true e = ap (λ is. stands row && is) (taken-priced sheets last row numbered (wait place row there among e))
    by_stands false e =
        ap (λ is. is && is_within last.number (sheets ++ last ∷ []) row) e
        ∙ sym (ap (λ is. is && is_priced_on last.number (priced_in (sheets ++ last ∷ []) row)) e)

-- ---- what it leaves

filter-among : (p q : ℕ → Bool) (xs : List ℕ) → ((k : ℕ) → is_among xs k ≡ true → p k ≡ q k) → filter p xs ≡ filter q xs
filter-among p q [] agree = refl
filter-among p q (x ∷ xs) agree =
    ap (λ is. cond is (x ∷ filter p xs) (filter p xs)) (agree x (or-first (x == x) (is_among xs x) (eq-yes x x refl)))
    ∙ ap (λ rest. cond (q x) (x ∷ rest) rest) (filter-among p q xs (λ k among. agree k (or-second (k == x) (is_among xs k) among)))

pub last_leaves : (rows : List OrderRow) (sheets : List Sheet) (last : Sheet) (places : List ℕ) → LastLeaves rows sheets last places
last_leaves rows sheets last places numbered wait =
    filter-among (passes_at (stays last.number (sheets ++ last ∷ [])) rows) (passes_at (waits (sheets ++ last ∷ [])) rows) places
    (λ k among. by_row k among (slice_get rows k) refl)
  where
    by_test : (is : Bool) → is_none (option_map (λ (sheet : Sheet). sheet.number) (cond is (Some last) None)) ≡ not is
    by_test true = refl
    by_test false = refl

    by_stands : (row : OrderRow) (b : Bool) → stands row ≡ b → (stands row ≡ true → waits sheets row ≡ true) → stays last.number (sheets ++ last ∷ []) row ≡ waits (sheets ++ last ∷ []) row
    by_stands row true e waiting =
        ap (λ is. stands row && not is) (within-last sheets last row numbered)
        ∙ ap (λ is. stands row && is) (sym (ap (λ (found : Option Sheet). is_none (option_map (λ (sheet : Sheet). sheet.number) found)) (alone-next sheets last row (waiting e)) ∙ by_test (could_price last row)))
    by_stands row false e waiting =
        ap (λ is. is && not (is_within last.number (sheets ++ last ∷ []) row)) e
        ∙ sym (ap (λ is. is && is_none (sheet_number (sheets ++ last ∷ []) row)) e)

    by_row : (k : ℕ) → is_among places k ≡ true → (at : Option OrderRow) → slice_get rows k ≡ at → option_map_or (stays last.number (sheets ++ last ∷ [])) at false ≡ option_map_or (waits (sheets ++ last ∷ [])) at false
    by_row k among None e = refl
    by_row k among (Some row) e = by_stands row (stands row) refl (wait k row e among)

filtered-passes : (test : ℕ → Bool) (k : ℕ) (xs : List ℕ) → is_among (filter test xs) k ≡ true → test k ≡ true
filtered-passes test k [] is = absurd (false≢true is)
filtered-passes test k (x ∷ xs) is = by_test (test x) refl is (filtered-passes test k xs)
  where
    by_same : (same : Bool) → (k == x) ≡ same → test x ≡ true → (same || is_among (filter test xs) k) ≡ true → (is_among (filter test xs) k ≡ true → test k ≡ true) → test k ≡ true
    by_same true f e h later = ap test (eqb-true k x f) ∙ e
    by_same false f e h later = later h

    by_test : (b : Bool) → test x ≡ b → is_among (cond b (x ∷ filter test xs) (filter test xs)) k ≡ true → (is_among (filter test xs) k ≡ true → test k ≡ true) → test k ≡ true
    by_test true e h later = by_same (k == x) refl e h later
    by_test false e h later = later h

pub all_left_wait : (sheets : List Sheet) (rows : List OrderRow) (places : List ℕ) → AllLeftWait sheets rows places
all_left_wait sheets rows places place row there among standing =
    sym (ap (λ (found : Option OrderRow). option_map_or (waits sheets) found false) there)
    ∙ filtered-passes (passes_at (waits sheets) rows) place places among

-- ---- what stays once one is settled

among-unfiltered : (test : ℕ → Bool) (k : ℕ) (xs : List ℕ) → is_among (filter test xs) k ≡ true → is_among xs k ≡ true
among-unfiltered test k [] is = is
among-unfiltered test k (x ∷ xs) is = by_test (test x) is (among-unfiltered test k xs)
  where
    by_same : (same : Bool) → (same || is_among (filter test xs) k) ≡ true → (is_among (filter test xs) k ≡ true → is_among xs k ≡ true) → (same || is_among xs k) ≡ true
    by_same true h later = refl
    by_same false h later = later h

    by_test : (b : Bool) → is_among (cond b (x ∷ filter test xs) (filter test xs)) k ≡ true → (is_among (filter test xs) k ≡ true → is_among xs k ≡ true) → is_among (x ∷ xs) k ≡ true
    by_test true h later = by_same (k == x) h later
    by_test false h later = or-second (k == x) (is_among xs k) (later h)

pub all_settled_wait : (sheets : List Sheet) (rows : List OrderRow) (place : ℕ) (places : List ℕ) → AllSettledWait sheets rows place places
all_settled_wait sheets rows place places others k row there among standing = by_place (k == place) refl
  where
    by_place : (b : Bool) → (k == place) ≡ b → waits sheets row ≡ true
    by_place true e =
        sym (ap (λ (found : Option OrderRow). option_map_or (waits sheets) found false) there)
        ∙ (sym (ap (λ is. not is || passes_at (waits sheets) rows k) e)
        ∙ filtered-passes (is_other_or_passes (waits sheets) rows place) k places among)
    by_place false e =
        others k row (λ same. false≢true (sym e ∙ eq-yes k place same)) there
        (among-unfiltered (is_other_or_passes (waits sheets) rows place) k places among) standing
