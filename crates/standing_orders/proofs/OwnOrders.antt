-- The orders of a household by their sheets: what is gathered, sorted and written is what the corrected book has.
use Rattle.std.proofs.Common.{All, Bool, List, None, Option, Some, [], ap, append_assoc, cond, false, filter, is_some, length, length-append, map, option_map, option_to_list, refl, subst, sym, true, arith, ℕ, ◌&&◌, ◌++◌, ◌+◌, ◌==◌, ◌∙◌, ◌∷◌, ◌≡◌}
use Rattle.std.proofs.lemmas.Bool.{and_parts, eqb-true, true≢false}
use Rattle.std.proofs.lemmas.List.{map-append}
use Rattle.std.proofs.lemmas.List.Elements.{All-append, All-cons, All-nil, filter-append, filter_agree}
use Rattle.std.proofs.lemmas.List.Sorted.{All-permutation}
use Rattle.std.specs.List.{cons_option, filter_map, slice_get}
use Rattle.std.specs.List.Sorted.{IsPermutation}
use Rattle.std.specs.Option.{option_map_or}
use Rattle.std.specs.Prelude.{option_and_then}
use Rattle.agent_events.specs.Events.{Event}
use Rattle.agent_events.specs.declared.event.EventKind.{EventKind}
use Rattle.agent_events.specs.declared.order.OrderRow.{OrderRow}
use Rattle.agent_events.specs.declared.request.AccountForm.{AccountForm}
use Rattle.agent_events.specs.declared.request.EntryForm.{EntryForm}
use Rattle.forward_price.specs.declared.price_sheet.Sheet.{Sheet}
use Rattle.order_book.proofs.Places.{got-behind}
use Rattle.order_book.proofs.TrialRows.{standing-by-row}
use Rattle.order_book.specs.Trials.{TrialFits, row_after, row_begun, row_on_trial}
use Rattle.register_laws.proofs.ListParts.{filter-known, filter-map, filter-swap, filter-within}
use Rattle.register_laws.proofs.OrdersStanding.{orders-standing}
use Rattle.register_laws.proofs.TurnsFiltered.{turns-filter}
use Rattle.register_laws.specs.Households.{is_of_household, is_own_row}
use Rattle.register_laws.specs.OneEventMore.{replaced_by, struck_by}
use Rattle.register_machine.specs.journal.Choices.{when}
use Rattle.register_machine.specs.journal.Journals.{Journal}
use Rattle.register_machine.specs.journal.Kinds.{accounts_of, household_of}
use Rattle.register_machine.specs.pricing.CorrectedOrders.{is_named, orders_of, replaces, stands}
use Rattle.register_machine.specs.replay.Replay.{all_in_turn, is_priced_on, orders_on, priced_in, priced_orders}
use Rattle.standing_orders.proofs.InTurn.{head-same, no-cons, tail-same}
use Rattle.standing_orders.proofs.PricedOrders.{filter-both, found-all, mapped-found, under-number}
use Rattle.standing_orders.specs.Entries.{is_under, numbered_at, numbered_begun, numbered_on, order_of, row_of, rows_of}
use Rattle.checkpoint_replay.specs.Replays.{NumberedOrder}
use Rattle.standing_orders.proofs.LateOrders.{late-gathered}
use Rattle.standing_orders.specs.Places.{not_before, places_from, places_where}
use Rattle.standing_orders.specs.Priced.{AreOwnOnTrial, own_on}
use Rattle.standing_orders.specs.Rows.{AreOwners, is_owner, sheet_number}
use Rattle.standing_orders.specs.declared.entries.NumberedRow.{NumberedRow}

-- ---- the rows at the places of a household are its own

pub own-by-owner : (accounts : List AccountForm) (household : ℕ) (row : OrderRow) (owner : ℕ) → household_of accounts row.order.account ≡ Some owner → is_own_row (is_of_household accounts household) row ≡ is_owner household owner
own-by-owner accounts household row owner is = ap (λ (found : Option ℕ). option_map_or (λ (o : ℕ). o == household) found false) is

found-own : {Y : Type 0} (accounts : List AccountForm) (household : ℕ) (f : OrderRow → Option Y) (before rows : List OrderRow) (owners : List ℕ) → AreOwners accounts rows owners
    → filter_map (λ place. option_and_then f (slice_get (before ++ rows) place)) (places_from (length before) (is_owner household) owners) ≡ filter_map f (filter (is_own_row (is_of_household accounts household)) rows)
found-own accounts household f before [] [] are = refl
found-own accounts household f before [] (owner ∷ owners) are = absurd (no-cons (sym are))
found-own accounts household f before (row ∷ rows) [] are = absurd (no-cons are)
found-own {Y} accounts household f before (row ∷ rows) (owner ∷ owners) are =
    by_owner (is_owner household owner) (rest (found-own accounts household f (before ++ row ∷ []) rows owners (tail-same are)))
    ∙ ap (λ is. filter_map f (cond is (row ∷ filter own rows) (filter own rows))) (sym (own-by-owner accounts household row owner (head-same are)))
  where
    own : OrderRow → Bool
    own = is_own_row (is_of_household accounts household)

    at : ℕ → Option Y
    at place = option_and_then f (slice_get (before ++ row ∷ rows) place)

    one-more : length (before ++ row ∷ []) ≡ length before + 1
    one-more = omega (arith, length-append before (row ∷ []))

    rest : filter_map (λ place. option_and_then f (slice_get ((before ++ row ∷ []) ++ rows) place)) (places_from (length (before ++ row ∷ [])) (is_owner household) owners) ≡ filter_map f (filter own rows) → filter_map at (places_from (length before + 1) (is_owner household) owners) ≡ filter_map f (filter own rows)
    rest again =
        ap (λ n. filter_map at (places_from n (is_owner household) owners)) (sym one-more)
        ∙ (ap (λ all. filter_map (λ place. option_and_then f (slice_get all place)) (places_from (length (before ++ row ∷ [])) (is_owner household) owners)) (sym (append_assoc before (row ∷ []) rows))
        ∙ again)

    by_owner : (is : Bool) → filter_map at (places_from (length before + 1) (is_owner household) owners) ≡ filter_map f (filter own rows) → filter_map at (cond is (length before ∷ []) [] ++ places_from (length before + 1) (is_owner household) owners) ≡ filter_map f (cond is (row ∷ filter own rows) (filter own rows))
    by_owner true later =
        ap (λ found. cons_option (option_and_then f found) (filter_map at (places_from (length before + 1) (is_owner household) owners))) (got-behind before row rows)
        ∙ ap (cons_option (f row)) later
    by_owner false later = later

-- ---- an event on trial leaves each order its account

account-struck : (named : ℕ × ℕ) (row : OrderRow) → (struck_by named row).order.account ≡ row.order.account
account-struck named row = elim (is_named named.0 named.1 row.order) as (λ b. (cond b (let r : OrderRow = record { place = row.place; receipt = row.receipt; struck = true; order = row.order } in r) row).order.account ≡ row.order.account) [
  | true ↦ refl
  | false ↦ refl
]

pub account-replaced : (form : EntryForm) (row : OrderRow) → (replaced_by form row).order.account ≡ row.order.account
account-replaced form row = elim (replaces row.order form) as (λ b. replaces row.order form ≡ b → (cond b (let r : OrderRow = record { place = row.place; receipt = form.receipt; struck = row.struck; order = form.order } in r) row).order.account ≡ row.order.account) [
  | true ↦ λ t. eqb-true form.order.account row.order.account (and_parts (form.order.account == row.order.account) (form.order.ref_no == row.order.ref_no) t).0
  | false ↦ λ t. refl
] refl

account-after : (kind : EventKind) (row : OrderRow) → (row_after kind row).order.account ≡ row.order.account
account-after (EventKind.Cancel form) row = account-struck (form.account, form.target) row
account-after (EventKind.Void form) row = account-struck (form.account, form.ref_no) row
account-after (EventKind.Replace form) row = account-replaced form row
account-after _ row = refl

account-on-trial : (trial : Option Event) (row : OrderRow) → (row_on_trial trial row).order.account ≡ row.order.account
account-on-trial None row = refl
account-on-trial (Some event) row = account-after event.kind row

-- ---- what is gathered

-- the sheet that prices an order is known
abbrev is_known : List Sheet → OrderRow → Bool
is_known sheets row = is_some (sheet_number sheets row)

abbrev passes_on : List Sheet → OrderRow → Bool
passes_on sheets row = stands row && is_known sheets row

row-numbered : (sheets : List Sheet) (row : OrderRow) → option_map row_of (numbered_on sheets row) ≡ when (passes_on sheets row) row
row-numbered sheets row = by_sheet (sheet_number sheets row) (stands row)
  where
    by_sheet : (found : Option ℕ) (is : Bool) → option_map row_of (option_and_then (λ (number : ℕ). let e : NumberedRow = record { number = number; row = row } in when is e) found) ≡ when (is && is_some found) row
    by_sheet None true = refl
    by_sheet None false = refl
    by_sheet (Some number) true = refl
    by_sheet (Some number) false = refl

abbrev HasSheet : List Sheet → NumberedRow → Type 0
HasSheet sheets entry = sheet_number sheets entry.row ≡ Some entry.number

sheet-numbered : (sheets : List Sheet) (row : OrderRow) (entry : NumberedRow) → numbered_on sheets row ≡ Some entry → HasSheet sheets entry
sheet-numbered sheets row entry = by_sheet (sheet_number sheets row) refl (stands row)
  where
    nothing : None ≡ Some entry → ⊥
    nothing h = cc

    some-same : (other : NumberedRow) → Some other ≡ Some entry → other ≡ entry
    some-same other h = cc

    by_sheet : (found : Option ℕ) → sheet_number sheets row ≡ found → (is : Bool) → option_and_then (λ (number : ℕ). let e : NumberedRow = record { number = number; row = row } in when is e) found ≡ Some entry → HasSheet sheets entry
    by_sheet None e is h = absurd (nothing h)
    by_sheet (Some number) e true h = subst (HasSheet sheets) (some-same (record { number = number; row = row }) h) e
    by_sheet (Some number) e false h = absurd (nothing h)

-- rows changed one by one, and those that pass
changed-rows : {X : Type 0} (change : X → X) (test : X → Bool) (xs : List X) → filter_map (λ x. when (test (change x)) (change x)) xs ≡ filter test (map change xs)
changed-rows change test [] = refl
changed-rows {X} change test (x ∷ xs) = by_test (test (change x)) (changed-rows change test xs)
  where
    by_test : (is : Bool) → filter_map (λ y. when (test (change y)) (change y)) xs ≡ filter test (map change xs) → cons_option (when is (change x)) (filter_map (λ y. when (test (change y)) (change y)) xs) ≡ cond is (change x ∷ filter test (map change xs)) (filter test (map change xs))
    by_test true later = ap (λ rest. change x ∷ rest) later
    by_test false later = later

module _ (sheets : List Sheet) (accounts : List AccountForm) (household : ℕ) (trial : Option Event) (rows : List OrderRow) (owners : List ℕ) (are : AreOwners accounts rows owners) where
  abbrev own_row : OrderRow → Bool
  own_row = is_own_row (is_of_household accounts household)

  own-on-trial : (row : OrderRow) → own_row row ≡ own_row (row_on_trial trial row)
  own-on-trial row = ap (is_of_household accounts household) (sym (account-on-trial trial row))

  rows-gathered : rows_of (filter_map (numbered_at sheets trial rows) (places_where (is_owner household) owners)) ≡ filter (passes_on sheets) (filter own_row (map (row_on_trial trial) rows))
  rows-gathered =
      ap rows_of (found-own accounts household (λ row. numbered_on sheets (row_on_trial trial row)) [] rows owners are)
      ∙ (mapped-found row_of (λ row. numbered_on sheets (row_on_trial trial row)) (λ row. when (passes_on sheets (row_on_trial trial row)) (row_on_trial trial row)) (λ row. row-numbered sheets (row_on_trial trial row)) (filter own_row rows)
      ∙ (changed-rows (row_on_trial trial) (passes_on sheets) (filter own_row rows)
      ∙ ap (filter (passes_on sheets))
      (ap (map (row_on_trial trial)) (filter_agree own_row (λ row. own_row (row_on_trial trial row)) own-on-trial rows)
      ∙ sym (filter-map own_row (row_on_trial trial) rows))))

row-begun-own : (sheets : List Sheet) (accounts : List AccountForm) (household : ℕ) (begun : Option OrderRow) → rows_of (option_to_list (numbered_begun sheets accounts household begun)) ≡ filter (passes_on sheets) (filter (is_own_row (is_of_household accounts household)) (option_to_list begun))
row-begun-own sheets accounts household None = refl
row-begun-own sheets accounts household (Some row) = by_own (is_of_household accounts household row.order.account)
  where
    as-list : (found : Option NumberedRow) → rows_of (option_to_list found) ≡ option_to_list (option_map row_of found)
    as-list None = refl
    as-list (Some entry) = refl

    by_test : (is : Bool) → option_to_list (when is row) ≡ cond is (row ∷ []) []
    by_test true = refl
    by_test false = refl

    by_own : (is : Bool) → rows_of (option_to_list (cond is (numbered_on sheets row) None)) ≡ filter (passes_on sheets) (cond is (row ∷ []) [])
    by_own false = refl
    by_own true = as-list (numbered_on sheets row) ∙ (ap option_to_list (row-numbered sheets row) ∙ by_test (passes_on sheets row))

sheet-begun : (sheets : List Sheet) (accounts : List AccountForm) (household : ℕ) (begun : Option OrderRow) → All (HasSheet sheets) (option_to_list (numbered_begun sheets accounts household begun))
sheet-begun sheets accounts household begun = by_entry (numbered_begun sheets accounts household begun) refl
  where
    nothing : (entry : NumberedRow) → None ≡ Some entry → ⊥
    nothing entry h = cc

    by_own : (row : OrderRow) (entry : NumberedRow) (is : Bool) → cond is (numbered_on sheets row) None ≡ Some entry → HasSheet sheets entry
    by_own row entry true h = sheet-numbered sheets row entry h
    by_own row entry false h = absurd (nothing entry h)

    by_row : (entry : NumberedRow) (begun : Option OrderRow) → numbered_begun sheets accounts household begun ≡ Some entry → HasSheet sheets entry
    by_row entry None h = absurd (nothing entry h)
    by_row entry (Some row) h = by_own row entry (is_of_household accounts household row.order.account) h

    by_entry : (found : Option NumberedRow) → numbered_begun sheets accounts household begun ≡ found → All (HasSheet sheets) (option_to_list found)
    by_entry None e = All-nil (HasSheet sheets)
    by_entry (Some entry) e = All-cons (HasSheet sheets) entry [] (by_row entry begun e) (All-nil (HasSheet sheets))

sheets-gathered : (sheets : List Sheet) (trial : Option Event) (rows : List OrderRow) (places : List ℕ) → All (HasSheet sheets) (filter_map (numbered_at sheets trial rows) places)
sheets-gathered sheets trial rows places = found-all (HasSheet sheets) (numbered_at sheets trial rows) at-place places
  where
    nothing : (entry : NumberedRow) → None ≡ Some entry → ⊥
    nothing entry h = cc

    by_row : (entry : NumberedRow) (at : Option OrderRow) → option_and_then (λ row. numbered_on sheets (row_on_trial trial row)) at ≡ Some entry → HasSheet sheets entry
    by_row entry None h = absurd (nothing entry h)
    by_row entry (Some row) h = sheet-numbered sheets (row_on_trial trial row) entry h

    at-place : (place : ℕ) (entry : NumberedRow) → numbered_at sheets trial rows place ≡ Some entry → HasSheet sheets entry
    at-place place entry h = by_row entry (slice_get rows place) h

-- ---- under the number of a sheet

abbrev is_on : ℕ → List Sheet → OrderRow → Bool
is_on number sheets row = is_priced_on number (priced_in sheets row)

on-sheet : (number : ℕ) (sheets : List Sheet) (entries : List NumberedRow) → All (HasSheet sheets) entries → rows_of (filter (is_under number) entries) ≡ filter (is_on number sheets) (rows_of entries)
on-sheet number sheets entries known =
    ap (map row_of) (filter-known (is_under number) (λ entry. is_on number sheets (row_of entry)) entries
    (λ k d short. sym (ap (λ (found : Option ℕ). option_map_or (λ (n : ℕ). n == number) found false) (known k d short))))
    ∙ sym (filter-map (is_on number sheets) row_of entries)

-- what a sheet prices has one
on-known : (number : ℕ) (sheets : List Sheet) (rows : List OrderRow) → filter (is_on number sheets) (filter (passes_on sheets) rows) ≡ filter (is_on number sheets) (filter stands rows)
on-known number sheets rows =
    ap (filter (is_on number sheets)) (sym (filter-both stands (is_known sheets) rows))
    ∙ filter-within (is_known sheets) (is_on number sheets) (λ row on. by_sheet (sheet_number sheets row) on) (filter stands rows)
  where
    by_sheet : (found : Option ℕ) → option_map_or (λ (n : ℕ). n == number) found false ≡ true → is_some found ≡ true
    by_sheet (Some n) on = refl
    by_sheet None on = absurd (true≢false (sym on))

pub own-by-sheet : (journal : Journal) (trial : Option Event) (sheets : List Sheet) (owners : List ℕ) (household first : ℕ) (gathered turned grouped : List NumberedRow) (orders : List NumberedOrder)
    → TrialFits journal trial
    → gathered ≡ filter_map (numbered_at sheets trial (orders_of journal)) (not_before first (places_where (is_owner household) owners)) ++ option_to_list (numbered_begun sheets (accounts_of journal) household (row_begun (length journal) trial))
    → rows_of turned ≡ all_in_turn (rows_of gathered) → IsPermutation gathered turned
    → ((n : ℕ) → filter (is_under n) grouped ≡ filter (is_under n) turned)
    → orders ≡ map order_of grouped
    → AreOwnOnTrial journal trial sheets owners household first orders
own-by-sheet journal trial sheets owners household first gathered turned grouped orders fits gathered_is turned_is moved grouped_is orders_are book of_trial are before settled sheet behind =
    ap (λ rows. map (λ (row : NumberedOrder). row.order) (filter (λ (row : NumberedOrder). row.number == number) rows)) orders_are
    ∙ (under-number number grouped
    ∙ ap (map (λ (row : OrderRow). row.order))
    (ap rows_of (grouped_is number)
    ∙ (on-sheet number sheets turned known
    ∙ (ap (filter (is_on number sheets)) turned_is
    ∙ (turns-filter (is_on number sheets) (rows_of gathered)
    ∙ (ap all_in_turn found
    ∙ (sym (turns-filter own (filter (is_on number sheets) (filter stands all)))
    ∙ sym listed)))))))
  where
    number : ℕ
    number = sheet.number

    own : OrderRow → Bool
    own = is_own_row (is_of_household (accounts_of journal) household)

    begun : List OrderRow
    begun = option_to_list (row_begun (length journal) trial)

    all : List OrderRow
    all = map (row_on_trial trial) (orders_of journal) ++ begun

    late : List NumberedRow
    late = filter_map (numbered_at sheets trial (orders_of journal)) (not_before first (places_where (is_owner household) owners))

    every : List NumberedRow
    every = filter_map (numbered_at sheets trial (orders_of journal)) (places_where (is_owner household) owners)

    one-begun : List NumberedRow
    one-begun = option_to_list (numbered_begun sheets (accounts_of journal) household (row_begun (length journal) trial))

    known : All (HasSheet sheets) turned
    known = All-permutation (HasSheet sheets) gathered turned moved
        (subst (All (HasSheet sheets)) (sym gathered_is)
        (All-append (HasSheet sheets) late one-begun
        (sheets-gathered sheets trial (orders_of journal) (not_before first (places_where (is_owner household) owners)))
        (sheet-begun sheets (accounts_of journal) household (row_begun (length journal) trial))))

    rows-are : rows_of (every ++ one-begun) ≡ filter (passes_on sheets) (filter own all)
    rows-are =
        map-append row_of every one-begun
        ∙ (ap (λ front. front ++ rows_of one-begun) (rows-gathered sheets (accounts_of journal) household trial (orders_of journal) owners are)
        ∙ (ap (λ back. filter (passes_on sheets) (filter own (map (row_on_trial trial) (orders_of journal))) ++ back) (row-begun-own sheets (accounts_of journal) household (row_begun (length journal) trial))
        ∙ (sym (filter-append (passes_on sheets) (filter own (map (row_on_trial trial) (orders_of journal))) (filter own begun))
        ∙ ap (filter (passes_on sheets)) (sym (filter-append own (map (row_on_trial trial) (orders_of journal)) begun)))))

    -- the late ones are all that are on the sheet
    late-are : filter (is_on number sheets) (rows_of gathered) ≡ filter (is_on number sheets) (rows_of (every ++ one-begun))
    late-are =
        ap (λ rows. filter (is_on number sheets) (rows_of rows)) gathered_is
        ∙ (ap (filter (is_on number sheets)) (map-append row_of late one-begun)
        ∙ (filter-append (is_on number sheets) (rows_of late) (rows_of one-begun)
        ∙ (ap (λ front. front ++ filter (is_on number sheets) (rows_of one-begun)) (late-gathered sheets (accounts_of journal) household trial (orders_of journal) owners first before number are behind settled)
        ∙ (sym (filter-append (is_on number sheets) (rows_of every) (rows_of one-begun))
        ∙ ap (filter (is_on number sheets)) (sym (map-append row_of every one-begun))))))

    found : filter (is_on number sheets) (rows_of gathered) ≡ filter own (filter (is_on number sheets) (filter stands all))
    found =
        late-are
        ∙ (ap (filter (is_on number sheets)) rows-are
        ∙ (on-known number sheets (filter own all)
        ∙ (ap (filter (is_on number sheets)) (filter-swap stands own all)
        ∙ filter-swap (is_on number sheets) own (filter stands all))))

    standing : filter stands book.orders ≡ filter stands all
    standing =
        ap (filter stands) of_trial.orders
        ∙ (standing-by-row journal trial fits
        ∙ sym (filter-append stands (map (row_on_trial trial) (orders_of journal)) begun))

    listed : own_on book household sheet ≡ filter own (all_in_turn (filter (is_on number sheets) (filter stands all)))
    listed =
        ap (λ accounts. filter (is_own_row (is_of_household accounts household)) (orders_on (priced_orders book) sheet)) of_trial.accounts
        ∙ ap (filter own)
        (orders-standing book sheet
        ∙ (ap (λ (listed : List Sheet). all_in_turn (filter (is_on number listed) (filter stands book.orders))) of_trial.sheets
        ∙ ap (λ rows. all_in_turn (filter (is_on number sheets) rows)) standing))
