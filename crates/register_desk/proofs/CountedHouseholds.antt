-- Households that a sheet or a corrected price reaches are among those of the journal, so different ones are at most so many.
use Rattle.std.proofs.Common.{Bool, Contains, List, Some, [], ap, append-nil, arith, cond, count_by, false, filter, find, length, map, nat_eq, not, option_map, option_to_list, refl, subst, sym, true, ℕ, ◌&&◌, ◌++◌, ◌==◌, ◌∙◌, ◌∷◌, ◌≡◌, ◌≤◌}
use Rattle.std.proofs.lemmas.Bool.{and_parts, eqb-true, true≢false}
use Rattle.std.proofs.lemmas.Bool.Decides.{Decides-eqb}
use Rattle.std.proofs.lemmas.List.Elements.{All-contains}
use Rattle.std.proofs.lemmas.List.Sums.{length-filter}
use Rattle.std.proofs.lemmas.Map.Made.{is_member-Decides, is_member-filter, length-le_from_is_member}
use Rattle.std.specs.Cmp.{nat_eq_equiv}
use Rattle.std.specs.List.{IsDistinct, list_all, list_any}
use Rattle.std.specs.Option.{option_map_or}
use Rattle.std.specs.Prelude.{All}
use Rattle.std.specs.Set.{is_member}
use Rattle.agent_events.specs.Events.{Event}
use Rattle.agent_events.specs.declared.event.EventKind.{EventKind}
use Rattle.agent_events.specs.declared.order.OrderRow.{OrderRow}
use Rattle.agent_events.specs.declared.request.AccountForm.{AccountForm}
use Rattle.agent_events.specs.declared.request.HouseholdForm.{HouseholdForm}
use Rattle.agent_events.specs.declared.request.SheetForm.{SheetForm}
use Rattle.desk_books.specs.Naming.{names_somewhere}
use Rattle.register_desk.specs.StepBounds.{class_reach, is_left_alone, is_quiet, sheet_reach}
use Rattle.register_laws.specs.EventReplays.{sheet_behind}
use Rattle.forward_price.specs.declared.price_sheet.Sheet.{Sheet}
use Rattle.register_laws.proofs.NamesStand.{names_stand}
use Rattle.register_laws.proofs.OneEventMore.{gathers-on}
use Rattle.register_laws.proofs.Tests.{any-of-map, any-with}
use Rattle.register_laws.specs.CorrectionReach.{names_class}
use Rattle.register_laws.specs.HouseholdSheets.{IsQuiet, is_paid_on}
use Rattle.register_laws.specs.HouseholdSums.{household_numbers}
use Rattle.register_laws.specs.Households.{is_of_household, is_own_position, is_own_row, own_orders, part_of}
use Rattle.register_laws.specs.Identities.{is_household}
use Rattle.register_laws.specs.Lawful.{book_behind}
use Rattle.register_machine.specs.journal.Journals.{Journal, with_event}
use Rattle.register_machine.specs.journal.Kinds.{accounts_of, household_in, households_of}
use Rattle.register_machine.specs.journal.Lawful.{IsLawful}
use Rattle.register_machine.specs.pricing.CorrectedBook.{Book}
use Rattle.register_machine.specs.pricing.CorrectedOrders.{stands}
use Rattle.register_machine.specs.replay.Letter.{has_letter_over}
use Rattle.register_machine.specs.replay.Positions.{Register}
use Rattle.register_machine.specs.replay.Replay.{orders_on, priced_orders, replay}
use Rattle.desk_books.specs.SheetReach.{IsReached}

-- ---- different numbers among others

pub at_most_counted : (test : ℕ → Bool) (xs ys : List ℕ) → IsDistinct nat_eq xs → ((x : ℕ) → Contains xs x → (is_member nat_eq ys x && test x) ≡ true) → length xs ≤ count_by test ys
at_most_counted test xs ys distinct each =
    subst (λ n. length xs ≤ n) (length-filter test ys)
    (length-le_from_is_member nat_eq_equiv xs (filter test ys) distinct
    (λ q here. is_member-filter nat_eq_equiv test q (λ x same. ap test (eqb-true q x same)) ys ∙ each q ((is_member-Decides Decides-eqb xs q).0 here)))

-- none passes, so none is left
none-left : {X : Type 0} (test : X → Bool) (xs : List X) → ((x : X) → test x ≡ true → ⊥) → filter test xs ≡ []
none-left test [] never = refl
none-left {X = X} test (x ∷ xs) never = by_test (test x) refl (none-left test xs never)
  where
    by_test : (b : Bool) → test x ≡ b → filter test xs ≡ [] → cond b (x ∷ filter test xs) (filter test xs) ≡ []
    by_test true is later = absurd (never x is)
    by_test false is later = later

-- ---- the household of an account is one of the journal

named-among : (household : ℕ) (forms : List HouseholdForm) (named : ℕ) → (named == household) ≡ true → list_any (is_household named) forms ≡ true → is_member nat_eq (map (λ (form : HouseholdForm). form.household) forms) household ≡ true
named-among household forms named same there =
    let found = any-with (is_household named) forms there in
    any-of-map (nat_eq household) (λ (form : HouseholdForm). form.household) forms
    ∙ found.2 (λ (form : HouseholdForm). nat_eq household form.household)
    (subst (λ n. nat_eq household n ≡ true) (sym (eqb-true found.0.household named found.1 ∙ eqb-true named household same)) ((Decides-eqb household household).1 refl))

owner-among : (forms : List HouseholdForm) (accounts : List AccountForm) (household number : ℕ) → list_all (λ (account : AccountForm). list_any (is_household account.household) forms) accounts ≡ true → is_of_household accounts household number ≡ true → is_member nat_eq (map (λ (form : HouseholdForm). form.household) forms) household ≡ true
owner-among forms [] household number stand is = absurd (true≢false (sym is))
owner-among forms (account ∷ accounts) household number stand is =
    by_test (account.account == number) (λ later. owner-among forms accounts household number parts.1 later) is
  where
    parts : (list_any (is_household account.household) forms ≡ true) × (list_all (λ (other : AccountForm). list_any (is_household other.household) forms) accounts ≡ true)
    parts = and_parts (list_any (is_household account.household) forms) (list_all (λ (other : AccountForm). list_any (is_household other.household) forms) accounts) stand

    by_test : (b : Bool) → (is_of_household accounts household number ≡ true → is_member nat_eq (map (λ (form : HouseholdForm). form.household) forms) household ≡ true) → option_map_or (λ owner. owner == household) (option_map (λ (a : AccountForm). a.household) (cond b (Some account) (find (λ (a : AccountForm). a.account == number) accounts))) false ≡ true → is_member nat_eq (map (λ (form : HouseholdForm). form.household) forms) household ≡ true
    by_test true rest same = named-among household forms account.household same parts.0
    by_test false rest later = rest later

pub owner_among : (journal : Journal) (household number : ℕ) → IsLawful journal → is_of_household (accounts_of journal) household number ≡ true → is_member nat_eq (household_numbers journal) household ≡ true
owner_among journal household number lawful is =
    owner-among (households_of journal) (accounts_of journal) household number (names_stand journal lawful).households is

-- ---- a household that the journal hasn't has no order and no position

foreign : (journal : Journal) (household : ℕ) → IsLawful journal → is_member nat_eq (household_numbers journal) household ≡ false → (number : ℕ) → is_of_household (accounts_of journal) household number ≡ true → ⊥
foreign journal household lawful absent number is =
    true≢false (sym (owner_among journal household number lawful is) ∙ absent)

foreign-quiet : (journal : Journal) (book : Book) (sheet : Sheet) (rows : List OrderRow) (register : Register) (household : ℕ) → IsLawful journal → is_member nat_eq (household_numbers journal) household ≡ false → is_quiet book sheet (own_orders (accounts_of journal) household rows) (filter (is_own_position (is_of_household (accounts_of journal) household)) register) ≡ true
foreign-quiet journal book sheet rows register household lawful absent =
    ap (λ (own : List OrderRow). is_quiet book sheet own (filter (is_own_position (is_of_household (accounts_of journal) household)) register))
    (none-left (is_own_row (is_of_household (accounts_of journal) household)) rows (λ row is. foreign journal household lawful absent row.order.account is))
    ∙ ap (λ (left : Register). is_quiet book sheet [] left)
    (none-left (is_own_position (is_of_household (accounts_of journal) household)) register (λ position is. foreign journal household lawful absent position.account is))

-- ---- a sheet

no-rows : (rows : List OrderRow) → (length rows == 0) ≡ true → rows ≡ []
no-rows [] e = refl
no-rows (row ∷ rows) e = absurd (omega (arith, eqb-true (length (row ∷ rows)) 0 e))

not-any : (b : Bool) → not b ≡ true → b ≡ false
not-any true e = sym e
not-any false e = refl

quiet-is : (book : Book) (sheet : Sheet) (rows : List OrderRow) (register : Register) → is_quiet book sheet rows register ≡ true → IsQuiet book sheet rows register
quiet-is book sheet rows register e =
    let first = and_parts (length rows == 0) (not (list_any (is_paid_on book sheet) register) && not (list_any (has_letter_over sheet) register)) e in
    let second = and_parts (not (list_any (is_paid_on book sheet) register)) (not (list_any (has_letter_over sheet) register)) first.1 in
    (no-rows rows first.0, not-any (list_any (is_paid_on book sheet) register) second.0, not-any (list_any (has_letter_over sheet) register) second.1)

same-households : (journal : Journal) (event : Event) (form : SheetForm) → event.kind ≡ EventKind.Sheet form → household_numbers (with_event journal event) ≡ household_numbers journal
same-households journal event form is =
    ap (map (λ (h : HouseholdForm). h.household))
    (gathers-on household_in journal event
    ∙ (ap (λ (k : EventKind). households_of journal ++ option_to_list (household_in k)) is ∙ append-nil (households_of journal)))

reached-among : (journal : Journal) (event : Event) (form : SheetForm) (household : ℕ) → IsLawful (with_event journal event) → event.kind ≡ EventKind.Sheet form → IsReached journal event form household → (is_member nat_eq (household_numbers journal) household && not (is_left_alone journal event form household)) ≡ true
reached-among journal event form household lawful is reached =
    by_member (is_member nat_eq (household_numbers journal) household) (is_left_alone journal event form household) refl refl
  where
    quiet : is_left_alone journal event form household ≡ true → ⊥
    quiet alone =
        let book = book_behind (with_event journal event) in
        reached (quiet-is book (sheet_behind journal form) (own_orders book.accounts household (orders_on (priced_orders book) (sheet_behind journal form)))
        (part_of book.accounts household (replay (book_behind journal))).register alone)

    by_member : (there alone : Bool) → is_member nat_eq (household_numbers journal) household ≡ there → is_left_alone journal event form household ≡ alone → (there && not alone) ≡ true
    by_member true false here left = refl
    by_member there true here left = absurd (quiet left)
    by_member false false here left =
        absurd (quiet (foreign-quiet (with_event journal event) (book_behind (with_event journal event)) (sheet_behind journal form)
        (orders_on (priced_orders (book_behind (with_event journal event))) (sheet_behind journal form)) (replay (book_behind journal)).register household lawful
        (ap (λ (numbers : List ℕ). is_member nat_eq numbers household) (same-households journal event form is) ∙ here)))

pub sheet_count : (journal : Journal) (event : Event) (form : SheetForm) (households : List ℕ) → IsLawful (with_event journal event) → event.kind ≡ EventKind.Sheet form → IsDistinct nat_eq households → All (IsReached journal event form) households → length households ≤ sheet_reach journal event form
sheet_count journal event form households lawful is distinct reached =
    at_most_counted (λ household. not (is_left_alone journal event form household)) households (household_numbers journal) distinct
    (λ household there. reached-among journal event form household lawful is (All-contains (IsReached journal event form) households household reached there))

-- ---- a corrected price or rate

naming-among : (journal : Journal) (class household : ℕ) → IsLawful journal → names_somewhere (book_behind journal) household class ≡ true → (is_member nat_eq (household_numbers journal) household && names_somewhere (book_behind journal) household class) ≡ true
naming-among journal class household lawful names = by_member (is_member nat_eq (household_numbers journal) household) refl
  where
    own : ℕ → Bool
    own number = is_of_household (accounts_of journal) household number

    by_member : (there : Bool) → is_member nat_eq (household_numbers journal) household ≡ there → (there && names_somewhere (book_behind journal) household class) ≡ true
    by_member true here = names
    by_member false here =
        absurd (true≢false (sym names
        ∙ ap (λ (rows : List OrderRow). list_any (names_class class) (filter stands rows))
        (none-left (is_own_row own) (book_behind journal).orders (λ row is. foreign journal household lawful here row.order.account is))))

pub class_count : (journal : Journal) (class : ℕ) (households : List ℕ) → IsLawful journal → IsDistinct nat_eq households → ((household : ℕ) → Contains households household → names_somewhere (book_behind journal) household class ≡ true) → length households ≤ class_reach journal class
class_count journal class households lawful distinct names =
    at_most_counted (λ household. names_somewhere (book_behind journal) household class) households (household_numbers journal) distinct
    (λ household there. naming-among journal class household lawful (names household there))
