-- No identity stands twice in a lawful journal: an event that has one is brought only behind a journal without it.
use Rattle.std.proofs.Common.{Bool, List, None, Option, Some, [], ap, append-nil, arith, cond, false, filter, find, is_some, length, length-append, refl, subst, sym, true, ℕ, ◌&&◌, ◌++◌, ◌+◌, ◌==◌, ◌||◌, ◌∙◌, ◌∷◌, ◌≡◌, ◌≤◌}
use Rattle.std.proofs.lemmas.Bool.{and_parts, eqb-true, or_from, or_parts, true≢false}
use Rattle.std.proofs.lemmas.List.Elements.{filter-append, filter_map-append}
use Rattle.std.proofs.lemmas.Slice.Eq.{bytes_eq-Decides}
use Rattle.std.specs.List.{cons_option, list_any}
use Rattle.std.specs.Option.{option_map_or, option_or}
use Rattle.agent_events.specs.Events.{Event, request_of}
use Rattle.agent_events.specs.declared.event.EventKind.{EventKind}
use Rattle.agent_events.specs.declared.reply.Refusal.{Refusal}
use Rattle.agent_events.specs.declared.request.DealerForm.{DealerForm}
use Rattle.agent_events.specs.declared.request.HouseholdForm.{HouseholdForm}
use Rattle.agent_events.specs.declared.request.Request.{Request}
use Rattle.fund_calendar.proofs.LookUpLemmas.{list_any-find}
use Rattle.money_units.specs.Texts.{number}
use Rattle.register_laws.proofs.Choosing.{AllClear, all_clear, at_most_one, none_passes, not_mapped, not_when, some_none}
use Rattle.register_laws.proofs.LawfulJournals.{brought, lawful-keeps}
use Rattle.register_laws.proofs.RulesByName.{not_broken}
use Rattle.register_laws.specs.Identities.{AtMostOne, NoAccountTwice, NoClassTwice, NoDealerKeyTwice, NoDealerTwice, NoDividendTwice, NoFixTwice, NoHouseholdKeyTwice, NoHouseholdTwice, NoKeyTwice, NoReferenceTwice, has_dealer_key, has_household_key, has_number, is_class, is_dealer, is_household}
use Rattle.register_laws.specs.Lawful.{IsBrought, own_at}
use Rattle.register_machine.specs.journal.Choices.{first_some}
use Rattle.register_machine.specs.journal.Journals.{Journal, with_event}
use Rattle.register_machine.specs.journal.Kinds.{account_in, accounts_of, class_in, classes_of, dealer_in, dealers_of, dividend_in, each_in, household_in, households_of}
use Rattle.register_machine.specs.journal.Lawful.{IsLawful}
use Rattle.register_machine.specs.pricing.DividendRates.{declares}
use Rattle.agent_events.specs.declared.verdict.Caller.{Caller}
use Rattle.register_machine.specs.rules.Callers.{dealer_with_key, household_with_key}
use Rattle.register_machine.specs.rules.Identities.{brings_fix, brings_reference, fix_of, has_fix, has_reference, reference_of}
use Rattle.register_machine.specs.rules.InOrder.{Rule, broken_rule}
use Rattle.register_machine.specs.rules.Orders.{is_published_at}
use Rattle.register_machine.specs.rules.Situations.{Situation}
use Rattle.register_machine.specs.rules.Standing.{day_used, dividend_stands, family_differs, holder_of_key, key_taken, number_taken}

one_more : {X : Type 0} (test : X → Bool) (xs : List X) (found : Option X) → AtMostOne test xs → (option_map_or test found false ≡ true → list_any test xs ≡ false) → AtMostOne test (xs ++ cons_option found [])
one_more test xs None few none = subst (AtMostOne test) (sym (append-nil xs)) few
one_more test xs (Some x) few none = at_most_one test xs x few none

pub one-length : {X : Type 0} (test : X → Bool) (found : Option X) → length (filter test (cons_option found [])) ≡ cond (option_map_or test found false) 1 0
one-length test None = refl
one-length test (Some x) = elim (test x) as (λ b. length (cond b (x ∷ []) []) ≡ cond b 1 0) [ true ↦ refl | false ↦ refl ]

-- one event more, to a journal that has none of its identity
pub once-more : {X : Type 0} (chosen : EventKind → Option X) (test : X → Bool) (journal : Journal) (event : Event) → AtMostOne test (each_in chosen journal) → (option_map_or test (chosen event.kind) false ≡ true → list_any test (each_in chosen journal) ≡ false) → AtMostOne test (each_in chosen (journal ++ event ∷ []))
once-more chosen test journal event few none =
    subst (AtMostOne test) (sym (filter_map-append (λ e. chosen e.kind) journal (event ∷ [])))
    (one_more test (each_in chosen journal) (chosen event.kind) few none)

-- So an identity stands once in every lawful journal, where an event that has it is brought only behind a journal without it.
pub once-in-lawful : {X : Type 0} (chosen : EventKind → Option X) (test : X → Bool) → ((journal : Journal) (now : ℕ) (caller : Caller) (kind : EventKind) → broken_rule (own_at journal now caller) (request_of kind) ≡ None → option_map_or test (chosen kind) false ≡ true → list_any test (each_in chosen journal) ≡ false) → (journal : Journal) → IsLawful journal → AtMostOne test (each_in chosen journal)
once-in-lawful chosen test new =
    lawful-keeps (λ journal. AtMostOne test (each_in chosen journal))
    (λ journal event lawful brought few.
    once-more chosen test journal event few (new journal event.moment brought.caller event.kind brought.clear))
    (omega arith)

-- ---- what stands already

-- none of its five causes is there
none_stands : (situation : Situation) (request : Request) → broken_rule situation request ≡ None → AllClear (number_taken situation request ∷ key_taken situation request ∷ family_differs situation request ∷ day_used situation request ∷ dividend_stands situation request ∷ [])
none_stands situation request clear =
    let taken = number_taken situation request ∷ key_taken situation request ∷ family_differs situation request ∷ day_used situation request ∷ dividend_stands situation request ∷ [] in
    all_clear taken (not_mapped Refusal.Stands (first_some taken) (not_broken situation request clear Rule.Stands))

pub number_free : (situation : Situation) (request : Request) → broken_rule situation request ≡ None → number_taken situation request ≡ None
unfolding AllClear
number_free situation request clear = (none_stands situation request clear).0

key_free : (situation : Situation) (request : Request) → broken_rule situation request ≡ None → key_taken situation request ≡ None
unfolding AllClear
key_free situation request clear = (none_stands situation request clear).1.0

pub family_free : (situation : Situation) (request : Request) → broken_rule situation request ≡ None → family_differs situation request ≡ None
unfolding AllClear
family_free situation request clear = (none_stands situation request clear).1.1.0

pub day_free : (situation : Situation) (request : Request) → broken_rule situation request ≡ None → day_used situation request ≡ None
unfolding AllClear
day_free situation request clear = (none_stands situation request clear).1.1.1.0

pub dividend_free : (situation : Situation) (request : Request) → broken_rule situation request ≡ None → dividend_stands situation request ≡ None
unfolding AllClear
dividend_free situation request clear = (none_stands situation request clear).1.1.1.1.0

-- ---- numbers

-- a number that isn't found is none of theirs
unfound : {X : Type 0} (numbered : ℕ → X → Bool) (xs : List X) (own number : ℕ) → (own == number) ≡ true → is_some (find (numbered own) xs) ≡ false → list_any (numbered number) xs ≡ false
unfound numbered xs own number same free =
    subst (λ n. list_any (numbered n) xs ≡ false) (eqb-true own number same) (list_any-find (numbered own) xs ∙ free)

class_new : (journal : Journal) (now : ℕ) (caller : Caller) (number : ℕ) (kind : EventKind) → number_taken (own_at journal now caller) (request_of kind) ≡ None → option_map_or (is_class number) (class_in kind) false ≡ true → list_any (is_class number) (classes_of journal) ≡ false
class_new journal now caller number (EventKind.Class form) free here =
    unfound is_class (classes_of journal) form.class number here
    (not_when (is_some (find (is_class form.class) (classes_of journal))) form.class free)
class_new journal now caller number _ free here = absurd (true≢false (sym here))

dealer_new : (journal : Journal) (now : ℕ) (caller : Caller) (number : ℕ) (kind : EventKind) → number_taken (own_at journal now caller) (request_of kind) ≡ None → option_map_or (is_dealer number) (dealer_in kind) false ≡ true → list_any (is_dealer number) (dealers_of journal) ≡ false
dealer_new journal now caller number (EventKind.Dealer form) free here =
    unfound is_dealer (dealers_of journal) form.dealer number here
    (not_when (is_some (find (is_dealer form.dealer) (dealers_of journal))) form.dealer free)
dealer_new journal now caller number _ free here = absurd (true≢false (sym here))

household_new : (journal : Journal) (now : ℕ) (caller : Caller) (number : ℕ) (kind : EventKind) → number_taken (own_at journal now caller) (request_of kind) ≡ None → option_map_or (is_household number) (household_in kind) false ≡ true → list_any (is_household number) (households_of journal) ≡ false
household_new journal now caller number (EventKind.Household form) free here =
    subst (λ n. list_any (is_household n) (households_of journal) ≡ false) (eqb-true form.household number here)
    (not_when (list_any (is_household form.household) (households_of journal)) form.household free)
household_new journal now caller number _ free here = absurd (true≢false (sym here))

account_new : (journal : Journal) (now : ℕ) (caller : Caller) (number : ℕ) (kind : EventKind) → number_taken (own_at journal now caller) (request_of kind) ≡ None → option_map_or (has_number number) (account_in kind) false ≡ true → list_any (has_number number) (accounts_of journal) ≡ false
account_new journal now caller number (EventKind.Account form) free here =
    unfound has_number (accounts_of journal) form.account number here
    (not_when (is_some (find (has_number form.account) (accounts_of journal))) form.account free)
account_new journal now caller number _ free here = absurd (true≢false (sym here))

pub no_class_twice : (journal : Journal) → IsLawful journal → NoClassTwice journal
no_class_twice journal lawful number =
    once-in-lawful class_in (is_class number)
    (λ known now caller kind clear. class_new known now caller number kind (number_free (own_at known now caller) (request_of kind) clear))
    journal lawful

pub no_dealer_twice : (journal : Journal) → IsLawful journal → NoDealerTwice journal
no_dealer_twice journal lawful number =
    once-in-lawful dealer_in (is_dealer number)
    (λ known now caller kind clear. dealer_new known now caller number kind (number_free (own_at known now caller) (request_of kind) clear))
    journal lawful

pub no_household_twice : (journal : Journal) → IsLawful journal → NoHouseholdTwice journal
no_household_twice journal lawful number =
    once-in-lawful household_in (is_household number)
    (λ known now caller kind clear. household_new known now caller number kind (number_free (own_at known now caller) (request_of kind) clear))
    journal lawful

pub no_account_twice : (journal : Journal) → IsLawful journal → NoAccountTwice journal
no_account_twice journal lawful number =
    once-in-lawful account_in (has_number number)
    (λ known now caller kind clear. account_new known now caller number kind (number_free (own_at known now caller) (request_of kind) clear))
    journal lawful

-- ---- keys

-- a key that belongs to nobody is none of a household's and none of a dealer's
nobody's : (journal : Journal) (key : List ℕ) → holder_of_key journal key ≡ None → (list_any (has_household_key key) (households_of journal) ≡ false) × (list_any (has_dealer_key key) (dealers_of journal) ≡ false)
nobody's journal key free = by_household (household_with_key journal key) refl free
  where
    by_household : (found : Option ℕ) → household_with_key journal key ≡ found → option_or found (dealer_with_key journal key) ≡ None → (list_any (has_household_key key) (households_of journal) ≡ false) × (list_any (has_dealer_key key) (dealers_of journal) ≡ false)
    by_household None here none = (
      list_any-find (has_household_key key) (households_of journal)
          ∙ ap is_some (not_mapped (λ (other : HouseholdForm). other.household) (find (has_household_key key) (households_of journal)) here),
      list_any-find (has_dealer_key key) (dealers_of journal)
          ∙ ap is_some (not_mapped (λ (other : DealerForm). other.dealer) (find (has_dealer_key key) (dealers_of journal)) none),
    )
    by_household (Some number) here none = absurd (some_none none)

dealer_key_new : (journal : Journal) (now : ℕ) (caller : Caller) (key : List ℕ) (kind : EventKind) → key_taken (own_at journal now caller) (request_of kind) ≡ None → option_map_or (has_dealer_key key) (dealer_in kind) false ≡ true → list_any (has_household_key key) (households_of journal) || list_any (has_dealer_key key) (dealers_of journal) ≡ false
dealer_key_new journal now caller key (EventKind.Dealer form) free here =
    subst (λ k. (list_any (has_household_key k) (households_of journal) || list_any (has_dealer_key k) (dealers_of journal)) ≡ false) ((bytes_eq-Decides form.key key).0 here)
    (let parts = nobody's journal form.key free in or_from (list_any (has_household_key form.key) (households_of journal)) (list_any (has_dealer_key form.key) (dealers_of journal)) parts.0 parts.1)
dealer_key_new journal now caller key _ free here = absurd (true≢false (sym here))

household_key_new : (journal : Journal) (now : ℕ) (caller : Caller) (key : List ℕ) (kind : EventKind) → key_taken (own_at journal now caller) (request_of kind) ≡ None → option_map_or (has_household_key key) (household_in kind) false ≡ true → list_any (has_household_key key) (households_of journal) || list_any (has_dealer_key key) (dealers_of journal) ≡ false
household_key_new journal now caller key (EventKind.Household form) free here =
    subst (λ k. (list_any (has_household_key k) (households_of journal) || list_any (has_dealer_key k) (dealers_of journal)) ≡ false) ((bytes_eq-Decides form.key key).0 here)
    (let parts = nobody's journal form.key free in or_from (list_any (has_household_key form.key) (households_of journal)) (list_any (has_dealer_key form.key) (dealers_of journal)) parts.0 parts.1)
household_key_new journal now caller key _ free here = absurd (true≢false (sym here))

pub no_dealer_key_twice : (journal : Journal) → IsLawful journal → NoDealerKeyTwice journal
no_dealer_key_twice journal lawful key =
    once-in-lawful dealer_in (has_dealer_key key)
    (λ known now caller kind clear here.
    (or_parts (list_any (has_household_key key) (households_of known)) (list_any (has_dealer_key key) (dealers_of known))
    (dealer_key_new known now caller key kind (key_free (own_at known now caller) (request_of kind) clear) here)).1)
    journal lawful

pub no_household_key_twice : (journal : Journal) → IsLawful journal → NoHouseholdKeyTwice journal
no_household_key_twice journal lawful key =
    once-in-lawful household_in (has_household_key key)
    (λ known now caller kind clear here.
    (or_parts (list_any (has_household_key key) (households_of known)) (list_any (has_dealer_key key) (dealers_of known))
    (household_key_new known now caller key kind (key_free (own_at known now caller) (request_of kind) clear) here)).0)
    journal lawful

-- ---- dividends

dividend_new : (journal : Journal) (now : ℕ) (caller : Caller) (class moment : ℕ) (kind : EventKind) → dividend_stands (own_at journal now caller) (request_of kind) ≡ None → option_map_or (declares class moment) (dividend_in kind) false ≡ true → list_any (declares class moment) (each_in dividend_in journal) ≡ false
dividend_new journal now caller class moment (EventKind.Dividend form) free here =
    let situation = own_at journal now caller in
    let same = and_parts (form.class == class) (form.moment == moment) here in
    let declared = list_any (declares form.class form.moment) (each_in dividend_in journal) in
    let published = is_published_at situation.book form.class form.moment in
    subst (λ c. list_any (declares c moment) (each_in dividend_in journal) ≡ false) (eqb-true form.class class same.0)
    (subst (λ m. list_any (declares form.class m) (each_in dividend_in journal) ≡ false) (eqb-true form.moment moment same.1)
    (or_parts declared published (not_when (declared || published) form.class free)).0)
dividend_new journal now caller class moment _ free here = absurd (true≢false (sym here))

pub no_dividend_twice : (journal : Journal) → IsLawful journal → NoDividendTwice journal
no_dividend_twice journal lawful class moment =
    once-in-lawful dividend_in (declares class moment)
    (λ known now caller kind clear. dividend_new known now caller class moment kind (dividend_free (own_at known now caller) (request_of kind) clear))
    journal lawful

-- ---- references of an account and numbers of corrections

pub ref_parts : (situation : Situation) (request : Request) → broken_rule situation request ≡ None → (option_map_or (has_reference situation) (reference_of request) false ≡ false) × (option_map_or (has_fix situation) (fix_of request) false ≡ false)
ref_parts situation request clear =
    or_parts (option_map_or (has_reference situation) (reference_of request) false) (option_map_or (has_fix situation) (fix_of request) false)
    (not_when (option_map_or (has_reference situation) (reference_of request) false || option_map_or (has_fix situation) (fix_of request) false) Refusal.RefUsed (not_broken situation request clear Rule.RefUsed))

-- a reference that isn't known passes no event
unknown_reference : (situation : Situation) (named : ℕ × ℕ) (found : Option (ℕ × ℕ)) → option_map_or (has_reference situation) found false ≡ false → option_map_or (λ other. other.0 == named.0 && other.1 == named.1) found false ≡ true → list_any (brings_reference named) situation.journal ≡ false
unknown_reference situation named None h t = absurd (true≢false (sym t))
unknown_reference situation named (Some other) h t =
    let parts = and_parts (other.0 == named.0) (other.1 == named.1) t in
    let account = eqb-true other.0 named.0 parts.0 in
    let ref_no = eqb-true other.1 named.1 parts.1 in
    subst (λ a. list_any (brings_reference (a, named.1)) situation.journal ≡ false) account
    (subst (λ b. list_any (brings_reference (other.0, b)) situation.journal ≡ false) ref_no h)

unknown_fix : (situation : Situation) (fix : ℕ) (found : Option ℕ) → option_map_or (has_fix situation) found false ≡ false → option_map_or (λ other. other == fix) found false ≡ true → list_any (brings_fix fix) situation.journal ≡ false
unknown_fix situation fix None h t = absurd (true≢false (sym t))
unknown_fix situation fix (Some other) h t =
    subst (λ a. list_any (brings_fix a) situation.journal ≡ false) (eqb-true other fix t) h

pub no_reference_twice : (journal : Journal) → IsLawful journal → NoReferenceTwice journal
no_reference_twice journal lawful named =
    lawful-keeps (λ known. AtMostOne (brings_reference named) known)
    (λ known event lawful_known brought once.
    at_most_one (brings_reference named) known event once
    (unknown_reference (own_at known event.moment brought.caller) named (reference_of (request_of event.kind)) (ref_parts (own_at known event.moment brought.caller) (request_of event.kind) brought.clear).0))
    (omega arith) journal lawful

pub no_fix_twice : (journal : Journal) → IsLawful journal → NoFixTwice journal
no_fix_twice journal lawful fix =
    lawful-keeps (λ known. AtMostOne (brings_fix fix) known)
    (λ known event lawful_known brought once.
    at_most_one (brings_fix fix) known event once
    (unknown_fix (own_at known event.moment brought.caller) fix (fix_of (request_of event.kind)) (ref_parts (own_at known event.moment brought.caller) (request_of event.kind) brought.clear).1))
    (omega arith) journal lawful

-- ---- a key of a household or a dealer

abbrev key_count : List ℕ → Journal → ℕ
key_count key journal =
    length (filter (has_household_key key) (households_of journal)) + length (filter (has_dealer_key key) (dealers_of journal))

households-more : (key : List ℕ) (journal : Journal) (event : Event) → length (filter (has_household_key key) (households_of (with_event journal event))) ≡ length (filter (has_household_key key) (households_of journal)) + cond (option_map_or (has_household_key key) (household_in event.kind) false) 1 0
households-more key journal event =
    ap (λ forms. length (filter (has_household_key key) forms)) (filter_map-append (λ (e : Event). household_in e.kind) journal (event ∷ []))
    ∙ (ap length (filter-append (has_household_key key) (households_of journal) (cons_option (household_in event.kind) []))
    ∙ (length-append (filter (has_household_key key) (households_of journal)) (filter (has_household_key key) (cons_option (household_in event.kind) [])) ∙ ap (λ n. length (filter (has_household_key key) (households_of journal)) + n) (one-length (has_household_key key) (household_in event.kind))))

dealers-more : (key : List ℕ) (journal : Journal) (event : Event) → length (filter (has_dealer_key key) (dealers_of (with_event journal event))) ≡ length (filter (has_dealer_key key) (dealers_of journal)) + cond (option_map_or (has_dealer_key key) (dealer_in event.kind) false) 1 0
dealers-more key journal event =
    ap (λ forms. length (filter (has_dealer_key key) forms)) (filter_map-append (λ (e : Event). dealer_in e.kind) journal (event ∷ []))
    ∙ (ap length (filter-append (has_dealer_key key) (dealers_of journal) (cons_option (dealer_in event.kind) []))
    ∙ (length-append (filter (has_dealer_key key) (dealers_of journal)) (filter (has_dealer_key key) (cons_option (dealer_in event.kind) [])) ∙ ap (λ n. length (filter (has_dealer_key key) (dealers_of journal)) + n) (one-length (has_dealer_key key) (dealer_in event.kind))))

-- no event brings a household and a dealer
one_kind : (key : List ℕ) (kind : EventKind) → cond (option_map_or (has_household_key key) (household_in kind) false) 1 0 + cond (option_map_or (has_dealer_key key) (dealer_in kind) false) 1 0 ≤ 1
one_kind key (EventKind.Household form) = elim (has_household_key key form) as (λ b. cond b 1 0 + 0 ≤ 1) [ true ↦ omega arith | false ↦ omega arith ]
one_kind key (EventKind.Dealer form) = elim (has_dealer_key key form) as (λ b. 0 + cond b 1 0 ≤ 1) [ true ↦ omega arith | false ↦ omega arith ]
one_kind key _ = omega arith

key-more : (key : List ℕ) (journal : Journal) (event : Event) → IsBrought journal event → key_count key journal ≤ 1 → key_count key (with_event journal event) ≤ 1
key-more key journal event brought few =
    by_dealer (option_map_or (has_dealer_key key) (dealer_in event.kind) false) refl
  where
    free : key_taken (own_at journal event.moment brought.caller) (request_of event.kind) ≡ None
    free = key_free (own_at journal event.moment brought.caller) (request_of event.kind) brought.clear

    none-of : (list_any (has_household_key key) (households_of journal) || list_any (has_dealer_key key) (dealers_of journal)) ≡ false → key_count key journal ≡ 0
    none-of none =
        let parts = or_parts (list_any (has_household_key key) (households_of journal)) (list_any (has_dealer_key key) (dealers_of journal)) none in
        omega (arith, none_passes (has_household_key key) (households_of journal) parts.0, none_passes (has_dealer_key key) (dealers_of journal) parts.1)

    by_household : (has : Bool) → option_map_or (has_household_key key) (household_in event.kind) false ≡ has → option_map_or (has_dealer_key key) (dealer_in event.kind) false ≡ false → key_count key (with_event journal event) ≤ 1
    by_household true here away =
        omega (arith, households-more key journal event, dealers-more key journal event, one_kind key event.kind, none-of (household_key_new journal event.moment brought.caller key event.kind free here))
    by_household false here away =
        let one : cond (option_map_or (has_household_key key) (household_in event.kind) false) 1 0 ≡ 0 = ap {B = ℕ} (λ b. cond b 1 0) here in
        let other : cond (option_map_or (has_dealer_key key) (dealer_in event.kind) false) 1 0 ≡ 0 = ap {B = ℕ} (λ b. cond b 1 0) away in
        omega (arith, households-more key journal event, dealers-more key journal event, one, other, few)

    by_dealer : (has : Bool) → option_map_or (has_dealer_key key) (dealer_in event.kind) false ≡ has → key_count key (with_event journal event) ≤ 1
    by_dealer true here =
        omega (arith, households-more key journal event, dealers-more key journal event, one_kind key event.kind, none-of (dealer_key_new journal event.moment brought.caller key event.kind free here))
    by_dealer false here = by_household (option_map_or (has_household_key key) (household_in event.kind) false) refl here

pub no_key_twice : (journal : Journal) → IsLawful journal → NoKeyTwice journal
no_key_twice journal lawful key =
    lawful-keeps (λ known. key_count key known ≤ 1) (λ known event lawful_known brought few. key-more key known event brought few)
    (omega arith) journal lawful
