-- Which events of a lawful journal fit a stored row: the loads of a class are few, and a sheet whose prices rise lists at most as
-- many classes as there are.
use Rattle.std.proofs.lemmas.Bool.{leb-true}
use Rattle.std.proofs.lemmas.List.Sums.{count_by-le-length}
use Rattle.std.proofs.Common.{Bool, List, None, Option, Some, [], ap, arith, cond, false, filter, is_none, length, map, nat_le, nat_lt, not, option_map, option_to_list, refl, subst, sym, true, ℕ, ◌&&◌, ◌+◌, ◌<◌, ◌==◌, ◌||◌, ◌∙◌, ◌∷◌, ◌≡◌, ◌≤◌}
use Rattle.std.proofs.lemmas.Bool.{and_parts, eq-eqb, eqb-true, le-leb, ltb-true, true≢false}
use Rattle.std.proofs.lemmas.List.Folds.{list_all-append}
use Rattle.std.proofs.lemmas.List.Sums.{length-filter}
use Rattle.std.specs.List.{AllByRecursion, list_all, list_any}
use Rattle.std.specs.Option.{option_or}
use Rattle.agent_events.specs.Events.{Event, fits_count, fits_row, request_of}
use Rattle.agent_events.specs.Fields.{are_rising, each, is_rising, prices, rises_above}
use Rattle.agent_events.specs.declared.event.EventKind.{EventKind}
use Rattle.agent_events.specs.declared.request.ClassForm.{ClassForm}
use Rattle.agent_events.specs.declared.request.Request.{Request}
use Rattle.agent_events.specs.declared.request.SheetForm.{SheetForm}
use Rattle.class_terms.specs.Checking.{family_fault}
use Rattle.class_terms.specs.Tables.{breaks_schedule, breaks_table, deferred_fault, first_broken, front_fault}
use Rattle.class_terms.specs.declared.faults.TermFault.{TermFault}
use Rattle.class_terms.specs.declared.lists.Bracket.{Bracket}
use Rattle.forward_price.specs.PriceTables.{Table}
use Rattle.forward_price.specs.Sheets.{lists_class}
use Rattle.register_laws.proofs.Choosing.{AllClear, all_clear, some_none}
use Rattle.register_laws.proofs.KeepsLimits.{keeps_its_limits}
use Rattle.register_laws.proofs.LawfulJournals.{brought, lawful-keeps}
use Rattle.register_laws.proofs.NothingBefore.{all-named, last-brought}
use Rattle.register_laws.proofs.OneEventMore.{gathers-on}
use Rattle.register_laws.proofs.PricesAnew.{is_of, sheet-complete}
use Rattle.register_laws.proofs.RulesByName.{not_broken}
use Rattle.register_laws.proofs.Tests.{any-with, is-false, late-true}
use Rattle.register_laws.specs.Identities.{is_class}
use Rattle.register_laws.specs.Lawful.{IsBrought, own_at}
use Rattle.register_laws.specs.LawfulLimits.{ClassesHaveGoodLoads, HasShortLists, LawfulFitsRow, LawfulHasShortLists, LawfulNamesWhatStands, has_good_loads, has_list_forms}
use Rattle.register_machine.specs.journal.Choices.{first_some}
use Rattle.register_machine.specs.journal.Journals.{Journal}
use Rattle.register_machine.specs.journal.Kinds.{class_in, classes_of}
use Rattle.register_machine.specs.journal.Lawful.{IsLawful}
use Rattle.register_machine.specs.pricing.PublishedTable.{table_of}
use Rattle.agent_events.specs.declared.verdict.Caller.{Caller}
use Rattle.register_machine.specs.rules.InOrder.{Rule, broken_rule, first_rules}
use Rattle.register_machine.specs.rules.NamedThings.{things_named}
use Rattle.register_machine.specs.rules.Situations.{Situation, situation_at}
use Rattle.register_machine.specs.rules.Terms.{bad_terms, terms_of, terms_place}
use Rattle.class_terms.specs.declared.faults.TermFault.TheVariants as fault

-- ---- the loads of a class

good-loads : (situation : Situation) (form : ClassForm) → bad_terms situation (Request.Class form) ≡ None → (front_fault form.front ≡ None) × (deferred_fault form.deferred ≡ None)
good-loads situation form good =
    by_front (front_fault form.front) (deferred_fault form.deferred) (option_map fault.FamilyDiffers (family_fault (terms_of form) (map terms_of situation.book.classes))) good
  where
    by_front : (front deferred : Option ℕ) (family : Option TermFault) → terms_place (option_or (option_map fault.BadFront front) (option_or (option_map fault.BadDeferred deferred) family)) ≡ None → (front ≡ None) × (deferred ≡ None)
    by_front None None family e = (refl, refl)
    by_front None (Some row) family e = absurd (some_none e)
    by_front (Some row) deferred family e = absurd (some_none e)

few-rows : (rows : List Bracket) → front_fault rows ≡ None → length rows ≤ 16
few-rows rows e = by_few (nat_le 1 (length rows) && nat_le (length rows) 16) refl e
  where
    by_few : (few : Bool) → (nat_le 1 (length rows) && nat_le (length rows) 16) ≡ few → cond few (first_broken breaks_table 0 None rows) (Some 0) ≡ None → length rows ≤ 16
    by_few true is h = leb-true (length rows) 16 (and_parts (nat_le 1 (length rows)) (nat_le (length rows) 16) is).1
    by_few false is h = absurd (some_none h)

few-rates : (schedule : List ℕ) → deferred_fault schedule ≡ None → length schedule ≤ 10
few-rates schedule e = by_few (nat_le (length schedule) 10) refl e
  where
    by_few : (few : Bool) → nat_le (length schedule) 10 ≡ few → cond few (first_broken breaks_schedule 0 None schedule) (Some 0) ≡ None → length schedule ≤ 10
    by_few true is h = leb-true (length schedule) 10 is
    by_few false is h = absurd (some_none h)

class-loads : (journal : Journal) (event : Event) (form : ClassForm) → IsBrought journal event → event.kind ≡ EventKind.Class form → (front_fault form.front ≡ None) × (deferred_fault form.deferred ≡ None)
unfolding AllClear
class-loads journal event form brought is =
    good-loads (own_at journal event.moment brought.caller) form
    (all_clear (first_rules (own_at journal event.moment brought.caller) (Request.Class form))
    (subst (λ kind. first_some (first_rules (own_at journal event.moment brought.caller) (request_of kind)) ≡ None) is brought.allowed)).1.0

-- ---- the classes of a sheet

-- without the forms of one class there is at least one less
fewer : (class : ℕ) (forms : List ClassForm) → list_any (is_class class) forms ≡ true → length (filter (λ form. not (form.class == class)) forms) + 1 ≤ length forms
fewer class [] e = absurd (true≢false (sym e))
fewer class (form ∷ forms) e = by_class (form.class == class) e (fewer class forms)
  where
    by_class : (is : Bool) → (is || list_any (is_class class) forms) ≡ true → (list_any (is_class class) forms ≡ true → length (filter (λ f. not (f.class == class)) forms) + 1 ≤ length forms) → length (cond (not is) (form ∷ filter (λ f. not (f.class == class)) forms) (filter (λ f. not (f.class == class)) forms)) + 1 ≤ length (form ∷ forms)
    by_class true h later = let all = length-filter {X = ClassForm} (λ f. not (f.class == class)) forms in let most = count_by-le-length {X = ClassForm} (λ f. not (f.class == class)) forms in omega (arith, all, most)
    by_class false h later = let rest = later h in omega (arith, rest)

-- another class is still there
still : (class other : ℕ) (forms : List ClassForm) → (other == class) ≡ false → list_any (is_class other) forms ≡ true → list_any (is_class other) (filter (λ form. not (form.class == class)) forms) ≡ true
still class other [] apart e = absurd (true≢false (sym e))
still class other (form ∷ forms) apart e = by_class (form.class == class) refl (form.class == other) refl e (still class other forms apart)
  where
    by_class : (is : Bool) → (form.class == class) ≡ is → (own : Bool) → (form.class == other) ≡ own → (own || list_any (is_class other) forms) ≡ true → (list_any (is_class other) forms ≡ true → list_any (is_class other) (filter (λ f. not (f.class == class)) forms) ≡ true) → list_any (is_class other) (cond (not is) (form ∷ filter (λ f. not (f.class == class)) forms) (filter (λ f. not (f.class == class)) forms)) ≡ true
    by_class true is true own h later =
        absurd
        (true≢false
        (sym (eq-eqb other class (sym (eqb-true form.class other own) ∙ eqb-true form.class class is)) ∙ apart))
    by_class true is false own h later = later h
    by_class false is true own h later = ap (λ b. b || list_any (is_class other) (filter (λ f. not (f.class == class)) forms)) own
    by_class false is false own h later =
        ap (λ b. form.class == other || b) (later h) ∙ late-true (form.class == other)

-- prices that rise are of classes above
above : (low : ℕ) (prices : List (ℕ × ℕ)) (class : ℕ) → rises_above low prices ≡ true → lists_class prices class ≡ true → low < class
above low [] class rises lists = absurd (true≢false (sym lists))
above low (price ∷ prices) class rises lists =
    by_class (price.0 == class) refl lists (above price.0 prices class parts.1)
  where
    parts : (nat_lt low price.0 ≡ true) × (rises_above price.0 prices ≡ true)
    parts = and_parts (nat_lt low price.0) (rises_above price.0 prices) rises

    first : low < price.0
    first = ltb-true low price.0 parts.0

    by_class : (is : Bool) → (price.0 == class) ≡ is → (is || lists_class prices class) ≡ true → (lists_class prices class ≡ true → price.0 < class) → low < class
    by_class true is h later = let same = eqb-true price.0 class is in omega (arith, first, same)
    by_class false is h later = let more = later h in omega (arith, first, more)

-- so there are at most as many as there are classes
as-many : (low : ℕ) (prices : List (ℕ × ℕ)) (forms : List ClassForm) → rises_above low prices ≡ true → ((class : ℕ) → lists_class prices class ≡ true → list_any (is_class class) forms ≡ true) → length prices ≤ length forms
as-many low [] forms rises each = omega arith
as-many low (price ∷ prices) forms rises each =
    let rest = as-many price.0 prices (filter (λ form. not (form.class == price.0)) forms) parts.1 others in
    let less = fewer price.0 forms (each price.0 own) in
    omega (arith, rest, less)
  where
    parts : (nat_lt low price.0 ≡ true) × (rises_above price.0 prices ≡ true)
    parts = and_parts (nat_lt low price.0) (rises_above price.0 prices) rises

    own : lists_class (price ∷ prices) price.0 ≡ true
    own = ap (λ b. b || lists_class prices price.0) (eq-eqb price.0 price.0 refl)

    others : (class : ℕ) → lists_class prices class ≡ true → list_any (is_class class) (filter (λ form. not (form.class == price.0)) forms) ≡ true
    others class lists =
        still price.0 class forms
        (is-false (class == price.0) (λ same. wrong (above price.0 prices class parts.1 lists) (eqb-true class price.0 same)))
        (each class (ap (λ b. price.0 == class || b) lists ∙ late-true (price.0 == class)))
      where
        wrong : price.0 < class → class ≡ price.0 → ⊥
        wrong more same = omega (arith, more, same)

listed-classes : (journal : Journal) (now : ℕ) (caller : Caller) (form : SheetForm) → IsLawful journal → broken_rule (own_at journal now caller) (Request.Sheet form) ≡ None → is_rising form.prices ≡ true → length form.prices ≤ length (classes_of journal)
listed-classes journal now caller form lawful clear rises =
    as-many 0 form.prices (classes_of journal) rises
    (λ class lists.
    let found = any-with (is_of class form.calendar) (classes_of journal) (sheet-complete journal now caller form class lawful clear lists) in
    found.2 (is_class class) (and_parts (found.0.class == class) (found.0.calendar == form.calendar) found.1).0)

short-lists : (journal : Journal) (event : Event) → IsLawful journal → IsBrought journal event → HasShortLists journal event.kind
short-lists journal event lawful brought = record {
  prices = λ form is rises.
      listed-classes journal event.moment brought.caller form lawful
      (subst (λ kind. broken_rule (own_at journal event.moment brought.caller) (request_of kind) ≡ None) is brought.clear) rises;
  front = λ form is. few-rows form.front (class-loads journal event form brought is).0;
  deferred = λ form is. few-rates form.deferred (class-loads journal event form brought is).1;
}

pub has_short_lists : (journal : Journal) (event : Event) → LawfulHasShortLists journal event
has_short_lists journal event all =
    let last = last-brought journal event all in short-lists journal event last.0 last.1

-- ---- so it fits

fits : {X : Type 0} (items : List X) (most : ℕ) → length items ≤ most → most ≤ 65535 → fits_count items ≡ true
fits items most few fit = le-leb (length items) 65535 (omega (arith, few, fit))

fits-by : (classes : List ClassForm) (kind : EventKind) → length classes ≤ 1000 → ((form : SheetForm) → kind ≡ EventKind.Sheet form → is_rising form.prices ≡ true → length form.prices ≤ length classes) → ((form : ClassForm) → kind ≡ EventKind.Class form → (length form.front ≤ 16) × (length form.deferred ≤ 10)) → has_list_forms kind ≡ true → fits_row kind ≡ true
fits-by classes (EventKind.Calendar form) most prices loads forms =
    fits form.holidays 3660 (leb-true (length form.holidays) 3660 (and_parts (nat_le (length form.holidays) 3660) (are_rising form.holidays) forms).0) (omega arith)
fits-by classes (EventKind.Class form) most prices loads forms =
    let few = loads form refl in
    ap (λ b. b && fits_count form.deferred) (fits form.front 16 few.0 (omega arith)) ∙ fits form.deferred 10 few.1 (omega arith)
fits-by classes (EventKind.Sheet form) most prices loads forms =
    fits form.prices (length classes) (prices form refl forms) (omega (arith, most))
fits-by classes _ most prices loads forms = refl

-- an event whose request is allowed and breaks no rule behind a lawful journal
pub fits_allowed : (journal : Journal) (now : ℕ) (caller : Caller) (kind : EventKind) → IsLawful journal → first_some (first_rules (own_at journal now caller) (request_of kind)) ≡ None → broken_rule (own_at journal now caller) (request_of kind) ≡ None → has_list_forms kind ≡ true → fits_row kind ≡ true
unfolding AllClear
fits_allowed journal now caller kind lawful allowed clear forms =
    fits-by (classes_of journal) kind (keeps_its_limits journal lawful).classes
    (λ form is rises. listed-classes journal now caller form lawful (subst (λ k. broken_rule (own_at journal now caller) (request_of k) ≡ None) is clear) rises)
    (λ form is.
    let good = good-loads (own_at journal now caller) form (all_clear (first_rules (own_at journal now caller) (Request.Class form)) (subst (λ k. first_some (first_rules (own_at journal now caller) (request_of k)) ≡ None) is allowed)).1.0 in
    (few-rows form.front good.0, few-rates form.deferred good.1))
    forms

pub fits-brought : (journal : Journal) (event : Event) → IsLawful journal → IsBrought journal event → has_list_forms event.kind ≡ true → fits_row event.kind ≡ true
fits-brought journal event lawful brought forms =
    let short = short-lists journal event lawful brought in
    fits-by (classes_of journal) event.kind (keeps_its_limits journal lawful).classes short.prices
    (λ form is. (short.front form is, short.deferred form is)) forms

pub fits_a_row : (journal : Journal) (event : Event) → LawfulFitsRow journal event
fits_a_row journal event all forms =
    let last = last-brought journal event all in fits-brought journal event last.0 last.1 forms

-- ---- the loads of every class

loads-by : (journal : Journal) (event : Event) (kind : EventKind) → event.kind ≡ kind → IsBrought journal event → list_all has_good_loads (option_to_list (class_in kind)) ≡ true
loads-by journal event (EventKind.Class form) is brought =
    let good = class-loads journal event form brought is in
    ap (λ front. (is_none front && is_none (deferred_fault form.deferred)) && true) good.0
    ∙ ap (λ deferred. is_none deferred && true) good.1
loads-by journal event _ is brought = refl

pub classes_have_good_loads : (journal : Journal) → IsLawful journal → ClassesHaveGoodLoads journal
classes_have_good_loads journal lawful =
    lawful-keeps ClassesHaveGoodLoads
    (λ known event before brought good.
    ap (list_all has_good_loads) (gathers-on class_in known event)
    ∙ (list_all-append has_good_loads (classes_of known) (option_to_list (class_in event.kind))
    ∙ (ap (λ b. b && list_all has_good_loads (option_to_list (class_in event.kind))) good ∙ loads-by known event event.kind refl brought)))
    refl journal lawful

-- ---- what an event names

named-alike : (table : Table) (journal : Journal) (now : ℕ) (one other : Caller) (request : Request) → things_named (situation_at table journal now one) request ≡ things_named (situation_at table journal now other) request
named-alike table journal now one other (Request.Line line) = refl
named-alike table journal now one other _ = refl

all-there : (things : List (ℕ × Bool)) → AllByRecursion (λ (field : ℕ × Bool). field.1 ≡ true) things → list_all (λ (field : ℕ × Bool). field.1) things ≡ true
all-there [] all = refl
all-there (thing ∷ things) all = ap (λ b. b && list_all (λ (field : ℕ × Bool). field.1) things) all.0 ∙ all-there things all.1

pub names_what_stands : (journal : Journal) (event : Event) → LawfulNamesWhatStands journal event
names_what_stands journal event all =
    let last = last-brought journal event all in
    let situation = own_at journal event.moment last.1.caller in
    ap (list_all (λ (field : ℕ × Bool). field.1)) (named-alike (table_of journal) journal event.moment Caller.Operator last.1.caller (request_of event.kind))
    ∙ all-there (things_named situation (request_of event.kind))
    (all-named (things_named situation (request_of event.kind)) (not_broken situation (request_of event.kind) last.1.clear Rule.NoSuch))
