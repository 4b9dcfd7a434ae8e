-- An order is accepted with its due moment, and its reply says so.
use Rattle.std.proofs.Common.{Bool, Contains, List, None, Option, Some, [], ap, append-nil, arith, cond, false, filter, find, fold, is_none, is_some, length, map, min, not, option_map, option_to_list, refl, subst, suc, sym, true, unwrap_or, zero, ℕ, ⊎_elim, ◌&&◌, ◌++◌, ◌+◌, ◌==◌, ◌||◌, ◌∙◌, ◌∷◌, ◌≡◌}
use Rattle.std.proofs.lemmas.Bool.{and_from, and_parts, eqb-true, false_from_ne_true, not-false, or_parts, true≢false}
use Rattle.std.proofs.lemmas.Bool.Decides.{Decides-eqb}
use Rattle.std.proofs.lemmas.List.Elements.{Contains-append_cases, filter_map-append}
use Rattle.std.specs.Cmp.Lexicographic.{pointwise}
use Rattle.std.specs.List.{cons_option, list_all, list_any}
use Rattle.std.specs.Option.{option_map_or}
use Rattle.std.specs.Prelude.{nat_eq}
use Rattle.agent_events.specs.declared.request.LineForm.{LineForm}
use Rattle.agent_events.specs.Events.{Event, event_of, order_request, placed_by_dealer, placed_now, request_of}
use Rattle.agent_events.specs.declared.event.EventKind.{EventKind}
use Rattle.agent_events.specs.declared.event.Placed.{Placed}
use Rattle.agent_events.specs.declared.event.Source.{Source}
use Rattle.agent_events.specs.declared.order.Body.{Body}
use Rattle.agent_events.specs.declared.order.Order.{Order}
use Rattle.agent_events.specs.declared.order.OrderRow.{OrderRow}
use Rattle.agent_events.specs.declared.reply.Refusal.{Refusal}
use Rattle.agent_events.specs.declared.request.ClassForm.{ClassForm}
use Rattle.agent_events.specs.declared.request.Request.{Request}
use Rattle.class_terms.specs.Checking.{differs_in_family, least, lesser}
use Rattle.class_terms.specs.declared.form.TermsForm.{TermsForm}
use Rattle.forward_price.proofs.OrderlyFacts.{any_from}
use Rattle.forward_price.specs.PriceTables.{Table}
use Rattle.forward_price.specs.Turns.{due_of}
use Rattle.fund_calendar.proofs.LookUpLemmas.{list_any-find}
use Rattle.register_laws.proofs.NothingBefore.{begins_anew, last-brought}
use Rattle.register_laws.specs.OneEventMore.{orders_after}
use Rattle.register_machine.specs.pricing.CorrectedOrders.{orders_of}
use Rattle.register_laws.proofs.Choosing.{none_some, not_mapped, not_when, some_none}
use Rattle.register_laws.proofs.LawfulJournals.{lawful-keeps}
use Rattle.register_laws.proofs.NoIdentityTwice.{family_free, number_free}
use Rattle.register_laws.proofs.RulesByName.{not_broken}
use Rattle.register_laws.proofs.Runs.{table-one}
use Rattle.register_laws.specs.Identities.{is_class}
use Rattle.register_laws.specs.Lawful.{IsBrought, book_behind, own_at}
use Rattle.register_laws.specs.Priced.{FamiliesAgree, IsDueAsReplied, RepliesItsDueMoment, row_placed}
use Rattle.register_machine.specs.journal.Journals.{Journal, with_event}
use Rattle.register_machine.specs.journal.Kinds.{class_in, class_numbered, classes_of}
use Rattle.register_machine.specs.journal.Lawful.{IsLawful}
use Rattle.register_machine.specs.pricing.CorrectedBook.{Book, calendar_of, due_moment}
use Rattle.register_machine.specs.pricing.CorrectedOrders.{row_as_sent}
use Rattle.register_machine.specs.pricing.OrderClasses.{class_of, classes_in, target_of}
use Rattle.register_machine.specs.pricing.PublishedTable.{table_by, table_of}
use Rattle.agent_events.specs.declared.verdict.Caller.{Caller}
use Rattle.register_machine.specs.rules.InOrder.{Rule, broken_rule}
use Rattle.register_machine.specs.rules.NamedThings.{has_account, has_class, named_in_order}
use Rattle.register_machine.specs.rules.Orders.{calendar_ended, family_of, has_one_calendar, is_exchangeable, is_of_calendar, is_offered, not_offered}
use Rattle.register_machine.specs.rules.Situations.{Situation}
use Rattle.register_machine.specs.rules.Terms.{terms_of}
use Rattle.register_machine.specs.run.Replies.{reply_by}
use Rattle.register_machine.specs.run.Verdicts.{due_now}

-- ---- the classes of a family have one calendar

found-among : {X : Type 0} (p : X → Bool) (xs : List X) (x : X) → find p xs ≡ Some x → Contains xs x
found-among p [] x e = absurd (none_some e)
found-among {X = X} p (y ∷ ys) x e = by_first (p y) e (λ h. found-among p ys x h)
  where
    some_same : {a b : X} → Some a ≡ Some b → a ≡ b
    some_same h = cc

    by_first : (b : Bool) → cond b (Some y) (find p ys) ≡ Some x → (find p ys ≡ Some x → Contains ys x) → Contains (y ∷ ys) x
    by_first true h rest = (0, omega arith, some_same h)
    by_first false h rest = let there = rest h in (suc there.0, omega (arith, there.1), there.2)

-- no number is the least of none alone
some-least : (ns : List ℕ) (n : ℕ) → fold lesser (Some n) ns ≡ None → ⊥
some-least [] n e = some_none e
some-least (m ∷ ns) n e = some-least ns (min n m) e

none-least : {X : Type 0} (f : X → ℕ) (xs : List X) → least (map f xs) ≡ None → xs ≡ []
none-least f [] e = refl
none-least f (x ∷ xs) e = absurd (some-least (map f xs) (f x) e)

none-kept : {X : Type 0} (p : X → Bool) (xs : List X) (x : X) → filter p xs ≡ [] → Contains xs x → p x ≡ false
none-kept p [] x e (k, l, is) = absurd (omega arith)
none-kept {X = X} p (y ∷ ys) x e (zero, l, is) = by_first (p y) refl e
  where
    none : {z : X} {zs : List X} → z ∷ zs ≡ [] → ⊥
    none h = cc

    by_first : (b : Bool) → p y ≡ b → cond b (y ∷ filter p ys) (filter p ys) ≡ [] → p x ≡ false
    by_first true h e = absurd (none e)
    by_first false h e = subst (λ z. p z ≡ false) is h
none-kept {X = X} p (y ∷ ys) x e (suc k, l, is) = by_first (p y) e (λ h. none-kept p ys x h (k, omega arith, is))
  where
    none : {z : X} {zs : List X} → z ∷ zs ≡ [] → ⊥
    none h = cc

    by_first : (b : Bool) → cond b (y ∷ filter p ys) (filter p ys) ≡ [] → (filter p ys ≡ [] → p x ≡ false) → p x ≡ false
    by_first true e rest = absurd (none e)
    by_first false e rest = rest e

Contains-mapped : {X Y : Type 0} (f : X → Y) (xs : List X) (x : X) → Contains xs x → Contains (map f xs) (f x)
Contains-mapped f [] x (k, l, e) = absurd (omega arith)
Contains-mapped f (y ∷ ys) x (zero, l, e) = (0, omega arith, ap f e)
Contains-mapped f (y ∷ ys) x (suc k, l, e) =
    let rest = Contains-mapped f ys x (k, omega arith, e) in (suc rest.0, omega (arith, rest.1), rest.2)

-- a class that doesn't differ in its family has the family's calendar
same-calendar : (form other : TermsForm) → differs_in_family form other ≡ false → (form.family ≡ 0 → ⊥) → other.family ≡ form.family → (other.class == form.class) ≡ false → other.calendar ≡ form.calendar
same-calendar form other same some family differ =
    by_test (other.calendar == form.calendar) refl
  where
    not_none : (form.family == 0) ≡ false
    not_none = false_from_ne_true (form.family == 0) (λ e. some (eqb-true form.family 0 e))

    family_is : (other.family == form.family) ≡ true
    family_is = (Decides-eqb other.family form.family).1 family

    tests : (not (other.calendar == form.calendar) || not (pointwise nat_eq other.deferred form.deferred)) ≡ false
    tests = sym (rw (not_none, family_is, differ) refl) ∙ same

    by_test : (b : Bool) → (other.calendar == form.calendar) ≡ b → other.calendar ≡ form.calendar
    by_test true e = eqb-true other.calendar form.calendar e
    by_test false e =
        absurd (true≢false (sym (ap not e) ∙ (or_parts (not (other.calendar == form.calendar)) (not (pointwise nat_eq other.deferred form.deferred)) tests).0))

in-one : {X : Type 0} (x y : X) → Contains (x ∷ []) y → x ≡ y
in-one x y (zero, l, e) = e
in-one x y (suc k, l, e) = absurd (omega arith)

agree-push : (classes : List ClassForm) (form : ClassForm) → FamiliesAgree classes → ((a : ClassForm) → Contains classes a → a.family ≡ form.family → (form.family ≡ 0 → ⊥) → a.calendar ≡ form.calendar) → FamiliesAgree (classes ++ form ∷ [])
agree-push classes form agree new = record {
  each = λ a b ina inb family some.
      ⊎_elim
      (λ (a_old : Contains classes a). ⊎_elim
      (λ (b_old : Contains classes b). agree.each a b a_old b_old family some)
      (λ b_new. let is = in-one form b b_new in
      new a a_old (family ∙ ap (λ (c : ClassForm). c.family) (sym is)) (λ none. some (family ∙ (ap (λ (c : ClassForm). c.family) (sym is) ∙ none)))
      ∙ ap (λ (c : ClassForm). c.calendar) is)
      (Contains-append_cases classes (form ∷ []) b inb))
      (λ a_new. let is = in-one form a a_new in
      ⊎_elim
      (λ (b_old : Contains classes b).
      ap (λ (c : ClassForm). c.calendar) (sym is)
      ∙ sym (new b b_old (sym family ∙ ap (λ (c : ClassForm). c.family) (sym is)) (λ none. some (ap (λ (c : ClassForm). c.family) (sym is) ∙ none))))
      (λ b_new. ap (λ (c : ClassForm). c.calendar) (sym is ∙ in-one form b b_new))
      (Contains-append_cases classes (form ∷ []) b inb))
      (Contains-append_cases classes (form ∷ []) a ina);
}

agree-kind : (journal : Journal) (now : ℕ) (caller : Caller) (kind : EventKind) → broken_rule (own_at journal now caller) (request_of kind) ≡ None → FamiliesAgree (classes_of journal) → FamiliesAgree (classes_of journal ++ cons_option (class_in kind) [])
agree-kind journal now caller (EventKind.Class form) clear agree =
    agree-push (classes_of journal) form agree
    (λ a there family some.
    same-calendar (terms_of form) (terms_of a)
    (none-kept (differs_in_family (terms_of form)) (map terms_of (classes_of journal)) (terms_of a)
    (none-least (λ (other : TermsForm). other.class) (filter (differs_in_family (terms_of form)) (map terms_of (classes_of journal))) (family_free situation (Request.Class form) clear))
    (Contains-mapped terms_of (classes_of journal) a there))
    some family
    (false_from_ne_true (a.class == form.class)
    (λ same. true≢false
    (sym (any_from (is_class form.class) (classes_of journal) a there same)
    ∙ (list_any-find (is_class form.class) (classes_of journal)
    ∙ not_when (is_some (class_numbered (classes_of journal) form.class)) form.class (number_free situation (Request.Class form) clear))))))
  where
    situation : Situation
    situation = own_at journal now caller
agree-kind journal now caller kind clear agree = subst FamiliesAgree (sym (append-nil (classes_of journal))) agree

pub families_agree : (journal : Journal) → IsLawful journal → FamiliesAgree (classes_of journal)
families_agree =
    lawful-keeps (λ journal. FamiliesAgree (classes_of journal))
    (λ journal event lawful brought agree.
    subst FamiliesAgree (sym (filter_map-append (λ (e : Event). class_in e.kind) journal (event ∷ [])))
    (agree-kind journal event.moment brought.caller event.kind brought.clear agree))
    (record { each = λ a b ina inb family some. absurd (omega (arith, ina.1)) })

-- ---- the classes of an order have one calendar

known-class : (book : Book) (class : ℕ) → is_some (class_numbered book.classes class) ≡ true → (form : ClassForm) × (class_numbered book.classes class ≡ Some form)
known-class book class e = by_found (class_numbered book.classes class) refl e
  where
    by_found : (found : Option ClassForm) → class_numbered book.classes class ≡ found → is_some found ≡ true → (form : ClassForm) × (class_numbered book.classes class ≡ Some form)
    by_found None is h = absurd (true≢false (sym h))
    by_found (Some form) is h = (form, is)

of-calendar : (book : Book) (class to : ℕ) (a b : ClassForm) → class_numbered book.classes class ≡ Some a → class_numbered book.classes to ≡ Some b → a.calendar ≡ b.calendar → is_of_calendar book (calendar_of book class) to ≡ true
of-calendar book class to a b first second same =
    ap (λ found. option_map_or (λ own. option_map_or (λ other. other == own) (calendar_of book class) false) (option_map (λ (terms : ClassForm). terms.calendar) found) false) second
    ∙ (ap (λ found. option_map_or (λ other. other == b.calendar) (option_map (λ (terms : ClassForm). terms.calendar) found) false) first
    ∙ (Decides-eqb a.calendar b.calendar).1 same)

family-is : (book : Book) (class : ℕ) (a : ClassForm) → class_numbered book.classes class ≡ Some a → family_of book class ≡ a.family
family-is book class a e = ap (λ found. option_map_or (λ (terms : ClassForm). terms.family) found 0) e

-- an exchange that is offered is between classes of one family
offered-target : (book : Book) (body : Body) (to : ℕ) → is_offered book body ≡ true → target_of body ≡ Some to → is_exchangeable book (class_of body) to ≡ true
offered-target book (Body.Exchange class other mils) to offered is = subst (λ t. is_exchangeable book class t ≡ true) (some_is is) offered
  where
    some_is : Some other ≡ Some to → other ≡ to
    some_is h = cc
offered-target book (Body.ExchangeAll class other) to offered is = subst (λ t. is_exchangeable book class t ≡ true) (some_is is) offered
  where
    some_is : Some other ≡ Some to → other ≡ to
    some_is h = cc
offered-target book body to offered is = absurd (none_some is)

exchange-calendar : (book : Book) (class to : ℕ) (a b : ClassForm) → FamiliesAgree book.classes → class_numbered book.classes class ≡ Some a → class_numbered book.classes to ≡ Some b → is_exchangeable book class to ≡ true → a.calendar ≡ b.calendar
exchange-calendar book class to a b agree first second offered =
    let parts = and_parts (not (class == to)) (not (family_of book class == 0) && family_of book class == family_of book to) offered in
    let families = and_parts (not (family_of book class == 0)) (family_of book class == family_of book to) parts.1 in
    agree.each a b (found-among (λ (form : ClassForm). form.class == class) book.classes a first) (found-among (λ (form : ClassForm). form.class == to) book.classes b second)
    (sym (family-is book class a first) ∙ (eqb-true (family_of book class) (family_of book to) families.1 ∙ family-is book to b second))
    (λ none. true≢false (sym families.0 ∙ ap not ((Decides-eqb (family_of book class) 0).1 (family-is book class a first ∙ none))))

one-calendar : (book : Book) (body : Body) (target : Option ℕ) → target_of body ≡ target → FamiliesAgree book.classes → is_offered book body ≡ true → is_some (class_numbered book.classes (class_of body)) ≡ true → ((to : ℕ) → target ≡ Some to → is_some (class_numbered book.classes to) ≡ true) → list_all (is_of_calendar book (calendar_of book (class_of body))) (class_of body ∷ option_to_list target) ≡ true
one-calendar book body None is agree offered known targets =
    let a = known-class book (class_of body) known in
    and_from (is_of_calendar book (calendar_of book (class_of body)) (class_of body)) true
    (of-calendar book (class_of body) (class_of body) a.0 a.0 a.1 a.1 refl) refl
one-calendar book body (Some to) is agree offered known targets =
    let a = known-class book (class_of body) known in
    let b = known-class book to (targets to refl) in
    and_from (is_of_calendar book (calendar_of book (class_of body)) (class_of body)) (is_of_calendar book (calendar_of book (class_of body)) to && true)
    (of-calendar book (class_of body) (class_of body) a.0 a.0 a.1 a.1 refl)
    (and_from (is_of_calendar book (calendar_of book (class_of body)) to) true
    (of-calendar book (class_of body) to a.0 b.0 a.1 b.1 (exchange-calendar book (class_of body) to a.0 b.0 agree a.1 b.1 (offered-target book body to offered is))) refl)

-- ---- what an order names is there

names-classes : (situation : Situation) (first : ℕ) (order : Order) → option_map (λ (field : ℕ × Bool). Refusal.NoSuch field.0) (find (λ (field : ℕ × Bool). not field.1) (named_in_order situation first order)) ≡ None → (is_some (class_numbered situation.book.classes (class_of order.body)) ≡ true) × ((to : ℕ) → target_of order.body ≡ Some to → is_some (class_numbered situation.book.classes to) ≡ true)
names-classes situation first order clear =
    let fields = named_in_order situation first order in
    let absent = list_any-find (λ (field : ℕ × Bool). not field.1) fields ∙ ap is_some (not_mapped (λ (field : ℕ × Bool). Refusal.NoSuch field.0) (find (λ (field : ℕ × Bool). not field.1) fields) clear) in
    let targets = map (λ (to : ℕ). (first + 3, has_class situation to)) (option_to_list (target_of order.body)) in
    let parts = or_parts (not (has_account situation order.account)) (not (has_class situation (class_of order.body)) || list_any (λ (field : ℕ × Bool). not field.1) targets) absent in
    let rest = or_parts (not (has_class situation (class_of order.body))) (list_any (λ (field : ℕ × Bool). not field.1) targets) parts.1 in
    (not-false (has_class situation (class_of order.body)) rest.0, λ to is. target_there to (ap (λ t. list_any (λ (field : ℕ × Bool). not field.1) (map (λ (n : ℕ). (first + 3, has_class situation n)) (option_to_list t))) (sym is) ∙ rest.1))
  where
    target_there : (to : ℕ) → (not (has_class situation to) || false) ≡ false → has_class situation to ≡ true
    target_there to e = not-false (has_class situation to) (or_parts (not (has_class situation to)) false e).0

-- ---- so an order that is accepted is due

is-due : (book : Book) (row : OrderRow) → calendar_ended book row ≡ None → has_one_calendar book row.order.body ≡ true → (due : ℕ) × (due_moment book row ≡ Some due)
is-due book row clear one =
    by_due (due_moment book row) refl
    (sym (ap (λ b. b && is_none (due_moment book row)) one) ∙ not_when (has_one_calendar book row.order.body && is_none (due_moment book row)) Refusal.CalendarEnded clear)
  where
    by_due : (found : Option ℕ) → due_moment book row ≡ found → is_none found ≡ false → (due : ℕ) × (due_moment book row ≡ Some due)
    by_due None is e = absurd (true≢false e)
    by_due (Some due) is e = (due, is)

row-due : (first : ℕ) (situation : Situation) (row : OrderRow) → FamiliesAgree situation.book.classes → option_map (λ (field : ℕ × Bool). Refusal.NoSuch field.0) (find (λ (field : ℕ × Bool). not field.1) (named_in_order situation first row.order)) ≡ None → not_offered situation.book row ≡ None → calendar_ended situation.book row ≡ None → due_moment situation.book row ≡ Some (unwrap_or (due_moment situation.book row) 0)
row-due first situation row agree named offered ended =
    let there = names-classes situation first row.order named in
    let is = is-due situation.book row ended
    (one-calendar situation.book row.order.body (target_of row.order.body) refl agree
    (not-false (is_offered situation.book row.order.body) (not_when (not (is_offered situation.book row.order.body)) Refusal.NotOffered offered)) there.0 there.1) in
    is.1 ∙ ap Some (sym (ap (λ found. unwrap_or found 0) is.1))

pub placed-same : (a b : Placed) → Some (EventKind.Order a) ≡ Some (EventKind.Order b) → a ≡ b
placed-same a b e = cc

asked-due : (journal : Journal) (now : ℕ) (caller : Caller) (source : Source) (order : Order) (receipt due : ℕ) → FamiliesAgree (classes_of journal) → broken_rule (own_at journal now caller) (order_request source receipt order) ≡ None → event_of (order_request source receipt order) now (due_now (own_at journal now caller) (order_request source receipt order)) ≡ Some (EventKind.Order (record { order = order; source = source; receipt = receipt; due = due })) → due_moment (book_behind journal) (row_as_sent (length journal) receipt order) ≡ Some due
asked-due journal now caller Source.Direct order receipt due agree clear brings =
    let situation = own_at journal now caller in
    let request = Request.Order order in
    let row = row_as_sent (length journal) now order in
    let is = row-due 1 situation row agree (not_broken situation request clear Rule.NoSuch) (not_broken situation request clear Rule.NotOffered) (not_broken situation request clear Rule.CalendarEnded) in
    let same = placed-same (placed_now order now (due_now situation request)) (record { order = order; source = Source.Direct; receipt = receipt; due = due }) brings in
    subst (λ at. due_moment (book_behind journal) (row_as_sent (length journal) at order) ≡ Some due) (ap (λ (placed : Placed). placed.receipt) same)
    (is ∙ ap (λ (placed : Placed). Some placed.due) same)
asked-due journal now caller Source.Dealer order receipt due agree clear brings =
    let situation = own_at journal now caller in
    let line : LineForm = record { receipt = receipt; order = order } in
    let request = Request.Line line in
    let row = row_as_sent (length journal) receipt order in
    let is = row-due 3 situation row agree (not_broken situation request clear Rule.NoSuch) (not_broken situation request clear Rule.NotOffered) (not_broken situation request clear Rule.CalendarEnded) in
    let same = placed-same (placed_by_dealer line (due_now situation request)) (record { order = order; source = Source.Dealer; receipt = receipt; due = due }) brings in
    is ∙ ap (λ (placed : Placed). Some placed.due) same

due_replied : (journal : Journal) (event : Event) → IsLawful (with_event journal event) → (placed : Placed) → event.kind ≡ EventKind.Order placed → IsDueAsReplied journal placed event
due_replied journal event lawful placed e = record {
  due = due;
  replied = ap (reply_by (table_of journal) journal event) e;
  stands = (begins_anew journal event lawful).orders ∙ ap (orders_after (length journal) (orders_of journal)) e;
  still_due = ap (λ (t : Table). due_of t (classes_in placed.order.body) placed.receipt) (table-one journal event ∙ ap (table_by (table_of journal) event.moment) e) ∙ due;
}
  where
    last : IsLawful journal × IsBrought journal event
    last = last-brought journal event lawful

    due : due_moment (book_behind journal) (row_placed journal placed) ≡ Some placed.due
    due =
        asked-due journal event.moment last.1.caller placed.source placed.order placed.receipt placed.due (families_agree journal last.0)
        (subst (λ kind. broken_rule (own_at journal event.moment last.1.caller) (request_of kind) ≡ None) e last.1.clear)
        (subst (λ kind. event_of (request_of kind) event.moment (due_now (own_at journal event.moment last.1.caller) (request_of kind)) ≡ Some kind) e last.1.brings)

pub orders_are_due_as_replied : (journal : Journal) (event : Event) → IsLawful (with_event journal event) → RepliesItsDueMoment journal event
orders_are_due_as_replied journal event lawful = record { of_order = due_replied journal event lawful }
