-- Every order that a lawful journal begins is new to its strikes and replacements, and every account that it opens to its events.
use Rattle.register_machine.specs.pricing.CorrectedOrders.{is_named}
use Rattle.std.proofs.Common.{Bool, List, None, Option, Some, [], ap, append-nil, append_assoc, cond, false, find, is_some, not, option_map, option_to_list, refl, subst, sym, true, ℕ, ◌&&◌, ◌++◌, ◌+◌, ◌==◌, ◌||◌, ◌∙◌, ◌∷◌, ◌≡◌, filter}
use Rattle.std.proofs.lemmas.Bool.{and_parts, eqb-true, or_parts, true≢false}
use Rattle.std.proofs.lemmas.List.Folds.{list_any-append}
use Rattle.std.specs.List.{AllByRecursion, list_any}
use Rattle.std.specs.Option.{option_map_or}
use Rattle.agent_events.specs.Events.{Event, order_request, request_of}
use Rattle.agent_events.specs.declared.event.EventKind.{EventKind}
use Rattle.agent_events.specs.declared.event.Source.{Source}
use Rattle.agent_events.specs.declared.order.Order.{Order}
use Rattle.agent_events.specs.declared.reply.Refusal.{Refusal}
use Rattle.agent_events.specs.declared.request.EntryForm.{EntryForm}
use Rattle.agent_events.specs.declared.request.Request.{Request}
use Rattle.register_laws.proofs.Choosing.{not_when, some_none}
use Rattle.register_laws.proofs.LawfulJournals.{brought, lawful-before, lawful-keeps}
use Rattle.register_laws.proofs.NoIdentityTwice.{number_free}
use Rattle.register_laws.proofs.OneEventMore.{gathers-on}
use Rattle.register_laws.proofs.OrdersGoOn.{corrected-alike, orders_go_on}
use Rattle.register_laws.proofs.RulesByName.{not_broken}
use Rattle.register_laws.proofs.Tests.{any-front, any-of-map, find-any, is-false, late-true}
use Rattle.register_laws.proofs.ViewsGoOn.{view-by}
use Rattle.register_laws.specs.Identities.{has_number}
use Rattle.register_laws.specs.Lawful.{IsBrought, own_at}
use Rattle.register_laws.specs.OneEventMore.{LawfulBeginsAnew, account_named, begins_untouched, is_about, is_untouched, opens_untouched}
use Rattle.register_machine.specs.journal.Journals.{Journal, with_event}
use Rattle.register_machine.specs.journal.Kinds.{account_in, account_numbered, accounts_of, each_in, replacement_in}
use Rattle.register_machine.specs.journal.Lawful.{AllFollow, Follows, IsLawful}
use Rattle.register_machine.specs.pricing.CorrectedOrders.{is_struck, order_begun, order_named, orders_begun, orders_of, replaces, row_as_corrected, row_as_sent, struck_in}
use Rattle.agent_events.specs.declared.verdict.Caller.{Caller}
use Rattle.register_machine.specs.rules.Identities.{brings_reference, fix_of, has_fix, has_reference, ref_used, reference_of}
use Rattle.register_machine.specs.rules.InOrder.{Rule}
use Rattle.register_machine.specs.rules.NamedThings.{has_account, has_order, none_such, things_named}
use Rattle.register_machine.specs.rules.Situations.{Situation}
use Rattle.register_machine.specs.rules.Standing.{number_taken}
use Rattle.register_machine.specs.journal.Views.{is_seen_by}

-- ---- what is named is there

pub all-named : (things : List (ℕ × Bool)) → option_map (λ (field : ℕ × Bool). Refusal.NoSuch field.0) (find (λ (field : ℕ × Bool). not field.1) things) ≡ None → AllByRecursion (λ (field : ℕ × Bool). field.1 ≡ true) things
all-named [] e = tt
all-named (thing ∷ things) e = by_thing thing.1 refl (all-named things) e
  where
    by_thing : (there : Bool) → thing.1 ≡ there → (option_map (λ (field : ℕ × Bool). Refusal.NoSuch field.0) (find (λ (field : ℕ × Bool). not field.1) things) ≡ None → AllByRecursion (λ (field : ℕ × Bool). field.1 ≡ true) things) → option_map (λ (field : ℕ × Bool). Refusal.NoSuch field.0) (cond (not there) (Some thing) (find (λ (field : ℕ × Bool). not field.1) things)) ≡ None → AllByRecursion (λ (field : ℕ × Bool). field.1 ≡ true) (thing ∷ things)
    by_thing true is later h = (is, later h)
    by_thing false is later h = absurd (some_none h)

account-there : (situation : Situation) (kind : EventKind) → none_such situation (request_of kind) ≡ None → option_map_or (has_account situation) (account_named kind) true ≡ true
account-there situation (EventKind.Order placed) named = by_source placed.source named
  where
    by_source : (from : Source) → none_such situation (order_request from placed.receipt placed.order) ≡ None → has_account situation placed.order.account ≡ true
    by_source Source.Direct h = (all-named (things_named situation (Request.Order placed.order)) h).0
    by_source Source.Dealer h =
        (all-named (things_named situation (Request.Line (record { receipt = placed.receipt; order = placed.order }))) h).0
account-there situation (EventKind.Cancel form) named = (all-named (things_named situation (Request.Cancel form)) named).0
account-there situation (EventKind.Enter form) named = (all-named (things_named situation (Request.Enter form)) named).1.0
account-there situation (EventKind.Replace form) named = (all-named (things_named situation (Request.Replace form)) named).1.0
account-there situation (EventKind.Void form) named = (all-named (things_named situation (Request.Void form)) named).1.0
account-there situation _ named = refl

-- the order that a cancel, a void or a replacement is about
pub order_changed : EventKind → Option (ℕ × ℕ)
order_changed (EventKind.Cancel form) = Some (form.account, form.target)
order_changed (EventKind.Void form) = Some (form.account, form.ref_no)
order_changed (EventKind.Replace form) = Some (form.order.account, form.order.ref_no)
order_changed _ = None

order-there : (situation : Situation) (kind : EventKind) → none_such situation (request_of kind) ≡ None → option_map_or (λ named. has_order situation named.0 named.1) (order_changed kind) true ≡ true
unfolding order_changed
order-there situation (EventKind.Cancel form) named = (all-named (things_named situation (Request.Cancel form)) named).1.0
order-there situation (EventKind.Replace form) named = (all-named (things_named situation (Request.Replace form)) named).1.1.0
order-there situation (EventKind.Void form) named = (all-named (things_named situation (Request.Void form)) named).1.1.0
order-there situation _ named = refl

-- ---- accounts

-- an event is about accounts that were opened before it
AboutOpened : Journal → Type 0
AboutOpened journal = (number : ℕ) → list_any (has_number number) (accounts_of journal) ≡ false → list_any (is_about number) journal ≡ false

about-more : (journal : Journal) (event : Event) → IsLawful journal → IsBrought journal event → AboutOpened journal → AboutOpened (with_event journal event)
unfolding AboutOpened
about-more journal event lawful brought about number closed =
    list_any-append (is_about number) journal (event ∷ [])
    ∙ (ap (λ b. b || list_any (is_about number) (event ∷ [])) (about number before)
    ∙ ap (λ b. b || false) (by_account (account_named event.kind) (account-there situation event.kind (not_broken situation (request_of event.kind) brought.clear Rule.NoSuch))))
  where
    situation : Situation
    situation = own_at journal event.moment brought.caller

    before : list_any (has_number number) (accounts_of journal) ≡ false
    before =
        (any-front (has_number number) (accounts_of journal) (option_to_list (account_in event.kind))
        (ap (list_any (has_number number)) (sym (gathers-on account_in journal event)) ∙ closed)).0

    by_account : (found : Option ℕ) → option_map_or (has_account (own_at journal event.moment brought.caller)) found true ≡ true → option_map_or (λ own. own == number) found false ≡ false
    by_account None there = refl
    by_account (Some own) there = is-false (own == number) wrong
      where
        wrong : (own == number) ≡ true → ⊥
        wrong same =
            true≢false
            (sym there
            ∙ (ap (λ n. is_some (account_numbered (accounts_of journal) n)) (eqb-true own number same)
            ∙ (find-any (has_number number) (accounts_of journal) ∙ before)))

pub about_opened : (journal : Journal) → IsLawful journal → (number : ℕ) → list_any (has_number number) (accounts_of journal) ≡ false → list_any (is_about number) journal ≡ false
unfolding AboutOpened
about_opened journal lawful = lawful-keeps AboutOpened about-more (λ number closed. refl) journal lawful

opens-by : (journal : Journal) (now : ℕ) (caller : Caller) (kind : EventKind) → IsLawful journal → number_taken (own_at journal now caller) (request_of kind) ≡ None → opens_untouched journal kind ≡ true
opens-by journal now caller (EventKind.Account form) lawful free =
    ap not
    (about_opened journal lawful form.account
    (sym (find-any (has_number form.account) (accounts_of journal))
    ∙ not_when (has_account (own_at journal now caller) form.account) form.account free))
opens-by journal now caller _ lawful free = refl

-- ---- orders

-- an order in the corrected book was brought by an event
begun-brings : (strikes : List (ℕ × ℕ)) (forms : List EntryForm) (account ref_no place : ℕ) (kind : EventKind) (moment : ℕ) → list_any (λ row. is_named account ref_no (row_as_corrected strikes forms row).order) (option_to_list (order_begun place kind)) ≡ true → brings_reference (account, ref_no) (record { moment = moment; kind = kind }) ≡ true
begun-brings strikes forms account ref_no place (EventKind.Order placed) moment e = by_source placed.source
  where
    same : is_named account ref_no placed.order ≡ true
    same = by_alike (corrected-alike strikes forms (row_as_sent place placed.receipt placed.order)) (is_named account ref_no (row_as_corrected strikes forms (row_as_sent place placed.receipt placed.order)).order) refl e
      where
        by_alike : ((row_as_corrected strikes forms (row_as_sent place placed.receipt placed.order)).order.account ≡ placed.order.account) × ((row_as_corrected strikes forms (row_as_sent place placed.receipt placed.order)).order.ref_no ≡ placed.order.ref_no) → (b : Bool) → is_named account ref_no (row_as_corrected strikes forms (row_as_sent place placed.receipt placed.order)).order ≡ b → (b || false) ≡ true → is_named account ref_no placed.order ≡ true
        by_alike alike true is h =
            ap (λ a. a == account && placed.order.ref_no == ref_no) (sym alike.0)
            ∙ (ap (λ r. (row_as_corrected strikes forms (row_as_sent place placed.receipt placed.order)).order.account == account && r == ref_no) (sym alike.1) ∙ is)
        by_alike alike false is h = absurd (true≢false (sym h))

    by_source : (from : Source) → option_map_or (λ other. other.0 == account && other.1 == ref_no) (reference_of (order_request from placed.receipt placed.order)) false ≡ true
    by_source Source.Direct = same
    by_source Source.Dealer = same
begun-brings strikes forms account ref_no place (EventKind.Enter form) moment e =
    by_alike (corrected-alike strikes forms (row_as_sent place form.receipt form.order)) (is_named account ref_no (row_as_corrected strikes forms (row_as_sent place form.receipt form.order)).order) refl e
  where
    by_alike : ((row_as_corrected strikes forms (row_as_sent place form.receipt form.order)).order.account ≡ form.order.account) × ((row_as_corrected strikes forms (row_as_sent place form.receipt form.order)).order.ref_no ≡ form.order.ref_no) → (b : Bool) → is_named account ref_no (row_as_corrected strikes forms (row_as_sent place form.receipt form.order)).order ≡ b → (b || false) ≡ true → is_named account ref_no form.order ≡ true
    by_alike alike true is h =
        ap (λ a. a == account && form.order.ref_no == ref_no) (sym alike.0)
        ∙ (ap (λ r. (row_as_corrected strikes forms (row_as_sent place form.receipt form.order)).order.account == account && r == ref_no) (sym alike.1) ∙ is)
    by_alike alike false is h = absurd (true≢false (sym h))
begun-brings strikes forms account ref_no place _ moment e = absurd (true≢false (sym e))

known-begun : (strikes : List (ℕ × ℕ)) (forms : List EntryForm) (account ref_no place : ℕ) (journal : Journal) → list_any (λ row. is_named account ref_no (row_as_corrected strikes forms row).order) (orders_begun place journal) ≡ true → list_any (brings_reference (account, ref_no)) journal ≡ true
known-begun strikes forms account ref_no place [] e = e
known-begun strikes forms account ref_no place (event ∷ later) e =
    by_first (list_any (λ row. is_named account ref_no (row_as_corrected strikes forms row).order) (option_to_list (order_begun place event.kind))) refl
    (sym (list_any-append (λ row. is_named account ref_no (row_as_corrected strikes forms row).order) (option_to_list (order_begun place event.kind)) (orders_begun (place + 1) later)) ∙ e)
    (known-begun strikes forms account ref_no (place + 1) later)
  where
    by_first : (here : Bool) → list_any (λ row. is_named account ref_no (row_as_corrected strikes forms row).order) (option_to_list (order_begun place event.kind)) ≡ here → (here || list_any (λ row. is_named account ref_no (row_as_corrected strikes forms row).order) (orders_begun (place + 1) later)) ≡ true → (list_any (λ row. is_named account ref_no (row_as_corrected strikes forms row).order) (orders_begun (place + 1) later) ≡ true → list_any (brings_reference (account, ref_no)) later ≡ true) → (brings_reference (account, ref_no) event || list_any (brings_reference (account, ref_no)) later) ≡ true
    by_first true is h rest =
        ap (λ b. b || list_any (brings_reference (account, ref_no)) later) (begun-brings strikes forms account ref_no place event.kind event.moment is)
    by_first false is h rest =
        ap (λ b. brings_reference (account, ref_no) event || b) (rest h)
        ∙ late-true (brings_reference (account, ref_no) event)

pub known_order : (journal : Journal) (account ref_no : ℕ) → is_some (order_named (orders_of journal) account ref_no) ≡ true → list_any (brings_reference (account, ref_no)) journal ≡ true
known_order journal account ref_no there =
    known-begun (each_in struck_in journal) (each_in replacement_in journal) account ref_no 0 journal
    (sym (any-of-map (λ row. is_named account ref_no row.order) (row_as_corrected (each_in struck_in journal) (each_in replacement_in journal)) (orders_begun 0 journal))
    ∙ (sym (find-any (λ row. is_named account ref_no row.order) (orders_of journal)) ∙ there))

-- what is struck or replaced was begun before
pub IsNewTo : Journal → Order → Type 0
IsNewTo journal order =
    (is_struck (each_in struck_in journal) order ≡ false) × (list_any (replaces order) (each_in replacement_in journal) ≡ false)

pub ChangesKnown : Journal → Type 0
ChangesKnown journal = (order : Order) → list_any (brings_reference (order.account, order.ref_no)) journal ≡ false → IsNewTo journal order

changes-more : (journal : Journal) (event : Event) → IsLawful journal → IsBrought journal event → ChangesKnown journal → ChangesKnown (with_event journal event)
unfolding ChangesKnown IsNewTo order_changed
changes-more journal event lawful brought known order new = (
  ap (λ strikes. is_struck strikes order) (gathers-on struck_in journal event)
      ∙ (list_any-append (λ (named : ℕ × ℕ). is_named named.0 named.1 order) (each_in struck_in journal) (option_to_list (struck_in event.kind))
      ∙ (ap (λ b. b || is_struck (option_to_list (struck_in event.kind)) order) (known order before).0 ∙ no_strike event.kind there)),
  ap (list_any (replaces order)) (gathers-on replacement_in journal event)
      ∙ (list_any-append (replaces order) (each_in replacement_in journal) (option_to_list (replacement_in event.kind))
      ∙ (ap (λ b. b || list_any (replaces order) (option_to_list (replacement_in event.kind))) (known order before).1 ∙ no_replacement event.kind there)),
)
  where
    before : list_any (brings_reference (order.account, order.ref_no)) journal ≡ false
    before = (any-front (brings_reference (order.account, order.ref_no)) journal (event ∷ []) new).0

    there : option_map_or (λ named. has_order (own_at journal event.moment brought.caller) named.0 named.1) (order_changed event.kind) true ≡ true
    there =
        order-there (own_at journal event.moment brought.caller) event.kind
        (not_broken (own_at journal event.moment brought.caller) (request_of event.kind) brought.clear Rule.NoSuch)

    other : (account ref_no : ℕ) → is_some (order_named (orders_of journal) account ref_no) ≡ true → order.account ≡ account → order.ref_no ≡ ref_no → ⊥
    other account ref_no is one two =
        true≢false
        (sym (known_order journal account ref_no is)
        ∙ (ap (λ a. list_any (brings_reference (a, ref_no)) journal) (sym one)
        ∙ (ap (λ r. list_any (brings_reference (order.account, r)) journal) (sym two) ∙ before)))

    not_named : (account ref_no : ℕ) → is_some (order_named (orders_of journal) account ref_no) ≡ true → (is_named account ref_no order || false) ≡ false
    not_named account ref_no is =
        ap (λ b. b || false)
        (is-false (is_named account ref_no order)
        (λ same.
        let both = and_parts (order.account == account) (order.ref_no == ref_no) same in
        other account ref_no is (eqb-true order.account account both.0) (eqb-true order.ref_no ref_no both.1)))

    not_replaced : (form : EntryForm) → is_some (order_named (orders_of journal) form.order.account form.order.ref_no) ≡ true → (replaces order form || false) ≡ false
    not_replaced form is =
        ap (λ b. b || false)
        (is-false (replaces order form)
        (λ same.
        let both = and_parts (form.order.account == order.account) (form.order.ref_no == order.ref_no) same in
        other form.order.account form.order.ref_no is (sym (eqb-true form.order.account order.account both.0)) (sym (eqb-true form.order.ref_no order.ref_no both.1))))

    no_strike : (kind : EventKind) → option_map_or (λ named. has_order (own_at journal event.moment brought.caller) named.0 named.1) (order_changed kind) true ≡ true → is_struck (option_to_list (struck_in kind)) order ≡ false
    no_strike (EventKind.Cancel form) is = not_named form.account form.target is
    no_strike (EventKind.Void form) is = not_named form.account form.ref_no is
    no_strike _ is = refl

    no_replacement : (kind : EventKind) → option_map_or (λ named. has_order (own_at journal event.moment brought.caller) named.0 named.1) (order_changed kind) true ≡ true → list_any (replaces order) (option_to_list (replacement_in kind)) ≡ false
    no_replacement (EventKind.Replace form) is = not_replaced form is
    no_replacement _ is = refl

pub changes_known : (journal : Journal) → IsLawful journal → ChangesKnown journal
unfolding ChangesKnown IsNewTo
changes_known journal lawful = lawful-keeps ChangesKnown changes-more (λ order new. (refl, refl)) journal lawful

new-reference : (situation : Situation) (request : Request) (named : ℕ × ℕ) → reference_of request ≡ Some named → ref_used situation request ≡ None → list_any (brings_reference named) situation.journal ≡ false
new-reference situation request named is free =
    (or_parts (has_reference situation named) (option_map_or (has_fix situation) (fix_of request) false)
    (ap (λ found. option_map_or (has_reference situation) found false || option_map_or (has_fix situation) (fix_of request) false) (sym is)
    ∙ not_when (option_map_or (has_reference situation) (reference_of request) false || option_map_or (has_fix situation) (fix_of request) false) Refusal.RefUsed free)).0

untouched-order : (journal : Journal) (order : Order) → IsLawful journal → list_any (brings_reference (order.account, order.ref_no)) journal ≡ false → is_untouched journal order ≡ true
unfolding ChangesKnown IsNewTo
untouched-order journal order lawful new =
    let both = changes_known journal lawful order new in
    ap (λ b. not b && not (list_any (replaces order) (each_in replacement_in journal))) both.0 ∙ ap not both.1

pub begins-by : (journal : Journal) (now : ℕ) (caller : Caller) (kind : EventKind) → IsLawful journal → ref_used (own_at journal now caller) (request_of kind) ≡ None → begins_untouched journal kind ≡ true
begins-by journal now caller (EventKind.Order placed) lawful free = by_source placed.source free
  where
    by_source : (from : Source) → ref_used (own_at journal now caller) (order_request from placed.receipt placed.order) ≡ None → is_untouched journal placed.order ≡ true
    by_source Source.Direct h =
        untouched-order journal placed.order lawful
        (new-reference (own_at journal now caller) (Request.Order placed.order) (placed.order.account, placed.order.ref_no) refl h)
    by_source Source.Dealer h =
        untouched-order journal placed.order lawful
        (new-reference (own_at journal now caller) (Request.Line (record { receipt = placed.receipt; order = placed.order })) (placed.order.account, placed.order.ref_no) refl h)
begins-by journal now caller (EventKind.Enter form) lawful free =
    untouched-order journal form.order lawful
    (new-reference (own_at journal now caller) (Request.Enter form) (form.order.account, form.order.ref_no) refl free)
begins-by journal now caller _ lawful free = refl

-- what the last event of a lawful journal met
pub last-brought : (journal : Journal) (event : Event) → IsLawful (with_event journal event) → IsLawful journal × IsBrought journal event
last-brought journal event lawful =
    (lawful-before journal (event ∷ []) lawful, brought journal event (follows [] journal lawful))
  where
    follows : (before later : Journal) → AllFollow before (later ++ event ∷ []) → Follows (before ++ later) event
    follows before [] all = subst (λ known. Follows known event) (sym (append-nil before)) all.0
    follows before (first ∷ later) all =
        subst (λ known. Follows known event) (append_assoc before (first ∷ []) later) (follows (with_event before first) later all.1)

pub begins_new : (journal : Journal) (event : Event) → IsLawful (with_event journal event) → (begins_untouched journal event.kind ≡ true) × (opens_untouched journal event.kind ≡ true)
begins_new journal event lawful =
    let last = last-brought journal event lawful in
    let situation = own_at journal event.moment last.1.caller in (
      begins-by journal event.moment last.1.caller event.kind last.0 (not_broken situation (request_of event.kind) last.1.clear Rule.RefUsed),
      opens-by journal event.moment last.1.caller event.kind last.0 (number_free situation (request_of event.kind) last.1.clear),
    )

pub begins_anew : (journal : Journal) (event : Event) → LawfulBeginsAnew journal event
begins_anew journal event lawful =
    let new = begins_new journal event lawful in
    record {
      begins = new.0;
      opens = new.1;
      orders = orders_go_on journal event new.0;
      views = λ household.
          ap (λ accounts. filter (is_seen_by accounts household) (with_event journal event)) (gathers-on account_in journal event)
          ∙ view-by household journal event.moment event.kind new.1;
    }
