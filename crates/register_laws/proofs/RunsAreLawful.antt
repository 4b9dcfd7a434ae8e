-- What the machine appends behind a lawful journal leaves it lawful, so the journals of runs and of batches are lawful.
use Rattle.std.proofs.Common.{Bool, List, None, Option, Some, [], ap, append-nil, arith, bytes_eq, cond, false, filter, find, is_some, length, not, option_and_then, option_map, position, refl, subst, sym, true, unwrap_or, ℕ, ◌&&◌, ◌++◌, ◌==◌, ◌||◌, ◌∙◌, ◌∷◌, ◌≡◌, ◌≤◌}
use Rattle.std.proofs.lemmas.Bool.{eq-eqb, eqb-true, not-false, true≢false}
use Rattle.std.specs.Option.{option_map_or, option_or}
use Rattle.agent_events.specs.Events.{Event, event_of, order_request, request_of}
use Rattle.agent_events.specs.declared.item.ScriptItem.{ScriptItem}
use Rattle.agent_events.specs.declared.event.EventKind.{EventKind}
use Rattle.agent_events.specs.declared.event.Source.{Source}
use Rattle.agent_events.specs.declared.order.Bearer.{Bearer}
use Rattle.agent_events.specs.declared.reply.Refusal.{Refusal}
use Rattle.agent_events.specs.declared.request.AccountForm.{AccountForm}
use Rattle.agent_events.specs.declared.request.DealerForm.{DealerForm}
use Rattle.agent_events.specs.declared.request.HouseholdForm.{HouseholdForm}
use Rattle.agent_events.specs.declared.request.LineForm.{LineForm}
use Rattle.agent_events.specs.declared.request.Request.{Request}
use Rattle.forward_price.specs.PriceTables.{Table}
use Rattle.money_units.specs.Texts.{number}
use Rattle.share_lots.specs.Lots.{lots_with}
use Rattle.register_laws.proofs.AnswersByCases.{asks, each-new}
use Rattle.register_laws.proofs.Choosing.{not_when}
use Rattle.register_laws.proofs.LawfulJournals.{all-follow}
use Rattle.register_laws.proofs.LotParts.{some}
use Rattle.register_laws.proofs.NoIdentityTwice.{no_account_twice}
use Rattle.register_laws.proofs.Runs.{run-keeps-its}
use Rattle.register_laws.specs.Identities.{NoAccountTwice, has_number}
use Rattle.register_laws.specs.Lawful.{own_at}
use Rattle.register_machine.specs.corrections.Payments.{bearer_in}
use Rattle.register_machine.specs.journal.Choices.{first_some, when}
use Rattle.register_machine.specs.journal.Journals.{Journal, last_moment}
use Rattle.register_machine.specs.journal.Kinds.{account_numbered, accounts_of, dealer_numbered, dealers_of, households_of}
use Rattle.register_machine.specs.journal.Lawful.{Follows, IsLawful, answer_again, asker_by, asker_of, dealer_of}
use Rattle.register_machine.specs.pricing.PublishedTable.{table_of}
use Rattle.register_machine.specs.rules.Breaks.{breaks, breaks_by}
use Rattle.agent_events.specs.declared.verdict.Caller.{Caller}
use Rattle.register_machine.specs.rules.Callers.{caller_of, dealer_with_key, known_caller, may, operator_may, serves}
use Rattle.register_machine.specs.rules.InOrder.{broken_rule, first_rules}
use Rattle.register_machine.specs.rules.Situations.{Situation, event_at, no_right, situation_at}
use Rattle.register_machine.specs.rules.Terms.{bad_terms}
use Rattle.register_machine.specs.run.Answers.{answer, answer_by, fresh_answer}
use Rattle.register_machine.specs.run.Scripts.{empty_run, run_from}
use Rattle.register_machine.specs.run.Verdicts.{due_now, repeats, verdict_by_event, verdict_by_place, verdict_by_right, verdict_by_rule}

-- ---- the caller among the rules

-- behind the right a dealer's line alone looks at the caller
rules-alike : (table : Table) (journal : Journal) (now : ℕ) (one other : Caller) (request : Request) → operator_may request ≡ true → broken_rule (situation_at table journal now one) request ≡ broken_rule (situation_at table journal now other) request
rules-alike table journal now one other (Request.Line line) e = absurd (true≢false (sym e))
rules-alike table journal now one other _ e = refl

due-alike : (table : Table) (journal : Journal) (now : ℕ) (one other : Caller) (request : Request) → due_now (situation_at table journal now one) request ≡ due_now (situation_at table journal now other) request
due-alike table journal now one other _ = refl

terms-alike : (table : Table) (journal : Journal) (now : ℕ) (one other : Caller) (request : Request) → bad_terms (situation_at table journal now one) request ≡ bad_terms (situation_at table journal now other) request
terms-alike table journal now one other _ = refl

breaks-alike : (table : Table) (journal : Journal) (now : ℕ) (one other : Caller) (event : Event) (bearer : Option Bearer) → breaks_by bearer (situation_at table journal now one) event ≡ breaks_by bearer (situation_at table journal now other) event
breaks-alike table journal now one other event None = refl
breaks-alike table journal now one other event (Some bearer) = refl

-- ---- who asked

-- the first account of a number that stands once is the one that names the dealer
dealer-found : {X : Type 0} (named : ℕ → Option X) (accounts : List AccountForm) (dealer number : ℕ) → length (filter (has_number number) accounts) ≤ 1 → serves accounts dealer number ≡ true → option_and_then (λ account. named account.dealer) (account_numbered accounts number) ≡ named dealer
dealer-found named [] dealer number once e = absurd (true≢false (sym e))
dealer-found named (first ∷ accounts) dealer number once e =
    elim (first.account == number) as (λ here. length (cond here (first ∷ filter (has_number number) accounts) (filter (has_number number) accounts)) ≤ 1 → ((here && first.dealer == dealer) || serves accounts dealer number) ≡ true → option_and_then (λ account. named account.dealer) (cond here (Some first) (account_numbered accounts number)) ≡ named dealer) [
      | true ↦ λ few served. by_dealer (first.dealer == dealer) refl few served
      | false ↦ λ few served. dealer-found named accounts dealer number few served
    ] once e
  where
    among : (xs : List AccountForm) → serves xs dealer number ≡ true → 1 ≤ length (filter (has_number number) xs)
    among [] h = absurd (true≢false (sym h))
    among (x ∷ xs) h =
        elim (x.account == number) as (λ here. ((here && x.dealer == dealer) || serves xs dealer number) ≡ true → 1 ≤ length (cond here (x ∷ filter (has_number number) xs) (filter (has_number number) xs))) [
          | true ↦ λ _. omega arith
          | false ↦ λ served. among xs served
        ] h

    by_dealer : (same : Bool) → (first.dealer == dealer) ≡ same → length (first ∷ filter (has_number number) accounts) ≤ 1 → (same || serves accounts dealer number) ≡ true → named first.dealer ≡ named dealer
    by_dealer true is few served = ap named (eqb-true first.dealer dealer is)
    by_dealer false is few served = absurd (too_many (among accounts served) few)
      where
        too_many : 1 ≤ length (filter (has_number number) accounts) → length (first ∷ filter (has_number number) accounts) ≤ 1 → ⊥
        too_many some few = omega (arith, some, few)

-- a caller that is a dealer is one of these
abbrev pub IsAmong : List DealerForm → Caller → Type 0
IsAmong dealers Caller.Operator = Unit {0}
IsAmong dealers (Caller.Household household) = Unit {0}
IsAmong dealers (Caller.Dealer dealer) = is_some (dealer_numbered dealers dealer) ≡ true
IsAmong dealers Caller.Stranger = Unit {0}

-- and so is one that was found by its key
found-numbered : (test : DealerForm → Bool) (dealers : List DealerForm) (form : DealerForm) → find test dealers ≡ Some form → is_some (dealer_numbered dealers form.dealer) ≡ true
found-numbered test [] form e = absurd (none_some e)
  where
    none_some : None ≡ Some form → ⊥
    none_some h = cc
found-numbered test (first ∷ dealers) form e =
    elim (test first) as (λ here. cond here (Some first) (find test dealers) ≡ Some form → is_some (cond (first.dealer == form.dealer) (Some first) (dealer_numbered dealers form.dealer)) ≡ true) [
      | true ↦ λ h. let same : first ≡ form = cc in
          ap (λ b. is_some (cond b (Some first) (dealer_numbered dealers form.dealer))) (eq-eqb first.dealer form.dealer (ap (λ (f : DealerForm). f.dealer) same))
      | false ↦ λ h. by_number (first.dealer == form.dealer) (found-numbered test dealers form h)
    ] e
  where
    by_number : (same : Bool) → is_some (dealer_numbered dealers form.dealer) ≡ true → is_some (cond same (Some first) (dealer_numbered dealers form.dealer)) ≡ true
    by_number true later = refl
    by_number false later = later

pub keyed-among : (journal : Journal) (operator key : List ℕ) → IsAmong (dealers_of journal) (caller_of journal operator key)
keyed-among journal operator key = by_operator (bytes_eq key operator)
  where
    by_dealer : (found : Option DealerForm) → find (λ form. bytes_eq form.key key) (dealers_of journal) ≡ found → IsAmong (dealers_of journal) (unwrap_or (option_map Caller.Dealer (option_map (λ form. form.dealer) found)) Caller.Stranger)
    by_dealer None e = tt
    by_dealer (Some form) e = found-numbered (λ form. bytes_eq form.key key) (dealers_of journal) form e

    by_household : (found : Option HouseholdForm) → IsAmong (dealers_of journal) (unwrap_or (option_or (option_map Caller.Household (option_map (λ form. form.household) found)) (option_map Caller.Dealer (dealer_with_key journal key))) Caller.Stranger)
    by_household None = by_dealer (find (λ form. bytes_eq form.key key) (dealers_of journal)) refl
    by_household (Some form) = tt

    by_operator : (is : Bool) → IsAmong (dealers_of journal) (cond is Caller.Operator (unwrap_or (known_caller journal key) Caller.Stranger))
    by_operator true = tt
    by_operator false = by_household (find (λ form. bytes_eq form.key key) (households_of journal))

-- the dealer of a number has that number
dealer-numbered : (dealers : List DealerForm) (dealer : ℕ) → is_some (dealer_numbered dealers dealer) ≡ true → option_map_or (λ form. Caller.Dealer form.dealer) (dealer_numbered dealers dealer) Caller.Stranger ≡ Caller.Dealer dealer
dealer-numbered [] dealer e = absurd (true≢false (sym e))
dealer-numbered (first ∷ dealers) dealer e =
    by_number (first.dealer == dealer) refl (dealer-numbered dealers dealer) e
  where
    by_number : (same : Bool) → (first.dealer == dealer) ≡ same → (is_some (dealer_numbered dealers dealer) ≡ true → option_map_or (λ form. Caller.Dealer form.dealer) (dealer_numbered dealers dealer) Caller.Stranger ≡ Caller.Dealer dealer) → is_some (cond same (Some first) (dealer_numbered dealers dealer)) ≡ true → option_map_or (λ form. Caller.Dealer form.dealer) (cond same (Some first) (dealer_numbered dealers dealer)) Caller.Stranger ≡ Caller.Dealer dealer
    by_number true is later h = ap Caller.Dealer (eqb-true first.dealer dealer is)
    by_number false is later h = later h

-- a line was asked by the dealer that its account names
abbrev named_asker : Journal → ℕ → Caller
named_asker journal number = option_map_or (λ form. Caller.Dealer form.dealer) (dealer_of journal number) Caller.Stranger

asked-line : (journal : Journal) (caller : Caller) (line : LineForm) → NoAccountTwice journal → IsAmong (dealers_of journal) caller → may (accounts_of journal) caller (Request.Line line) ≡ true → caller ≡ named_asker journal line.order.account
asked-line journal Caller.Operator line once among e = absurd (true≢false (sym e))
asked-line journal (Caller.Household household) line once among e = absurd (true≢false (sym e))
asked-line journal (Caller.Dealer dealer) line once among e =
    sym
    (ap (λ found. option_map_or (λ (form : DealerForm). Caller.Dealer form.dealer) found Caller.Stranger) (dealer-found (dealer_numbered (dealers_of journal)) (accounts_of journal) dealer line.order.account (once line.order.account) e)
    ∙ dealer-numbered (dealers_of journal) dealer among)
asked-line journal Caller.Stranger line once among e = absurd (true≢false (sym e))

-- so what the operator may not was asked by the event's asker
asked-by-dealer : (journal : Journal) (caller : Caller) (kind : EventKind) → NoAccountTwice journal → IsAmong (dealers_of journal) caller → may (accounts_of journal) caller (request_of kind) ≡ true → operator_may (request_of kind) ≡ false → caller ≡ asker_of journal kind
asked-by-dealer journal caller (EventKind.Order lots_with) once among right denied = by_source lots_with.source right denied
  where
    by_source : (from : Source) → may (accounts_of journal) caller (order_request from lots_with.receipt lots_with.order) ≡ true → operator_may (order_request from lots_with.receipt lots_with.order) ≡ false → caller ≡ asker_by journal lots_with from
    by_source Source.Direct allowed other = absurd (true≢false other)
    by_source Source.Dealer allowed other =
        asked-line journal caller (record { receipt = lots_with.receipt; order = lots_with.order }) once among allowed
asked-by-dealer journal caller _ once among right denied = absurd (true≢false denied)

-- and what the operator may has the operator as its asker
asked-by-operator : (journal : Journal) (kind : EventKind) → operator_may (request_of kind) ≡ true → asker_of journal kind ≡ Caller.Operator
asked-by-operator journal (EventKind.Order lots_with) granted = by_source lots_with.source granted
  where
    by_source : (from : Source) → operator_may (order_request from lots_with.receipt lots_with.order) ≡ true → asker_by journal lots_with from ≡ Caller.Operator
    by_source Source.Direct allowed = refl
    by_source Source.Dealer allowed = absurd (true≢false (sym allowed))
asked-by-operator journal _ granted = refl

-- ---- what is appended again

-- where no rule is broken and the request is new, its event is appended
pub event-appended : (situation : Situation) (request : Request) (kind : EventKind) → first_some (first_rules situation request) ≡ None → position (repeats request) situation.journal ≡ None → broken_rule situation request ≡ None → event_of request situation.now (due_now situation request) ≡ Some kind → breaks situation (event_at situation kind) ≡ None → (answer situation request).events ≡ event_at situation kind ∷ []
event-appended situation request kind allowed new clear brings keeps =
    ap (λ broken. (answer_by situation request (verdict_by_right situation request broken)).events) allowed
    ∙ (ap (λ place. (answer_by situation request (verdict_by_place situation request place)).events) new
    ∙ (ap (λ broken. (answer_by situation request (verdict_by_rule situation request broken)).events) clear
    ∙ (ap (λ found. (answer_by situation request (verdict_by_event situation found)).events) brings
    ∙ ap (λ broken. (fresh_answer situation (event_at situation kind) broken).events) keeps)))

both_clear : (one other : Option Refusal) → first_some (one ∷ other ∷ []) ≡ None → (one ≡ None) × (other ≡ None)
both_clear None None e = (refl, refl)
both_clear None (Some why) e = absurd (some_none e)
  where
    some_none : Some why ≡ None → ⊥
    some_none h = cc
both_clear (Some why) other e = absurd (some_none e)
  where
    some_none : Some why ≡ None → ⊥
    some_none h = cc

-- so an event that was appended follows its journal
pub event-follows : (journal : Journal) (now : ℕ) (caller : Caller) (kind : EventKind) → NoAccountTwice journal → IsAmong (dealers_of journal) caller → last_moment journal ≤ now → first_some (first_rules (own_at journal now caller) (request_of kind)) ≡ None → position (repeats (request_of kind)) journal ≡ None → broken_rule (own_at journal now caller) (request_of kind) ≡ None → event_of (request_of kind) now (due_now (own_at journal now caller) (request_of kind)) ≡ Some kind → breaks (own_at journal now caller) (record { moment = now; kind = kind }) ≡ None → Follows journal (record { moment = now; kind = kind })
event-follows journal now caller kind once among late allowed new clear brings keeps = record {
  not_before = late;
  appended = by_right (operator_may (request_of kind)) refl;
}
  where
    parts : (no_right (own_at journal now caller) (request_of kind) ≡ None) × (bad_terms (own_at journal now caller) (request_of kind) ≡ None)
    parts =
        both_clear (no_right (own_at journal now caller) (request_of kind)) (bad_terms (own_at journal now caller) (request_of kind)) allowed

    right : may (accounts_of journal) caller (request_of kind) ≡ true
    right =
        not-false (may (accounts_of journal) caller (request_of kind))
        (not_when (not (may (accounts_of journal) caller (request_of kind))) Refusal.NoRight parts.0)

    by_right : (may_operator : Bool) → operator_may (request_of kind) ≡ may_operator → (answer_again journal (record { moment = now; kind = kind })).events ≡ record { moment = now; kind = kind } ∷ []
    by_right true granted =
        subst (λ who. (answer (own_at journal now who) (request_of kind)).events ≡ record { moment = now; kind = kind } ∷ []) (sym (asked-by-operator journal kind granted))
        (event-appended (own_at journal now Caller.Operator) (request_of kind) kind
        (ap (λ b. first_some (when (not b) Refusal.NoRight ∷ bad_terms (own_at journal now Caller.Operator) (request_of kind) ∷ [])) granted
        ∙ ap (λ bad. first_some (bad ∷ [])) (terms-alike (table_of journal) journal now Caller.Operator caller (request_of kind) ∙ parts.1))
        new
        (rules-alike (table_of journal) journal now Caller.Operator caller (request_of kind) granted ∙ clear)
        (ap (λ due. event_of (request_of kind) now due) (due-alike (table_of journal) journal now Caller.Operator caller (request_of kind)) ∙ brings)
        (breaks-alike (table_of journal) journal now Caller.Operator caller (record { moment = now; kind = kind }) (bearer_in kind) ∙ keeps))
    by_right false denied =
        subst (λ who. (answer (own_at journal now who) (request_of kind)).events ≡ record { moment = now; kind = kind } ∷ []) (asked-by-dealer journal caller kind once among right denied)
        (event-appended (own_at journal now caller) (request_of kind) kind allowed new clear brings keeps)

-- ---- an answer

pub answer_is_lawful : (journal : Journal) (now : ℕ) (caller : Caller) (request : Request) → IsAmong (dealers_of journal) caller → last_moment journal ≤ now → IsLawful journal → IsLawful (journal ++ (answer (own_at journal now caller) request).events)
answer_is_lawful journal now caller request among late lawful =
    each-new (λ said. IsLawful (journal ++ said.events)) (own_at journal now caller) request
    (λ reply. subst IsLawful (sym (append-nil journal)) lawful) more
  where
    more : first_some (first_rules (own_at journal now caller) request) ≡ None → position (repeats request) journal ≡ None → broken_rule (own_at journal now caller) request ≡ None → (kind : EventKind) → event_of request now (due_now (own_at journal now caller) request) ≡ Some kind → breaks (own_at journal now caller) (record { moment = now; kind = kind }) ≡ None → IsLawful (journal ++ record { moment = now; kind = kind } ∷ [])
    more allowed new clear kind brings keeps =
        let same = sym (asks request now (due_now (own_at journal now caller) request) kind brings) in
        all-follow [] journal (record { moment = now; kind = kind }) lawful
        (event-follows journal now caller kind (no_account_twice journal lawful) among late
        (subst (λ q. first_some (first_rules (own_at journal now caller) q) ≡ None) same allowed)
        (subst (λ q. position (repeats q) journal ≡ None) same new)
        (subst (λ q. broken_rule (own_at journal now caller) q ≡ None) same clear)
        (subst (λ q. event_of q now (due_now (own_at journal now caller) q) ≡ Some kind) same brings)
        keeps)

-- ---- runs

pub run_is_lawful : (operator : List ℕ) (items : List ScriptItem) → IsLawful (run_from operator empty_run items).journal
run_is_lawful operator items =
    run-keeps-its IsLawful operator
    (λ journal now key request late.
    answer_is_lawful journal now (caller_of journal operator key) request (keyed-among journal operator key) late)
    items tt
