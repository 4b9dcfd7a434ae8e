-- A request is refused by the first rule that it breaks and only there; one that no rule refuses gets what it asks for.
use Rattle.std.proofs.lemmas.List.Quantifiers.{position-Some}
use Rattle.std.proofs.lemmas.Option.{slice_get_cases}
use Rattle.std.proofs.Common.{Bool, List, None, Option, Some, [], ap, arith, cond, false, find, get_or, inl, inr, is_some, length, not, option_and_then, option_map, position, refl, slice_get, subst, sym, take, true, ℕ, ◌<◌, ◌∙◌, ◌∷◌, ◌≡◌, ◌≤◌, ◌⊎◌}
use Rattle.std.proofs.lemmas.Bool.{true≢false}
use Rattle.std.specs.Option.{option_map_or, option_or}
use Rattle.agent_events.specs.Contents.{same_request}
use Rattle.agent_events.specs.Events.{Event, event_of, order_request, request_of}
use Rattle.agent_events.specs.declared.event.EventKind.{EventKind}
use Rattle.agent_events.specs.declared.event.Source.{Source}
use Rattle.agent_events.specs.declared.order.OrderRow.{OrderRow}
use Rattle.agent_events.specs.declared.reply.Refusal.{Refusal}
use Rattle.agent_events.specs.declared.reply.Reply.{Reply}
use Rattle.agent_events.specs.declared.request.Request.{Request}
use Rattle.agent_events.specs.declared.request.StatementForm.{StatementForm}
use Rattle.agent_events.specs.declared.request.TraceForm.{TraceForm}
use Rattle.forward_price.specs.PriceTables.{Table}
use Rattle.register_laws.proofs.AnswersByCases.{asks, repeats_its_first, says_its_first_reply}
use Rattle.register_laws.proofs.Choosing.{none_some, some_none}
use Rattle.register_laws.proofs.RulesByName.{not_broken}
use Rattle.register_laws.specs.Answers.{is_query}
use Rattle.register_laws.specs.Completeness.{BringsItsEvent, GetsFirstReplyAgain, IsRefusedByFirst, ShowsWhatIsAsked, is_known, is_refusal, last_rule, refusal_of}
use Rattle.register_machine.specs.journal.Choices.{first_some}
use Rattle.register_machine.specs.journal.Journals.{Journal}
use Rattle.register_machine.specs.pricing.CorrectedBook.{Book}
use Rattle.register_machine.specs.pricing.CorrectedOrders.{order_named}
use Rattle.register_machine.specs.pricing.PublishedTable.{table_of}
use Rattle.register_machine.specs.queries.Trace.{trace_of_row}
use Rattle.register_machine.specs.rules.Breaks.{breaks}
use Rattle.register_machine.specs.rules.InOrder.{Rule, broken_rule, first_rules}
use Rattle.register_machine.specs.rules.NamedThings.{has_account, has_order, none_such}
use Rattle.register_machine.specs.rules.Situations.{Situation, event_at}
use Rattle.register_machine.specs.run.Answers.{Answer, answer, answer_by, appends, fresh_answer, query_reply, refuses, repeat_answer, says}
use Rattle.register_machine.specs.run.Replies.{first_reply, reply_by}
use Rattle.register_machine.specs.run.Verdicts.{due_now, repeats, verdict_by_event, verdict_by_place, verdict_by_right, verdict_by_rule}

-- an answer fits what is broken: it is that refusal, or no refusal where nothing is
abbrev Fits : Answer → Option Refusal → Type 0
Fits said None = is_refusal said.reply ≡ false
Fits said (Some refusal) = said ≡ refuses refusal

-- the reply to an event is no refusal
reply-granted : (table : Table) (journal : Journal) (event : Event) (kind : EventKind) → is_refusal (reply_by table journal event kind) ≡ false
reply-granted table journal event (EventKind.Calendar form) = refl
reply-granted table journal event (EventKind.Close form) = refl
reply-granted table journal event (EventKind.Class form) = refl
reply-granted table journal event (EventKind.Dealer form) = refl
reply-granted table journal event (EventKind.Household form) = refl
reply-granted table journal event (EventKind.Account form) = refl
reply-granted table journal event (EventKind.Order placed) = refl
reply-granted table journal event (EventKind.Cancel form) = refl
reply-granted table journal event (EventKind.Sheet form) = refl
reply-granted table journal event (EventKind.Dividend form) = refl
reply-granted table journal event (EventKind.FixPrice form) = refl
reply-granted table journal event (EventKind.FixRate form) = refl
reply-granted table journal event (EventKind.Enter form) = refl
reply-granted table journal event (EventKind.Replace form) = refl
reply-granted table journal event (EventKind.Void form) = refl

-- the second of two things that are named is there, where none is absent
second-there : (one other : Bool) → option_map (λ (field : ℕ × Bool). Refusal.NoSuch field.0) (find (λ (field : ℕ × Bool). not field.1) ((1, one) ∷ (2, other) ∷ [])) ≡ None → other ≡ true
second-there true true e = refl
second-there true false e = absurd (some_none e)
second-there false other e = absurd (some_none e)

trace-granted : (book : Book) (found : Option OrderRow) → is_some found ≡ true → is_refusal (option_map_or (λ row. Reply.Trace (trace_of_row book row)) found (Reply.Refused (Refusal.NoSuch 2))) ≡ false
trace-granted book None there = absurd (true≢false (sym there))
trace-granted book (Some row) there = refl

-- a query that names what is there gets a reply that is no refusal
query-granted : (situation : Situation) (request : Request) (now due : ℕ) → event_of request now due ≡ None → none_such situation request ≡ None → is_refusal (query_reply situation request) ≡ false
query-granted situation (Request.Show account) now due looks named = refl
query-granted situation (Request.Trace form) now due looks named =
    trace-granted situation.book (order_named situation.book.orders form.account form.ref_no)
    (second-there (has_account situation form.account) (has_order situation form.account form.ref_no) named)
query-granted situation (Request.Statement form) now due looks named = refl
query-granted situation Request.Books now due looks named = refl
query-granted situation _ now due looks named = absurd (some_none looks)

-- what is at a place that was found is there
pub found-there : {X : Type 0} (test : X → Bool) (xs : List X) (place : ℕ) → position test xs ≡ Some place → (x : X) × (slice_get xs place ≡ Some x) × (test x ≡ true)
found-there {X = X} test xs place found = by_cases (slice_get_cases xs place).1
  where
    by_cases : ((x : X) × (place < length xs) × (slice_get xs place ≡ Some x) × (get_or xs place x ≡ x)) ⊎ ((length xs ≤ place) × (slice_get xs place ≡ None)) → (x : X) × (slice_get xs place ≡ Some x) × (test x ≡ true)
    by_cases (inl there) = (there.0, there.2, ap test (sym there.3) ∙ (position-Some test xs place there.0 found).1)
    by_cases (inr past) = absurd (beyond xs past.0 found)
      where
        beyond : (ys : List X) → length ys ≤ place → position test ys ≡ Some place → ⊥
        beyond [] short e = none_some e
        beyond (y ∷ ys) short e = outside (position-Some test (y ∷ ys) place y e).0 short
          where
            outside : place < length (y ∷ ys) → length (y ∷ ys) ≤ place → ⊥
            outside inside out = omega (arith, inside, out)

repeat-granted : (journal : Journal) (request : Request) (place : ℕ) → position (repeats request) journal ≡ Some place → is_refusal (repeat_answer journal place).reply ≡ false
repeat-granted journal request place found =
    let there = found-there (repeats request) journal place found in
    ap (λ event. is_refusal (option_map_or (λ e. says (first_reply (take place journal) e)) event (refuses (Refusal.BadForm 0))).reply) there.1
    ∙ reply-granted (table_of (take place journal)) (take place journal) there.0 there.0.kind

-- every answer fits the first rule that is broken
answer-fits : (situation : Situation) (request : Request) → Fits (answer situation request) (refusal_of situation request)
answer-fits situation request = by_right (first_some (first_rules situation request))
  where
    by_break : (kind : EventKind) (broken : Option Refusal) → Fits (fresh_answer situation (event_at situation kind) broken) broken
    by_break kind None = reply-granted situation.book.table situation.journal (event_at situation kind) kind
    by_break kind (Some why) = refl

    by_event : broken_rule situation request ≡ None → (found : Option EventKind) → event_of request situation.now (due_now situation request) ≡ found → Fits (answer_by situation request (verdict_by_event situation found)) (option_and_then (breaks situation) (option_map (event_at situation) found))
    by_event clear None e =
        query-granted situation request situation.now (due_now situation request) e (not_broken situation request clear Rule.NoSuch)
    by_event clear (Some kind) e = by_break kind (breaks situation (event_at situation kind))

    by_rule : (broken : Option Refusal) → broken_rule situation request ≡ broken → Fits (answer_by situation request (verdict_by_rule situation request broken)) (option_or broken (last_rule situation request))
    by_rule (Some why) e = refl
    by_rule None e = by_event e (event_of request situation.now (due_now situation request)) refl

    by_place : (place : Option ℕ) → position (repeats request) situation.journal ≡ place → Fits (answer_by situation request (verdict_by_place situation request place)) (cond (is_some place) None (option_or (broken_rule situation request) (last_rule situation request)))
    by_place (Some place) found = repeat-granted situation.journal request place found
    by_place None found = by_rule (broken_rule situation request) refl

    by_right : (broken : Option Refusal) → Fits (answer_by situation request (verdict_by_right situation request broken)) (option_or broken (cond (is_known situation request) None (option_or (broken_rule situation request) (last_rule situation request))))
    by_right (Some why) = refl
    by_right None = by_place (position (repeats request) situation.journal) refl

pub is_refused_by_first : (situation : Situation) (request : Request) → IsRefusedByFirst situation request
is_refused_by_first situation request = record {
  refused = λ refusal broken. subst (Fits (answer situation request)) broken (answer-fits situation request);
  only = λ refusal said. by_broken refusal said (refusal_of situation request) (answer-fits situation request);
}
  where
    by_broken : (refusal : Refusal) → (answer situation request).reply ≡ Reply.Refused refusal → (broken : Option Refusal) → Fits (answer situation request) broken → broken ≡ Some refusal
    by_broken refusal said None fits = absurd (true≢false (sym (ap is_refusal said) ∙ fits))
    by_broken refusal said (Some why) fits =
        let same : Reply.Refused why ≡ Reply.Refused refusal = sym (ap (λ (a : Answer). a.reply) fits) ∙ said in
        let is : why ≡ refusal = cc in ap Some is

-- ---- what no rule refuses

granted : (situation : Situation) (request : Request) → refusal_of situation request ≡ None → is_refusal (answer situation request).reply ≡ false
granted situation request clear = subst (Fits (answer situation request)) clear (answer-fits situation request)

-- the parts of what isn't broken
or-clear : {X : Type 0} (one other : Option X) → option_or one other ≡ None → (one ≡ None) × (other ≡ None)
or-clear None other e = (refl, e)
or-clear (Some x) other e = absurd (some_none e)

pub none-of : {X : Type 0} (found : Option X) → is_some found ≡ false → found ≡ None
none-of None e = refl
none-of (Some x) e = absurd (true≢false e)

some-of : {X : Type 0} (found : Option X) → is_some found ≡ true → (x : X) × (found ≡ Some x)
some-of None e = absurd (true≢false (sym e))
some-of (Some x) e = (x, refl)

event-for : (request : Request) (now due : ℕ) → is_query request ≡ false → is_some (event_of request now due) ≡ true
event-for (Request.Show account) now due asks = absurd (true≢false asks)
event-for (Request.Trace form) now due asks = absurd (true≢false asks)
event-for (Request.Statement form) now due asks = absurd (true≢false asks)
event-for Request.Books now due asks = absurd (true≢false asks)
event-for _ now due asks = refl

no-event-for : (request : Request) (now due : ℕ) → is_query request ≡ true → event_of request now due ≡ None
no-event-for (Request.Show account) now due asks = refl
no-event-for (Request.Trace form) now due asks = refl
no-event-for (Request.Statement form) now due asks = refl
no-event-for Request.Books now due asks = refl
no-event-for _ now due asks = absurd (true≢false (sym asks))

-- where no rule is broken and the content is new, the answer goes by the event
by-event : (situation : Situation) (request : Request) (found : Option EventKind) → first_some (first_rules situation request) ≡ None → position (repeats request) situation.journal ≡ None → broken_rule situation request ≡ None → event_of request situation.now (due_now situation request) ≡ found → answer situation request ≡ answer_by situation request (verdict_by_event situation found)
by-event situation request found allowed new clear brings =
    ap (λ broken. answer_by situation request (verdict_by_right situation request broken)) allowed
    ∙ (ap (λ place. answer_by situation request (verdict_by_place situation request place)) new
    ∙ (ap (λ broken. answer_by situation request (verdict_by_rule situation request broken)) clear
    ∙ ap (λ f. answer_by situation request (verdict_by_event situation f)) brings))

pub brings_its_event : (situation : Situation) (request : Request) → BringsItsEvent situation request
brings_its_event situation request clear fresh asks = (
  event.0,
  record {
    brings = event.1;
    answered = answered;
    granted = granted situation request clear;
    first = λ own. says_its_first_reply situation request (event_at situation event.0) own (ap (λ (said : Answer). said.events) answered);
  },
)
  where
    parts : (first_some (first_rules situation request) ≡ None) × (cond (is_known situation request) None (option_or (broken_rule situation request) (last_rule situation request)) ≡ None)
    parts =
        or-clear (first_some (first_rules situation request))
        (cond (is_known situation request) None (option_or (broken_rule situation request) (last_rule situation request))) clear

    rules : (broken_rule situation request ≡ None) × (last_rule situation request ≡ None)
    rules =
        or-clear (broken_rule situation request) (last_rule situation request)
        (ap (λ known. cond known None (option_or (broken_rule situation request) (last_rule situation request))) (sym fresh) ∙ parts.1)

    event : (kind : EventKind) × (event_of request situation.now (due_now situation request) ≡ Some kind)
    event = some-of (event_of request situation.now (due_now situation request)) (event-for request situation.now (due_now situation request) asks)

    keeps : breaks situation (event_at situation event.0) ≡ None
    keeps = ap (λ found. option_and_then (breaks situation) (option_map (event_at situation) found)) (sym event.1) ∙ rules.1

    answered : answer situation request ≡ appends situation (event_at situation event.0)
    answered =
        by-event situation request (Some event.0) parts.0 (none-of (position (repeats request) situation.journal) fresh) rules.0 event.1
        ∙ ap (fresh_answer situation (event_at situation event.0)) keeps

pub gets_first_reply_again : (situation : Situation) (request : Request) → GetsFirstReplyAgain situation request
gets_first_reply_again situation request clear known = (
  place.0,
  there.0,
  record {
    first = place.1;
    there = there.1;
    answered = repeats_its_first situation request place.0 there.0 allowed place.1 there.1;
    granted = granted situation request clear;
  },
)
  where
    allowed : first_some (first_rules situation request) ≡ None
    allowed =
        (or-clear (first_some (first_rules situation request))
        (cond (is_known situation request) None (option_or (broken_rule situation request) (last_rule situation request))) clear).0

    place : (place : ℕ) × (position (repeats request) situation.journal ≡ Some place)
    place = some-of (position (repeats request) situation.journal) known

    there : (event : Event) × (slice_get situation.journal place.0 ≡ Some event) × (repeats request event ≡ true)
    there = found-there (repeats request) situation.journal place.0 place.1

-- ---- queries

-- no event has the content of a query
not-show : (kind : EventKind) (account : ℕ) → same_request (request_of kind) (Request.Show account) ≡ false
not-show (EventKind.Order placed) account = by_source placed.source
  where
    by_source : (from : Source) → same_request (order_request from placed.receipt placed.order) (Request.Show account) ≡ false
    by_source Source.Direct = refl
    by_source Source.Dealer = refl
not-show _ account = refl

not-trace : (kind : EventKind) (form : TraceForm) → same_request (request_of kind) (Request.Trace form) ≡ false
not-trace (EventKind.Order placed) form = by_source placed.source
  where
    by_source : (from : Source) → same_request (order_request from placed.receipt placed.order) (Request.Trace form) ≡ false
    by_source Source.Direct = refl
    by_source Source.Dealer = refl
not-trace _ form = refl

not-statement : (kind : EventKind) (form : StatementForm) → same_request (request_of kind) (Request.Statement form) ≡ false
not-statement (EventKind.Order placed) form = by_source placed.source
  where
    by_source : (from : Source) → same_request (order_request from placed.receipt placed.order) (Request.Statement form) ≡ false
    by_source Source.Direct = refl
    by_source Source.Dealer = refl
not-statement _ form = refl

not-books : (kind : EventKind) → same_request (request_of kind) Request.Books ≡ false
not-books (EventKind.Order placed) = by_source placed.source
  where
    by_source : (from : Source) → same_request (order_request from placed.receipt placed.order) Request.Books ≡ false
    by_source Source.Direct = refl
    by_source Source.Dealer = refl
not-books _ = refl

pub not-repeated : (request : Request) (event : Event) → is_query request ≡ true → repeats request event ≡ false
not-repeated (Request.Show account) event asks = not-show event.kind account
not-repeated (Request.Trace form) event asks = not-trace event.kind form
not-repeated (Request.Statement form) event asks = not-statement event.kind form
not-repeated Request.Books event asks = not-books event.kind
not-repeated _ event asks = absurd (true≢false (sym asks))

-- so its content isn't known
pub query-new : (situation : Situation) (request : Request) → is_query request ≡ true → position (repeats request) situation.journal ≡ None
query-new situation request asks = by_place (position (repeats request) situation.journal) refl
  where
    by_place : (place : Option ℕ) → position (repeats request) situation.journal ≡ place → place ≡ None
    by_place None found = refl
    by_place (Some place) found =
        let there = found-there (repeats request) situation.journal place found in
        absurd (true≢false (sym there.2 ∙ not-repeated request there.0 asks))

pub shows_what_is_asked : (situation : Situation) (request : Request) → ShowsWhatIsAsked situation request
shows_what_is_asked situation request clear asks = record {
  answered = by-event situation request None parts.0 (query-new situation request asks) rules.0
      (no-event-for request situation.now (due_now situation request) asks);
  granted = granted situation request clear;
}
  where
    parts : (first_some (first_rules situation request) ≡ None) × (cond (is_known situation request) None (option_or (broken_rule situation request) (last_rule situation request)) ≡ None)
    parts =
        or-clear (first_some (first_rules situation request))
        (cond (is_known situation request) None (option_or (broken_rule situation request) (last_rule situation request))) clear

    rules : (broken_rule situation request ≡ None) × (last_rule situation request ≡ None)
    rules =
        or-clear (broken_rule situation request) (last_rule situation request)
        (ap (λ (place : Option ℕ). cond (is_some place) None (option_or (broken_rule situation request) (last_rule situation request))) (sym (query-new situation request asks)) ∙ parts.1)
