-- What a request's answer is made of: a reply alone, or the event that it brings. The laws of answers follow from it.
use Rattle.std.proofs.Common.{List, None, Option, Some, [], ap, get_or, inl, inr, position, refl, slice_get, sym, take, true, ℕ, ◌∙◌, ◌∷◌, ◌≡◌, ◌⊎◌}
use Rattle.std.proofs.lemmas.Bool.{true≢false}
use Rattle.std.specs.Option.{option_map_or}
use Rattle.agent_events.specs.AnswerTexts.{ok_answer}
use Rattle.agent_events.specs.Events.{Event, event_of, request_of}
use Rattle.agent_events.specs.declared.event.EventKind.{EventKind}
use Rattle.agent_events.specs.declared.reply.Refusal.{Refusal}
use Rattle.agent_events.specs.declared.reply.Reply.{Reply}
use Rattle.agent_events.specs.declared.request.Request.{Request}
use Rattle.share_lots.specs.Lots.{lots_with}
use Rattle.register_laws.proofs.CorrectedAgain.{reply-again}
use Rattle.register_laws.specs.Answers.{AppendsAtMostIt, IsAppended, QueryAppendsNothing, RepeatsItsFirst, SaysItsFirstReply, is_query}
use Rattle.register_machine.specs.journal.Choices.{first_some}
use Rattle.register_machine.specs.pricing.CorrectedBook.{Book}
use Rattle.register_machine.specs.pricing.PublishedTable.{table_of}
use Rattle.register_machine.specs.rules.Breaks.{breaks}
use Rattle.register_machine.specs.rules.InOrder.{broken_rule, first_rules}
use Rattle.register_machine.specs.rules.Situations.{Situation, event_at}
use Rattle.register_machine.specs.run.Answers.{Answer, answer, answer_by, appends, fresh_answer, query_reply, refuses, says}
use Rattle.register_machine.specs.run.Replies.{first_reply, reply_by, reply_of}
use Rattle.register_machine.specs.run.Verdicts.{due_now, repeats, verdict_by_event, verdict_by_place, verdict_by_right, verdict_by_rule}

-- the event of a request asks for that request
asks-same : (request : Request) (now due : ℕ) → option_map_or request_of (event_of request now due) request ≡ request
asks-same (Request.Calendar form) now due = refl
asks-same (Request.Close form) now due = refl
asks-same (Request.Class form) now due = refl
asks-same (Request.Dealer form) now due = refl
asks-same (Request.Household form) now due = refl
asks-same (Request.Account form) now due = refl
asks-same (Request.Sheet form) now due = refl
asks-same (Request.Dividend form) now due = refl
asks-same (Request.FixPrice form) now due = refl
asks-same (Request.FixRate form) now due = refl
asks-same (Request.Enter form) now due = refl
asks-same (Request.Replace form) now due = refl
asks-same (Request.Void form) now due = refl
asks-same (Request.Order order) now due = refl
asks-same (Request.Cancel form) now due = refl
asks-same (Request.Show account) now due = refl
asks-same (Request.Trace form) now due = refl
asks-same (Request.Statement form) now due = refl
asks-same Request.Books now due = refl
asks-same (Request.Line line) now due = refl

pub asks : (request : Request) (now due : ℕ) (kind : EventKind) → event_of request now due ≡ Some kind → request_of kind ≡ request
asks request now due kind e = sym (ap (λ k. option_map_or request_of k request) e) ∙ asks-same request now due

-- What holds of every reply by itself, and of the request's own event where it is new and no rule is broken, holds of every
-- answer.
pub each-new : (C : Answer → Type 0) (situation : Situation) (request : Request) → ((reply : Reply) → C (says reply)) → (first_some (first_rules situation request) ≡ None → position (repeats request) situation.journal ≡ None → broken_rule situation request ≡ None → (kind : EventKind) → event_of request situation.now (due_now situation request) ≡ Some kind → breaks situation (event_at situation kind) ≡ None → C (appends situation (event_at situation kind))) → C (answer situation request)
each-new C situation request ok_answer one = by_right (first_some (first_rules situation request)) refl
  where
    by_break : first_some (first_rules situation request) ≡ None → position (repeats request) situation.journal ≡ None → broken_rule situation request ≡ None → (kind : EventKind) → event_of request situation.now (due_now situation request) ≡ Some kind → (broken : Option Refusal) → breaks situation (event_at situation kind) ≡ broken → C (fresh_answer situation (event_at situation kind) broken)
    by_break allowed new clear kind e None keeps = one allowed new clear kind e keeps
    by_break allowed new clear kind e (Some why) keeps = ok_answer (Reply.Refused why)

    by_event : first_some (first_rules situation request) ≡ None → position (repeats request) situation.journal ≡ None → broken_rule situation request ≡ None → (found : Option EventKind) → event_of request situation.now (due_now situation request) ≡ found → C (answer_by situation request (verdict_by_event situation found))
    by_event allowed new clear None e = ok_answer (query_reply situation request)
    by_event allowed new clear (Some kind) e =
        by_break allowed new clear kind e (breaks situation (event_at situation kind)) refl

    by_rule : first_some (first_rules situation request) ≡ None → position (repeats request) situation.journal ≡ None → (broken : Option Refusal) → broken_rule situation request ≡ broken → C (answer_by situation request (verdict_by_rule situation request broken))
    by_rule allowed new (Some why) e = ok_answer (Reply.Refused why)
    by_rule allowed new None e = by_event allowed new e (event_of request situation.now (due_now situation request)) refl

    by_first : (place : ℕ) (found : Option Event) → C (option_map_or (λ event. says (first_reply (take place situation.journal) event)) found (refuses (Refusal.BadForm 0)))
    by_first place None = ok_answer (Reply.Refused (Refusal.BadForm 0))
    by_first place (Some event) = ok_answer (first_reply (take place situation.journal) event)

    by_place : first_some (first_rules situation request) ≡ None → (place : Option ℕ) → position (repeats request) situation.journal ≡ place → C (answer_by situation request (verdict_by_place situation request place))
    by_place allowed (Some place) new = by_first place (slice_get situation.journal place)
    by_place allowed None new = by_rule allowed new (broken_rule situation request) refl

    by_right : (broken : Option Refusal) → first_some (first_rules situation request) ≡ broken → C (answer_by situation request (verdict_by_right situation request broken))
    by_right (Some why) e = ok_answer (Reply.Refused why)
    by_right None e = by_place e (position (repeats request) situation.journal) refl

pub each-answer : (C : Answer → Type 0) (situation : Situation) (request : Request) → ((reply : Reply) → C (says reply)) → ((kind : EventKind) → event_of request situation.now (due_now situation request) ≡ Some kind → C (appends situation (event_at situation kind))) → C (answer situation request)
each-answer C situation request ok_answer one = each-new C situation request ok_answer (λ allowed new clear kind e keeps. one kind e)

pub appends_at_most_it : (situation : Situation) (request : Request) → AppendsAtMostIt situation request
appends_at_most_it situation request =
    each-new (λ ok_answer. (ok_answer.events ≡ []) ⊎ IsAppended situation request ok_answer.events) situation request (λ reply. inl refl)
    (λ allowed new clear kind e keeps. inr (record {
      kind = kind;
      one = refl;
      asked = asks request situation.now (due_now situation request) kind e;
      brings = e;
      allowed = allowed;
      new = new;
      clear = clear;
      keeps = keeps;
    }))

-- ---- queries, refusals, repeats

is_event : (request : Request) (now due : ℕ) (kind : EventKind) → is_query request ≡ true → event_of request now due ≡ Some kind → ⊥
is_event (Request.Calendar form) now due kind q e = true≢false (sym q)
is_event (Request.Close form) now due kind q e = true≢false (sym q)
is_event (Request.Class form) now due kind q e = true≢false (sym q)
is_event (Request.Dealer form) now due kind q e = true≢false (sym q)
is_event (Request.Household form) now due kind q e = true≢false (sym q)
is_event (Request.Account form) now due kind q e = true≢false (sym q)
is_event (Request.Sheet form) now due kind q e = true≢false (sym q)
is_event (Request.Dividend form) now due kind q e = true≢false (sym q)
is_event (Request.FixPrice form) now due kind q e = true≢false (sym q)
is_event (Request.FixRate form) now due kind q e = true≢false (sym q)
is_event (Request.Enter form) now due kind q e = true≢false (sym q)
is_event (Request.Replace form) now due kind q e = true≢false (sym q)
is_event (Request.Void form) now due kind q e = true≢false (sym q)
is_event (Request.Order order) now due kind q e = true≢false (sym q)
is_event (Request.Cancel form) now due kind q e = true≢false (sym q)
is_event (Request.Show account) now due kind q e = cc
is_event (Request.Trace form) now due kind q e = cc
is_event (Request.Statement form) now due kind q e = cc
is_event Request.Books now due kind q e = cc
is_event (Request.Line line) now due kind q e = true≢false (sym q)

pub query_appends_nothing : (situation : Situation) (request : Request) → QueryAppendsNothing situation request
query_appends_nothing situation request q =
    each-answer (λ ok_answer. ok_answer.events ≡ []) situation request (λ reply. refl)
    (λ kind e. absurd (is_event request situation.now (due_now situation request) kind q e))

pub repeats_its_first : (situation : Situation) (request : Request) (place : ℕ) (event : Event) → RepeatsItsFirst situation request place event
repeats_its_first situation request place event allowed known there = rw (allowed, known, there) refl

-- the reply to an event is no refusal
pub no_refusal : (situation : Situation) (event : Event) (kind : EventKind) (refusal : Refusal) → reply_by situation.book.table situation.journal event kind ≡ Reply.Refused refusal → ⊥
no_refusal situation event (EventKind.Calendar form) why e = cc
no_refusal situation event (EventKind.Close form) why e = cc
no_refusal situation event (EventKind.Class form) why e = cc
no_refusal situation event (EventKind.Dealer form) why e = cc
no_refusal situation event (EventKind.Household form) why e = cc
no_refusal situation event (EventKind.Account form) why e = cc
no_refusal situation event (EventKind.Order lots_with) why e = cc
no_refusal situation event (EventKind.Cancel form) why e = cc
no_refusal situation event (EventKind.Sheet form) why e = cc
no_refusal situation event (EventKind.Dividend form) why e = cc
no_refusal situation event (EventKind.FixPrice form) why e = cc
no_refusal situation event (EventKind.FixRate form) why e = cc
no_refusal situation event (EventKind.Enter form) why e = cc
no_refusal situation event (EventKind.Replace form) why e = cc
no_refusal situation event (EventKind.Void form) why e = cc

-- ---- the first reply

pub says_its_first_reply : (situation : Situation) (request : Request) (event : Event) → SaysItsFirstReply situation request event
says_its_first_reply situation request event own =
    each-answer (λ ok_answer. ok_answer.events ≡ event ∷ [] → ok_answer.reply ≡ first_reply situation.journal event) situation request
    (λ reply none. absurd (no_event none))
    (λ kind e one. ap (λ (events : List Event). reply_of situation.book.table situation.journal (get_or events 0 event)) one
    ∙ (ap (λ (book : Book). reply_of book.table situation.journal event) own ∙ reply-again (table_of situation.journal) situation.journal event))
  where
    no_event : [] ≡ event ∷ [] → ⊥
    no_event h = cc
