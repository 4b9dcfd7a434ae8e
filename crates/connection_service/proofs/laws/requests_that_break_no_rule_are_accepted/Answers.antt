-- The proof of the law `requests_that_break_no_rule_are_accepted`.
use Rattle.std.proofs.Common.{List, None, Option, Some, ap, append-nil, inl, inr, option_map, refl, subst, sym, ℕ, ◌++◌, ◌∙◌, ◌≡◌, ◌⊎◌}
use Rattle.std.specs.Prelude.{Bool, false}
use Rattle.agent_events.specs.declared.reply.Refusal.{Refusal}
use Rattle.agent_events.specs.declared.reply.Reply.{Reply}
use Rattle.agent_events.specs.declared.request.Request.{Request}
use Rattle.connection_service.proofs.laws.requests_that_break_no_rule_are_accepted.Goals as goal
use Rattle.connection_service.specs.Answers.{AnswersBy, Gets, IsAnswered, Kept, kept_at, said_to_request, situation_read}
use Rattle.connection_service.specs.Requests.{IsRuled, SaysUnkept}
use Rattle.agent_http.specs.Calls.{item_key}
use Rattle.agent_http.specs.Bytes.{bytes_of}
use Rattle.register_laws.proofs.Choosing.{none_some}
use Rattle.register_laws.specs.Completeness.{BringsItsEvent, IsRefusedByFirst, is_refusal, refusal_of}
use Rattle.register_machine.specs.journal.Journals.{Journal}
use Rattle.register_machine.specs.rules.Situations.{Situation, event_at}
use Rattle.register_machine.specs.run.Answers.{Answer, answer}

no-refusal : (reply : Reply) → ((refusal : Refusal) → reply ≡ Reply.Refused refusal → ⊥) → is_refusal reply ≡ false
no-refusal (Reply.Refused refusal) none = absurd (none refusal refl)
no-refusal _ none = refl

-- what was answered goes by the first rule that is broken
gets-ruled : (last : Bool) (situation : Situation) (request : Request) (old : Kept) (bytes : List ℕ) (new : Kept) → IsRefusedByFirst situation request → BringsItsEvent situation request
    → Gets last (said_to_request last request situation) old bytes new → SaysUnkept last bytes ⊎ IsRuled (refusal_of situation request) situation request last old bytes new
gets-ruled last situation request old bytes new first brings (Gets.NoMemory is next) = inl (inr is)
gets-ruled last situation request old bytes new first brings (Gets.NotKept is some rose next) = inl (inl is)
gets-ruled last situation request old bytes new first brings (Gets.Answered is next) = inr (by-rule (refusal_of situation request) refl)
  where
    by-rule : (broken : Option Refusal) → refusal_of situation request ≡ broken → IsRuled broken situation request last old bytes new
    by-rule (Some refusal) broken =
        let said = first.refused refusal broken in (
          is ∙ ap (λ (answered : Answer). bytes_of answered.reply last) said,
          next
              ∙ ap (λ (answered : Answer). kept_at (old.journal ++ answered.events) old.faults) said
              ∙ ap (λ (journal : Journal). kept_at journal old.faults) (append-nil old.journal),
        )
    by-rule None clear = record {
      reply = (answer situation request).reply;
      said = is;
      granted = no-refusal (answer situation request).reply (λ refusal said. none_some (sym clear ∙ first.only refusal said));
      kept = λ unknown no_look.
          let (kind, one) = brings clear unknown no_look in (
            event_at situation kind,
            ap (λ found. option_map (event_at situation) found) one.brings,
            ap (λ (kept : Kept). kept.journal) next ∙ ap (λ (answered : Answer). old.journal ++ answered.events) one.answered,
          );
    }

pub returns : goal.returns
returns c operator item request last old bytes new asks answers =
    let is : IsAnswered operator (item_key item) last (said_to_request last request) old bytes new =
    subst (λ answer. AnswersBy operator (item_key item) last answer old bytes new) asks answers in
    let situation = situation_read operator old.kept.journal (item_key item) is.reading in
    record {
      reading = is.reading;
      read = is.read;
      ruled = gets-ruled last situation request old.kept bytes new.kept
          (c.requests_are_refused_by_the_first_rule_broken.ensures situation request)
          (c.requests_that_break_no_rule_bring_their_event.ensures situation request)
          is.gets;
    }
