-- The answer to the event that a request brings: its first reply, and the event, which then follows the journal; or the refusal of
-- the last rule, which is the same whoever asks.
use Rattle.std.proofs.Common.{None, Option, Some, [], ap, false, is_some, refl, subst, sym, true, ℕ, ◌++◌, ◌||◌, ◌∙◌, ◌∷◌, ◌≡◌, ◌≤◌}
use Rattle.std.proofs.lemmas.Bool.{true≢false}
use Rattle.agent_events.specs.Events.{Event}
use Rattle.agent_events.specs.declared.event.EventKind.{EventKind}
use Rattle.agent_events.specs.declared.order.Bearer.{Bearer}
use Rattle.agent_events.specs.declared.reply.Refusal.{Refusal}
use Rattle.agent_events.specs.declared.reply.Reply.{Reply}
use Rattle.agent_events.specs.declared.request.Request.{Request}
use Rattle.agent_events.specs.declared.verdict.Caller.{Caller}
use Rattle.agent_events.specs.declared.verdict.Verdict.{Verdict}
use Rattle.checkpoint_replay.specs.Moves.{households_of}
use Rattle.desk_books.specs.CorrectionTrials.{IsFresh, last_says}
use Rattle.register_desk.proofs.Verdicts.{fresh_moment}
use Rattle.register_desk.specs.Answered.{IsCaller}
use Rattle.register_desk.specs.Fresh.{FollowsUnlessBroken, first_answer, ledger_of, moves_in}
use Rattle.register_desk.specs.Steps.{TakesSteps}
use Rattle.desk_books.specs.declared.change.EventChange.{EventChange}
use Rattle.register_laws.specs.EventReplays.{is_correction, is_sheet}
use Rattle.register_laws.proofs.CorrectedAgain.{reply-again}
use Rattle.register_laws.proofs.RunsAreLawful.{IsAmong, answer_is_lawful}
use Rattle.register_laws.specs.Lawful.{own_at}
use Rattle.register_machine.specs.corrections.Payments.{bearer_in}
use Rattle.register_machine.specs.journal.Journals.{Journal, last_moment}
use Rattle.register_machine.specs.journal.Kinds.{dealers_of}
use Rattle.register_machine.specs.journal.Lawful.{IsLawful}
use Rattle.register_machine.specs.pricing.PublishedTable.{table_of}
use Rattle.register_machine.specs.rules.Breaks.{breaks, breaks_by}
use Rattle.register_machine.specs.run.Answers.{Answer, answer, answer_by, fresh_answer}
use Rattle.register_machine.specs.run.Verdicts.{verdict}
use Rattle.desk_books.specs.SheetReach.{TakeOneStepEach}

-- ---- the last rule

-- it looks at neither the caller nor the moment
breaks-same : (journal : Journal) (now moment : ℕ) (caller other : Caller) (event : Event) (bearer : Option Bearer) → breaks_by bearer (own_at journal now caller) event ≡ breaks_by bearer (own_at journal moment other) event
breaks-same journal now moment caller other event None = refl
breaks-same journal now moment caller other event (Some bearer) = refl

-- and says nothing of what is no correction
pub says_nothing : (journal : Journal) (event : Event) → is_correction event.kind ≡ false → last_says journal event ≡ None
says_nothing journal event e = by_bearer (bearer_in event.kind) e
  where
    by_bearer : (bearer : Option Bearer) → is_some bearer ≡ false → breaks_by bearer (own_at journal event.moment Caller.Operator) event ≡ None
    by_bearer None h = refl
    by_bearer (Some bearer) h = absurd (true≢false h)

pub sheet_is_none : (kind : EventKind) → is_sheet kind ≡ true → is_correction kind ≡ false
sheet_is_none (EventKind.FixPrice form) e = absurd (true≢false (sym e))
sheet_is_none (EventKind.FixRate form) e = absurd (true≢false (sym e))
sheet_is_none (EventKind.Enter form) e = absurd (true≢false (sym e))
sheet_is_none (EventKind.Replace form) e = absurd (true≢false (sym e))
sheet_is_none (EventKind.Void form) e = absurd (true≢false (sym e))
sheet_is_none _ e = refl

-- a sheet takes one step for each household that it moves, and is no correction
pub sheet_steps : (journal : Journal) (event : Event) (change : Option EventChange) (before after : ℕ) → is_sheet event.kind ≡ true → TakeOneStepEach journal event (households_of (moves_in (ledger_of change))) before after → TakesSteps journal event change before after
sheet_steps journal event change before after e each = record {
  sheet = λ _. each;
  correction = λ h. absurd (true≢false (sym h ∙ sheet_is_none event.kind e));
  other = λ h. absurd (true≢false (sym (ap (λ b. b || is_correction event.kind) e) ∙ h));
}

-- and an event that is neither a sheet nor a correction takes none
pub plain_steps : (journal : Journal) (event : Event) (change : Option EventChange) (steps : ℕ) → is_sheet event.kind ≡ false → is_correction event.kind ≡ false → TakesSteps journal event change steps steps
plain_steps journal event change steps no_sheet no_correction = record {
  sheet = λ h. absurd (true≢false (sym h ∙ no_sheet));
  correction = λ h. absurd (true≢false (sym h ∙ no_correction));
  other = λ _. refl;
}

-- ---- the answer

abbrev with_reply : Event → Reply → Answer
with_reply event reply = record { reply = reply; events = event ∷ [] }

fresh-said : (journal : Journal) (now : ℕ) (caller : Caller) (event : Event) (broken : Option Refusal) → fresh_answer (own_at journal now caller) event broken ≡ first_answer journal event broken
fresh-said journal now caller event None = ap (with_reply event) (reply-again (table_of journal) journal event)
fresh-said journal now caller event (Some why) = refl

pub fresh_answered : (journal : Journal) (now : ℕ) (caller : Caller) (request : Request) (event : Event) → verdict (own_at journal now caller) request ≡ Verdict.Fresh event → answer (own_at journal now caller) request ≡ first_answer journal event (last_says journal event)
fresh_answered journal now caller request event e =
    ap (λ (said : Verdict). answer_by (own_at journal now caller) request said) e
    ∙ (fresh-said journal now caller event (breaks (own_at journal now caller) event)
    ∙ ap (λ (broken : Option Refusal). first_answer journal event broken)
    (breaks-same journal now event.moment caller Caller.Operator event (bearer_in event.kind)))

-- ---- the event follows

is-among : (journal : Journal) (caller : Caller) → IsCaller journal caller → IsAmong (dealers_of journal) caller
is-among journal Caller.Operator is = tt
is-among journal (Caller.Household household) is = tt
is-among journal (Caller.Dealer dealer) is = is
is-among journal Caller.Stranger is = tt

pub fresh_follows : (journal : Journal) (now : ℕ) (caller : Caller) (request : Request) (event : Event) → IsLawful journal → last_moment journal ≤ now → IsCaller journal caller → verdict (own_at journal now caller) request ≡ Verdict.Fresh event → FollowsUnlessBroken journal event
fresh_follows journal now caller request event lawful late known e keeps =
    subst (λ (said : Answer). IsLawful (journal ++ said.events))
    (fresh_answered journal now caller request event e ∙ ap (λ (broken : Option Refusal). first_answer journal event broken) keeps)
    (answer_is_lawful journal now caller request (is-among journal caller known) late lawful)

-- and is what a request brings
pub is_fresh : (journal : Journal) (now : ℕ) (caller : Caller) (request : Request) (event : Event) → verdict (own_at journal now caller) request ≡ Verdict.Fresh event → IsFresh journal event
is_fresh journal now caller request event e = record {
  caller = caller;
  request = request;
  fresh = subst (λ moment. verdict (own_at journal moment caller) request ≡ Verdict.Fresh event) (sym (fresh_moment (own_at journal now caller) request event e)) e;
}
