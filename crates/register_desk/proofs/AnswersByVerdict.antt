-- The answer and its steps, by the verdict: what a repeat, a look and a new event are answered is the machine's answer.
use Rattle.std.proofs.Common.{None, Option, Result, ap, subst, sym, ℕ, ◌∙◌, ◌≡◌}
use Rattle.std.proofs.lemmas.Result.{IfOk-weaker}
use Rattle.std.specs.Prelude.{IfOk}
use Rattle.agent_events.specs.Events.{Event}
use Rattle.agent_events.specs.declared.request.Request.{Request}
use Rattle.agent_events.specs.declared.verdict.Caller.{Caller}
use Rattle.agent_events.specs.declared.verdict.Verdict.{Verdict}
use Rattle.desk_books.specs.CorrectionTrials.{last_says}
use Rattle.register_desk.proofs.FreshAnswers.{fresh_answered}
use Rattle.register_desk.specs.Answered.{IsAnswer, answer_given}
use Rattle.register_desk.specs.Fresh.{first_answer}
use Rattle.register_desk.specs.Steps.{AreStepsOf, TakesSteps}
use Rattle.register_desk.specs.declared.answering.Answered.{Answered}
use Rattle.desk_books.specs.declared.change.EventChange.{EventChange}
use Rattle.register_laws.specs.Lawful.{own_at}
use Rattle.register_machine.specs.journal.Journals.{Journal}
use Rattle.register_machine.specs.run.Answers.{answer_by, query_reply, repeat_answer, says}
use Rattle.register_machine.specs.run.Verdicts.{verdict}

pub again_said : {E : Type 0} (journal : Journal) (now : ℕ) (caller : Caller) (request : Request) (place : ℕ) (result : Result Answered E) → verdict (own_at journal now caller) request ≡ Verdict.Again place → IfOk result (λ answered. answer_given answered ≡ repeat_answer journal place) → IfOk result (IsAnswer journal now caller request)
again_said journal now caller request place result e given =
    IfOk-weaker result (λ answered. answer_given answered ≡ repeat_answer journal place) (IsAnswer journal now caller request)
    (λ answered is. ap (λ (said : Verdict). answer_by (own_at journal now caller) request said) e ∙ sym is) given

pub look_said : {E : Type 0} (journal : Journal) (now : ℕ) (caller : Caller) (request : Request) (result : Result Answered E) → verdict (own_at journal now caller) request ≡ Verdict.Query → IfOk result (λ answered. (moment : ℕ) (other : Caller) → answer_given answered ≡ says (query_reply (own_at journal moment other) request)) → IfOk result (IsAnswer journal now caller request)
look_said journal now caller request result e given =
    IfOk-weaker result (λ answered. (moment : ℕ) (other : Caller) → answer_given answered ≡ says (query_reply (own_at journal moment other) request)) (IsAnswer journal now caller request)
    (λ answered is. ap (λ (said : Verdict). answer_by (own_at journal now caller) request said) e ∙ sym (is now caller)) given

pub fresh_said : {E : Type 0} (journal known : Journal) (now : ℕ) (caller : Caller) (request : Request) (event : Event) (result : Result Answered E) → known ≡ journal → verdict (own_at journal now caller) request ≡ Verdict.Fresh event → IfOk result (λ answered. answer_given answered ≡ first_answer journal event (last_says journal event)) → IfOk result (IsAnswer known now caller request)
fresh_said journal known now caller request event result same e given =
    subst (λ (j : Journal). IfOk result (IsAnswer j now caller request)) (sym same)
    (IfOk-weaker result (λ answered. answer_given answered ≡ first_answer journal event (last_says journal event)) (IsAnswer journal now caller request)
    (λ answered is. fresh_answered journal now caller request event e ∙ sym is) given)

pub fresh_steps : {E : Type 0} (journal : Journal) {said : Verdict} {event : Event} (before after : ℕ) (result : Result Answered E) → said ≡ Verdict.Fresh event → IfOk result (λ answered. TakesSteps journal event answered.change before after) → IfOk result (λ answered. AreStepsOf journal said answered.change before after)
fresh_steps journal before after result e taken =
    subst (λ (v : Verdict). IfOk result (λ (answered : Answered). AreStepsOf journal v answered.change before after)) (sym e) taken

-- what isn't new takes no step
pub none_steps : {E : Type 0} (journal : Journal) {said : Verdict} (kind : Verdict) (count : ℕ) (result : Result Answered E) → said ≡ kind → ((change : Option EventChange) → AreStepsOf journal kind change count count) → IfOk result (λ answered. answered.change ≡ None) → IfOk result (λ answered. AreStepsOf journal said answered.change count count)
none_steps journal {said = said} kind count result e all nothing =
    IfOk-weaker result (λ answered. answered.change ≡ None) (λ answered. AreStepsOf journal said answered.change count count)
    (λ answered is. subst (λ (v : Verdict). AreStepsOf journal v answered.change count count) (sym e) (all answered.change)) nothing
