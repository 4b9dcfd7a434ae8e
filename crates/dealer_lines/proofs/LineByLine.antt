-- The answers to the lines of a batch, one after the other.
use Rattle.std.proofs.Common.{List, Ok, [], ap, get_or, length, subst, sym, take, ℕ, ◌++◌, ◌+◌, ◌<◌, ◌∙◌, ◌≡◌}
use Rattle.std.proofs.lemmas.List.Sums.{fold_more}
use Rattle.agent_events.specs.VerbForms.{Asked}
use Rattle.agent_events.specs.declared.event.Placed.{Placed}
use Rattle.agent_events.specs.declared.reply.Reply.{Reply}
use Rattle.agent_events.specs.declared.request.LineForm.{LineForm}
use Rattle.agent_events.specs.declared.request.Request.{Request}
use Rattle.agent_events.specs.declared.verdict.Caller.{Caller}
use Rattle.dealer_lines.proofs.AnswersBehind.{line_answered}
use Rattle.dealer_lines.proofs.JournalBehind.{own-behind}
use Rattle.dealer_lines.specs.Answers.{line_answer, said_by_right, with_answer}
use Rattle.dealer_lines.specs.Lines.{line_events}
use Rattle.dealer_lines.specs.Repeats.{placed_before}
use Rattle.dealer_lines.specs.declared.verdicts.LineVerdict.{LineVerdict}
use Rattle.register_laws.specs.Lawful.{own_at}
use Rattle.register_machine.specs.journal.Journals.{Journal}
use Rattle.register_machine.specs.journal.Lawful.{IsLawful}
use Rattle.register_machine.specs.rules.InOrder.{broken_rule}
use Rattle.register_machine.specs.rules.Situations.{Situation, no_right}
use Rattle.register_machine.specs.run.Answers.{answer}
use Rattle.register_machine.specs.run.Batches.{BatchAnswer, batch_after_line, batch_after_lines}

module _ (journal : Journal) (now : ℕ) (caller : Caller) (line : LineForm) (replies : List Reply) (placed : List Placed) where
  abbrev so_far : ℕ → BatchAnswer
  so_far moment = record { replies = replies; events = line_events moment placed }

  -- what is said of the line, as it was asked
  abbrev said-as : Situation → List Placed → Request → LineVerdict
  said-as known earlier request =
      said_by_right known line
      (broken_rule (own_at (journal ++ line_events now earlier) now caller) (Request.Line line))
      (placed_before request (journal ++ line_events now earlier)) (no_right known request)

  abbrev Taken : Situation → ℕ → Request → LineVerdict → Type 0
  Taken known moment request said =
      with_answer (so_far moment) (line_answer moment said) ≡ batch_after_line known (so_far moment) (Ok request)

  taken : IsLawful (journal ++ line_events now placed) → Taken (own_at journal now caller) now (Request.Line line) (said-as (own_at journal now caller) placed (Request.Line line))
  taken lawful =
      ap (with_answer (so_far now))
      (sym (line_answered journal now caller placed line lawful) ∙ ap (λ (s : Situation). answer s (Request.Line line)) (sym (own-behind journal now caller placed)))

  pub line_taken : (known : Situation) (earlier : List Placed) (moment : ℕ) (request : Request) (said : LineVerdict) → known ≡ own_at journal now caller → earlier ≡ placed → moment ≡ now → request ≡ Request.Line line → IsLawful (journal ++ line_events moment placed) → said ≡ said-as known earlier request → Taken known moment request said
  line_taken known earlier moment request said own same then_too is lawful told =
      subst (λ (s : LineVerdict). Taken known moment request s) (sym told)
      (subst (λ (k : Situation). Taken k moment request (said-as k earlier request)) (sym own)
      (subst (λ (r : Request). Taken (own_at journal now caller) moment r (said-as (own_at journal now caller) earlier r)) (sym is)
      (subst (λ (e : List Placed). Taken (own_at journal now caller) moment (Request.Line line) (said-as (own_at journal now caller) e (Request.Line line))) (sym same)
      (subst (λ m. Taken (own_at journal now caller) m (Request.Line line) (said-as (own_at journal now caller) placed (Request.Line line))) (sym then_too)
      (taken (subst (λ m. IsLawful (journal ++ line_events m placed)) then_too lawful))))))

-- ---- one line more

pub taken_more : (situation : Situation) (lines : List Asked) (i : ℕ) (asked : Asked) (before after : BatchAnswer) → i < length lines → asked ≡ get_or lines i asked → before ≡ batch_after_lines situation (take i lines) → after ≡ batch_after_line situation before asked → after ≡ batch_after_lines situation (take (i + 1) lines)
taken_more situation lines i asked before after within at was is =
    is
    ∙ (ap (λ (so : BatchAnswer). batch_after_line situation so asked) was
    ∙ (ap (λ (one : Asked). batch_after_line situation (batch_after_lines situation (take i lines)) one) at
    ∙ sym (fold_more (batch_after_line situation) (record { replies = []; events = [] }) lines i asked within)))
