-- The machine's answer to a line, by its right, by the order that an equal line placed before, and by the first rule that it breaks.
use Rattle.std.proofs.Common.{None, Option, Some, ap, is_some, not, position, refl, slice_get, sym, take, true, ℕ, ◌++◌, ◌∙◌, ◌≡◌}
use Rattle.std.proofs.lemmas.Bool.{true≢false}
use Rattle.std.specs.Option.{option_map_or, option_or}
use Rattle.std.specs.Prelude.{List, option_and_then, unwrap_or}
use Rattle.agent_events.specs.Events.{Event, placed_by_dealer}
use Rattle.agent_events.specs.declared.event.EventKind.{EventKind}
use Rattle.agent_events.specs.declared.event.Placed.{Placed}
use Rattle.agent_events.specs.declared.reply.Refusal.{Refusal}
use Rattle.agent_events.specs.declared.request.LineForm.{LineForm}
use Rattle.agent_events.specs.declared.request.Request.{Request}
use Rattle.agent_events.specs.declared.verdict.Caller.{Caller}
use Rattle.dealer_lines.proofs.JournalBehind.{book-behind}
use Rattle.dealer_lines.proofs.PlacedBefore.{is_placed}
use Rattle.dealer_lines.specs.Answers.{line_answer, said_by_order, said_by_right, said_by_rule}
use Rattle.dealer_lines.specs.Lines.{line_events, placed_in}
use Rattle.dealer_lines.specs.Repeats.{placed_before}
use Rattle.dealer_lines.specs.declared.verdicts.LineVerdict.{LineVerdict}
use Rattle.order_book.proofs.Places.{find-at-position}
use Rattle.register_laws.proofs.RefusedByFirst.{found-there}
use Rattle.register_laws.specs.Lawful.{own_at}
use Rattle.register_machine.specs.journal.Choices.{when}
use Rattle.register_machine.specs.journal.Journals.{Journal}
use Rattle.register_machine.specs.journal.Lawful.{IsLawful}
use Rattle.register_machine.specs.pricing.CorrectedBook.{Book, due_at}
use Rattle.register_machine.specs.pricing.PublishedTable.{table_of}
use Rattle.register_machine.specs.rules.Callers.{may}
use Rattle.register_machine.specs.rules.InOrder.{broken_rule}
use Rattle.register_machine.specs.rules.Situations.{Situation, no_right}
use Rattle.register_machine.specs.run.Answers.{answer, answer_by, refuses, says}
use Rattle.register_machine.specs.run.Replies.{first_reply, reply_by}
use Rattle.register_machine.specs.run.Verdicts.{repeats, verdict_by_place, verdict_by_right, verdict_by_rule}

module _ (behind known : Situation) (line : LineForm) (right-same : no_right behind (Request.Line line) ≡ no_right known (Request.Line line)) (due-same : due_at behind.book line.order.body line.receipt ≡ due_at known.book line.order.body line.receipt) where
  abbrev asked : Request
  asked = Request.Line line

  abbrev broken : Option Refusal
  broken = broken_rule behind asked

  by-rule : (why : Option Refusal) → answer_by behind asked (verdict_by_rule behind asked why) ≡ line_answer behind.now (said_by_rule known line why)
  by-rule (Some refusal) = refl
  by-rule None = ap (λ due. line_answer behind.now (LineVerdict.Places (placed_by_dealer line (unwrap_or due 0)))) due-same

  -- the reply to an order depends on nothing before it
  first-again : (before : Journal) (event : Event) (kind : EventKind) → event.kind ≡ kind → is_some (placed_in kind) ≡ true → says (first_reply before event) ≡ line_answer behind.now (said_by_order known line broken (placed_in kind))
  first-again before event kind same there =
      ap (λ (k : EventKind). says (reply_by (table_of before) before event k)) same ∙ by_kind kind there
    where
      by_kind : (k : EventKind) → is_some (placed_in k) ≡ true → says (reply_by (table_of before) before event k) ≡ line_answer behind.now (said_by_order known line broken (placed_in k))
      by_kind (EventKind.Order placed) h = refl
      by_kind (EventKind.Calendar form) h = absurd (true≢false (sym h))
      by_kind (EventKind.Close form) h = absurd (true≢false (sym h))
      by_kind (EventKind.Class form) h = absurd (true≢false (sym h))
      by_kind (EventKind.Dealer form) h = absurd (true≢false (sym h))
      by_kind (EventKind.Household form) h = absurd (true≢false (sym h))
      by_kind (EventKind.Account form) h = absurd (true≢false (sym h))
      by_kind (EventKind.Cancel form) h = absurd (true≢false (sym h))
      by_kind (EventKind.Sheet form) h = absurd (true≢false (sym h))
      by_kind (EventKind.Dividend form) h = absurd (true≢false (sym h))
      by_kind (EventKind.FixPrice form) h = absurd (true≢false (sym h))
      by_kind (EventKind.FixRate form) h = absurd (true≢false (sym h))
      by_kind (EventKind.Enter form) h = absurd (true≢false (sym h))
      by_kind (EventKind.Replace form) h = absurd (true≢false (sym h))
      by_kind (EventKind.Void form) h = absurd (true≢false (sym h))

  before-at : (found : Option ℕ) → position (repeats asked) behind.journal ≡ found → placed_before asked behind.journal ≡ option_and_then (λ (event : Event). placed_in event.kind) (option_and_then (slice_get behind.journal) found)
  before-at found e =
      ap (option_and_then (λ (event : Event). placed_in event.kind))
      (find-at-position (repeats asked) behind.journal ∙ ap (option_and_then (slice_get behind.journal)) e)

  by-place : (found : Option ℕ) → position (repeats asked) behind.journal ≡ found → answer_by behind asked (verdict_by_place behind asked found) ≡ line_answer behind.now (said_by_order known line broken (placed_before asked behind.journal))
  by-place None e =
      by-rule broken ∙ sym (ap (λ before. line_answer behind.now (said_by_order known line broken before)) (before-at None e))
  by-place (Some place) e =
      let there = found-there (repeats asked) behind.journal place e in
      let event : Event = there.0 in
      ap (λ (found : Option Event). option_map_or (λ (v : Event). says (first_reply (take place behind.journal) v)) found (refuses (Refusal.BadForm 0))) there.1
      ∙ (first-again (take place behind.journal) event event.kind refl (is_placed line event.kind there.2)
      ∙ sym (ap (λ before. line_answer behind.now (said_by_order known line broken before))
      (before-at (Some place) e ∙ ap (option_and_then (λ (v : Event). placed_in v.kind)) there.1)))

  pub answer-by-parts : answer behind asked ≡ line_answer behind.now (said_by_right known line broken (placed_before asked behind.journal) (no_right known asked))
  answer-by-parts = ap (λ (right : Option Refusal). answer_by behind asked (verdict_by_right behind asked (option_or right None))) right-same ∙ by_right (no_right known asked)
    where
      by_right : (right : Option Refusal) → answer_by behind asked (verdict_by_right behind asked (option_or right None)) ≡ line_answer behind.now (said_by_right known line broken (placed_before asked behind.journal) right)
      by_right (Some refusal) = refl
      by_right None = by-place (position (repeats asked) behind.journal) refl

-- behind the orders of earlier lines
pub line_answered : (journal : Journal) (now : ℕ) (caller : Caller) (earlier : List Placed) (line : LineForm) → IsLawful (journal ++ line_events now earlier) → answer (own_at (journal ++ line_events now earlier) now caller) (Request.Line line) ≡ line_answer now (said_by_right (own_at journal now caller) line (broken_rule (own_at (journal ++ line_events now earlier) now caller) (Request.Line line)) (placed_before (Request.Line line) (journal ++ line_events now earlier)) (no_right (own_at journal now caller) (Request.Line line)))
line_answered journal now caller earlier line lawful =
    answer-by-parts (own_at (journal ++ line_events now earlier) now caller) (own_at journal now caller) line
    (ap (λ (book : Book). when (not (may book.accounts caller (Request.Line line))) Refusal.NoRight) (book-behind journal now earlier lawful))
    (ap (λ (book : Book). due_at book line.order.body line.receipt) (book-behind journal now earlier lawful))
