-- The opening bound of a journal with an event more, and the steps that its rows take in turn.
use Rattle.std.proofs.Common.{Err, List, None, Ok, Option, Result, Some, [], ap, append-nil, append_assoc, arith, inl, inr, slice_get, subst, sym, take, ℕ, ◌++◌, ◌+◌, ◌∙◌, ◌∷◌, ◌≡◌, ◌≤◌}
use Rattle.std.proofs.lemmas.Result.{IfOk-weaker}
use Rattle.std.specs.Prelude.{IfOk, IfSome}
use Rattle.agent_events.specs.Events.{Event}
use Rattle.agent_keeper.specs.Calls.{Answer}
use Rattle.agent_keeper.specs.Content.{Content}
use Rattle.register_desk.specs.StepBounds.{AreFewSteps, most_steps}
use Rattle.desk_books.specs.ReadyChanges.{IsReady}
use Rattle.desk_books.specs.declared.books.DeskBooks.{DeskBooks}
use Rattle.desk_books.specs.declared.change.EventChange.{EventChange}
use Rattle.event_rows.specs.InForm.{InForm}
use Rattle.event_rows.specs.Rows.{event_row}
use Rattle.register_desk.specs.Opening.{OpensRows}
use Rattle.register_desk.specs.OpeningBounds.{TakesUpToBad, TakesWhereBad, bound_behind, opening_bound}
use Rattle.register_machine.specs.journal.Journals.{Journal, with_event}

-- ---- one event more

bound-more : (journal later : Journal) (event : Event) → bound_behind journal (later ++ event ∷ []) ≡ bound_behind journal later + most_steps (journal ++ later) event
bound-more journal [] event =
    let one : most_steps journal event + 0 ≡ 0 + most_steps journal event = omega arith in
    one ∙ ap (λ (known : Journal). 0 + most_steps known event) (sym (append-nil journal))
bound-more journal (first ∷ later) event =
    let rest = bound-more (with_event journal first) later event in
    let last = ap (λ (known : Journal). most_steps known event) (append_assoc journal (first ∷ []) later) in
    omega (arith, rest, last)

pub bound_more : (journal : Journal) (event : Event) → opening_bound (with_event journal event) ≡ opening_bound journal + most_steps journal event
bound_more journal event = bound-more [] journal event

-- ---- one row

-- by the event that was found
pub found_few : {E : Type 0} (journal : Journal) (event : Event) (books : DeskBooks) (before after : ℕ) (result : Result (Option EventChange) E) → IfOk result (λ found. IfSome found (λ change. (change.event ≡ event) × IsReady books change))
    → IfOk result (λ found. AreFewSteps journal event found before after) → IfOk result (λ found. IfSome found (λ change. after ≤ before + most_steps journal change.event))
found_few journal event books before after (Err fault) is few = tt
found_few journal event books before after (Ok None) is few = tt
found_few journal event books before after (Ok (Some change)) is few = subst (λ (v : Event). after ≤ before + most_steps journal v) (sym is.0) few

-- where none was found
bad-few : (journal : Journal) (event : Event) (row : List ℕ) (before after : ℕ) (found : Option EventChange) → InForm event → row ≡ event_row event → AreFewSteps journal event found before after
    → found ≡ None → TakesWhereBad (Some row) journal before after
bad-few journal event row before after None fits is (inl same) none = inl (omega (arith, same))
bad-few journal event row before after None fits is (inr (corrects, few)) none = inr (event, fits, ap Some is, inr (corrects, few))
bad-few journal event row before after (Some change) fits is few none = absurd (some-is none)
  where
    some-is : Some change ≡ None → ⊥
    some-is h = cc

pub none_few : {E : Type 0} (journal : Journal) (event : Event) (row : List ℕ) (before after : ℕ) (result : Result (Option EventChange) E) → InForm event → row ≡ event_row event
    → IfOk result (λ found. AreFewSteps journal event found before after) → IfOk result (λ found. found ≡ None → TakesWhereBad (Some row) journal before after)
none_few journal event row before after result fits is few =
    IfOk-weaker result (λ found. AreFewSteps journal event found before after) (λ found. found ≡ None → TakesWhereBad (Some row) journal before after)
    (λ found here. bad-few journal event row before after found fits is here) few

-- ---- rows in turn

-- the bound grows by what the event counts
pub grows_by : (journal next : Journal) (event : Event) (before after : ℕ) → next ≡ with_event journal event → after ≤ before + most_steps journal event → after + opening_bound journal ≤ before + opening_bound next
grows_by journal next event before after noted few =
    let more = ap opening_bound noted ∙ bound_more journal event in
    omega (arith, more, few)

pub grows_then : (first journal next before after : ℕ) → before ≤ first + journal → after + journal ≤ before + next → after ≤ first + next
grows_then first journal next before after so_far row = omega (arith, so_far, row)

pub bad_behind : (row : Option (List ℕ)) (journal : Journal) (first before after : ℕ) → before ≤ first → TakesWhereBad row journal before after → TakesWhereBad row journal first after
bad_behind row journal first before after less (inl none) = inl (omega (arith, less, none))
bad_behind row journal first before after less (inr (event, fits, is, inl same)) = inl (omega (arith, less, same))
bad_behind row journal first before after less (inr (event, fits, is, inr (corrects, few))) = inr (event, fits, is, inr (corrects, omega (arith, less, few)))

-- the bad row behind those that were read
pub takes_up_to_bad : {K : Type 0} (tells : K → Content → Type 0) (moment : K → ℕ) (gave : K → ℕ → Answer → Type 0) (old mid : K) (place : ℕ) (books : DeskBooks) (kept : Content) (first before after : ℕ)
    → OpensRows tells moment gave old mid place books → tells mid kept → before ≤ first + opening_bound books.book.journal → TakesWhereBad (slice_get kept.rows place) books.book.journal before after
    → TakesUpToBad place kept.rows first after
takes_up_to_bad tells moment gave old mid place books kept first before after opened told few bad = record {
  journal = books.book.journal;
  lawful = opened.desk.of_journal.lawful;
  in_form = opened.desk.in_form;
  rows = ap (λ n. take n kept.rows) (sym opened.counted) ∙ opened.shown.told kept told;
  few = bad_behind (slice_get kept.rows place) books.book.journal (first + opening_bound books.book.journal) before after few bad;
}
