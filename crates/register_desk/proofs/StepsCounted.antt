-- The steps of an event, by how many households it reaches.
use Rattle.std.proofs.Common.{Bool, List, None, Option, Some, ap, arith, false, inl, inr, length, refl, subst, sym, true, ℕ, ◌*◌, ◌+◌, ◌||◌, ◌∙◌, ◌≡◌, ◌≤◌}
use Rattle.std.proofs.Math.Nat.{mul-le-mul}
use Rattle.std.proofs.lemmas.Bool.{true≢false}
use Rattle.std.specs.List.Sorted.{IsStrictlyIncreasing}
use Rattle.std.specs.Prelude.{IfSome}
use Rattle.agent_events.specs.Events.{Event}
use Rattle.agent_events.specs.declared.event.EventKind.{EventKind}
use Rattle.checkpoint_replay.specs.Moves.{households_of}
use Rattle.desk_books.proofs.TrialSteps.{rising_differ}
use Rattle.desk_books.specs.Naming.{IsNaming}
use Rattle.desk_books.specs.HouseholdsReopened.{household_alone}
use Rattle.register_desk.proofs.CountedHouseholds.{class_count, sheet_count}
use Rattle.register_desk.specs.Fresh.{ledger_of, moves_in}
use Rattle.register_desk.specs.StepBounds.{AreFewSteps, account_reach, class_reach, most_steps, most_steps_of}
use Rattle.register_desk.specs.Steps.{AreStepsFound, StepsWhereReached, TakesSteps}
use Rattle.desk_books.specs.ReadyChanges.{IsReady}
use Rattle.desk_books.specs.declared.books.DeskBooks.{DeskBooks}
use Rattle.desk_books.specs.declared.change.EventChange.{EventChange}
use Rattle.register_laws.specs.EventReplays.{is_correction, is_sheet}
use Rattle.register_laws.specs.Lawful.{book_behind}
use Rattle.register_machine.specs.journal.Journals.{Journal, with_event}
use Rattle.register_machine.specs.journal.Lawful.{IsLawful}

-- at most so many for each of no more households
within : (few most sheets before after : ℕ) → few ≤ most → after ≤ before + few * sheets → after ≤ before + most * sheets
within few most sheets before after less steps =
    let all : few * sheets ≤ most * sheets = mul-le-mul {n₁ = few} {m₁ = sheets} {n₂ = most} {m₂ = sheets} less (omega arith) in
    omega (arith, all, steps)

-- ---- a correction, whether it is refused or not

module _ (journal : Journal) (before after : ℕ) (lawful : IsLawful journal) where
  of-class : (class : ℕ) → (households : List ℕ) × IsStrictlyIncreasing households × IsNaming (book_behind journal) class households × (after ≤ before + length households * length (book_behind journal).table.sheets)
      → after ≤ before + class_reach journal class * length (book_behind journal).table.sheets
  of-class class (households, rising, naming, few) =
      within (length households) (class_reach journal class) (length (book_behind journal).table.sheets) before after
      (class_count journal class households lawful (rising_differ households rising) naming.own) few

  of-account : (account : ℕ) → (households : List ℕ) × IsStrictlyIncreasing households × (households ≡ household_alone journal account) × (after ≤ before + length households * length (book_behind journal).table.sheets)
      → after ≤ before + account_reach journal account * length (book_behind journal).table.sheets
  of-account account (households, rising, alone, few) =
      subst (λ (hs : List ℕ). after ≤ before + length hs * length (book_behind journal).table.sheets) alone few

  correction-within : (event : Event) (kind : EventKind) → is_correction kind ≡ true → StepsWhereReached journal kind before after → after ≤ before + most_steps_of journal event kind
  correction-within event (EventKind.FixPrice form) is few = of-class form.class few
  correction-within event (EventKind.FixRate form) is few = of-class form.class few
  correction-within event (EventKind.Enter form) is few = of-account form.order.account few
  correction-within event (EventKind.Replace form) is few = of-account form.order.account few
  correction-within event (EventKind.Void form) is few = of-account form.account few
  correction-within event _ is few = absurd (true≢false (sym is))

  pub correction_within : (event : Event) → is_correction event.kind ≡ true → StepsWhereReached journal event.kind before after → after ≤ before + most_steps journal event
  correction_within event is few = correction-within event event.kind is few

  -- ---- an event that follows

  sheet-within : (event : Event) (kind : EventKind) (change : Option EventChange) → event.kind ≡ kind → IsLawful (with_event journal event) → TakesSteps journal event change before after → is_sheet kind ≡ true → after ≤ before + most_steps_of journal event kind
  sheet-within event (EventKind.Sheet form) change is follows steps sheet =
      let each = steps.sheet (ap is_sheet is) in
      let few = sheet_count journal event form (households_of (moves_in (ledger_of change))) follows is each.apart (each.reached form is) in
      omega (arith, each.count, few)
  sheet-within event _ change is follows steps sheet = absurd (true≢false (sym sheet))

  none-within : (most : ℕ) → after ≡ before → after ≤ before + most
  none-within most same = omega (arith, same)

  pub found_within : (event : Event) (change : Option EventChange) → IsLawful (with_event journal event) → TakesSteps journal event change before after → after ≤ before + most_steps journal event
  found_within event change follows steps = by_kind (is_sheet event.kind) (is_correction event.kind) refl refl
    where
      by_kind : (sheet correction : Bool) → is_sheet event.kind ≡ sheet → is_correction event.kind ≡ correction → after ≤ before + most_steps journal event
      by_kind true correction sheet corrects = sheet-within event event.kind change refl follows steps sheet
      by_kind false true sheet corrects = correction_within event corrects (steps.correction corrects)
      by_kind false false sheet corrects = none-within (most_steps journal event) (steps.other (ap (λ b. b || is_correction event.kind) sheet ∙ corrects))

  -- ---- a stored event

  pub few_found : (event : Event) (found : Option EventChange) → ((change : EventChange) → found ≡ Some change → IsLawful (with_event journal event)) → AreStepsFound journal event found before after → AreFewSteps journal event found before after
  few_found event (Some change) follows steps = found_within event (Some change) (follows change refl) steps
  few_found event None follows (inl same) = inl same
  few_found event None follows (inr (is, steps)) = inr (is, correction_within event is steps)

-- what is found follows
pub found_lawful : (journal : Journal) (books : DeskBooks) (event : Event) (found : Option EventChange) → books.book.journal ≡ journal → IfSome found (λ change. (change.event ≡ event) × IsReady books change)
    → (change : EventChange) → found ≡ Some change → IsLawful (with_event journal event)
found_lawful journal books event None same ready change is = absurd (none-is is)
  where
    none-is : None ≡ Some change → ⊥
    none-is h = cc
found_lawful journal books event (Some found) same ready change is =
    subst (λ (known : Journal). IsLawful (with_event known event)) same
    (subst (λ (v : Event). IsLawful (with_event books.book.journal v)) ready.0 ready.1.follows)
