-- The moments of a lawful journal never fall.
use Rattle.std.proofs.Common.{[], arith, get_or, length, ℕ, ⊎_elim, ◌++◌, ◌<◌, ◌∷◌, ◌≡◌, ◌≤◌}
use Rattle.std.proofs.lemmas.Bool.{cases_lt}
use Rattle.std.proofs.lemmas.Grind.{common_steps}
use Rattle.std.proofs.lemmas.List.Quantifiers.{all_pairs_push}
use Rattle.std.proofs.lemmas.List.Sums.{fold-append}
use Rattle.agent_events.specs.Events.{Event}
use Rattle.agent_events.specs.Fields.{within}
use Rattle.register_laws.proofs.LawfulJournals.{brought, lawful-keeps}
use Rattle.register_laws.specs.Lawful.{IsBrought}
use Rattle.register_machine.specs.journal.Journals.{Journal, MomentsNeverFall, last_moment, with_event}
use Rattle.register_machine.specs.journal.Lawful.{IsLawful}

pub last-more : (journal : Journal) (event : Event) → last_moment (journal ++ event ∷ []) ≡ event.moment
last-more journal event = fold-append (λ last e. e.moment) 0 journal (event ∷ [])

-- no moment is past the last one
IsUpToLast : Journal → Type 0
IsUpToLast journal = (k : ℕ) (d : Event) → k < length journal → (get_or journal k d).moment ≤ last_moment journal

more-up_to_last : (journal : Journal) (event : Event) → last_moment journal ≤ event.moment → IsUpToLast journal → IsUpToLast (journal ++ event ∷ [])
unfolding IsUpToLast
more-up_to_last journal event late up k d within =
    rw (last-more journal event)
    (⊎_elim
    (λ old. let same : get_or (journal ++ event ∷ []) k d ≡ get_or journal k d = grind (arith, common_steps) in rw same (omega (arith, up k d old, late)))
    (λ last. let same : get_or (journal ++ event ∷ []) k d ≡ event = grind (arith, common_steps) in rw same (omega arith))
    (cases_lt k (length journal)))

-- no moment is past a later one, nor past the last
Ordered : Journal → Type 0
Ordered journal = MomentsNeverFall journal × IsUpToLast journal

ordered-more : (journal : Journal) (event : Event) → IsLawful journal → IsBrought journal event → Ordered journal → Ordered (with_event journal event)
unfolding Ordered IsUpToLast
ordered-more journal event lawful brought ordered = (
  all_pairs_push (λ a b. a.moment ≤ b.moment) journal event ordered.0 (λ k d within. omega (arith, ordered.1 k d within, brought.not_before)),
  more-up_to_last journal event brought.not_before ordered.1,
)

pub moments_never_fall : (journal : Journal) → IsLawful journal → MomentsNeverFall journal
unfolding Ordered IsUpToLast
moments_never_fall journal lawful = (lawful-keeps Ordered ordered-more ((λ i j d lt within. absurd (none j within)), (λ k d within. absurd (none k within))) journal lawful).0
  where
    none : (k : ℕ) → k < 0 → ⊥
    none k h = omega (arith, h)
