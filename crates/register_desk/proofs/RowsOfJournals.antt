-- The rows of a journal with an event more, and the first rows of a list with a row more.
use Rattle.std.proofs.Common.{List, Some, [], ap, inl, inr, length, length-append, refl, slice_get, suc, sym, take, zero, ℕ, ◌++◌, ◌+◌, ◌∙◌, ◌∷◌, ◌≡◌, ◌⊎◌}
use Rattle.std.proofs.lemmas.List.{map-append, take_more}
use Rattle.std.proofs.lemmas.Option.{get_or_from_slice_get, none-some, same_Some, slice_get_within}
use Rattle.agent_events.specs.Events.{Event}
use Rattle.event_rows.specs.Rows.{event_row}
use Rattle.register_desk.specs.Rows.{rows_of}
use Rattle.register_machine.specs.journal.Journals.{Journal, with_event}

pub rows_more : (journal : Journal) (event : Event) → rows_of (with_event journal event) ≡ rows_of journal ++ event_row event ∷ []
rows_more journal event = map-append event_row journal (event ∷ [])

pub length_more : (journal : Journal) (event : Event) → length (with_event journal event) ≡ length journal + 1
length_more journal event = length-append journal (event ∷ [])

-- one row more is taken
pub take_next : {X : Type 0} (rows : List X) (n : ℕ) (row : X) → slice_get rows n ≡ Some row → take (n + 1) rows ≡ take n rows ++ row ∷ []
take_next rows n row there =
    take_more rows n row (slice_get_within rows n row there)
    ∙ ap (λ x. take n rows ++ x ∷ []) (get_or_from_slice_get rows n row row there)

-- what stands in a list with one row more stands in the list, or is that row, at its end
pub last_or_before : {X : Type 0} (rows : List X) (last : X) (place : ℕ) (row : X) → slice_get (rows ++ last ∷ []) place ≡ Some row
    → (slice_get rows place ≡ Some row) ⊎ ((place ≡ length rows) × (row ≡ last))
last_or_before [] last zero row there = inr (refl, sym (same_Some last row there))
last_or_before [] last (suc place) row there = absurd (none-some row there)
last_or_before (first ∷ rows) last zero row there = inl there
last_or_before (first ∷ rows) last (suc place) row there = later (last_or_before rows last place row there)
  where
    later : ((slice_get rows place ≡ Some row) ⊎ ((place ≡ length rows) × (row ≡ last))) → (slice_get rows place ≡ Some row) ⊎ ((suc place ≡ suc (length rows)) × (row ≡ last))
    later (inl is) = inl is
    later (inr is) = inr (ap suc is.0, is.1)
