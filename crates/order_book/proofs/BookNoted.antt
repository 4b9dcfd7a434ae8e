-- A book keeps its events, one event more and with more room.
use Rattle.std.proofs.Common.{List, [], ap, length, subst, sym, ℕ, ◌++◌, ◌∙◌, ◌∷◌, ◌≡◌}
use Rattle.std.proofs.lemmas.List.Sums.{fold-append}
use Rattle.agent_events.specs.Events.{Event}
use Rattle.agent_events.specs.declared.event.EventKind.{EventKind}
use Rattle.order_book.specs.AllIndexes.{KeepsAll}
use Rattle.order_book.specs.Books.{Fits}
use Rattle.order_book.specs.declared.indexes.Indexes.{Indexes}
use Rattle.register_machine.specs.journal.Journals.{Journal, last_moment, with_event}

pub last-with : (journal : Journal) (event : Event) → last_moment (with_event journal event) ≡ event.moment
last-with journal event = fold-append (λ (last : ℕ) (e : Event). e.moment) 0 journal (event ∷ [])

pub indexes-noted : (events new_events : List Event) (journal : Journal) (old new : Indexes) (event : Event) (kind : EventKind) (place : ℕ)
    → kind ≡ event.kind → place ≡ length journal → events ≡ journal → new_events ≡ events ++ event ∷ []
    → KeepsAll old events → Fits journal event
    → ((before : Journal) (moment : ℕ) → place ≡ length before → KeepsAll old before → Fits before (record { moment = moment; kind = kind }) → KeepsAll new (with_event before (record { moment = moment; kind = kind })))
    → KeepsAll new new_events
indexes-noted events new_events journal old new event kind place kind_is at events_are new_are kept fits taken =
    subst (λ (es : List Event). KeepsAll new es) (sym (new_are ∙ ap (λ es. es ++ event ∷ []) events_are))
    (subst (λ (k : EventKind). KeepsAll new (with_event journal (record { moment = event.moment; kind = k }))) kind_is
    (taken journal event.moment at (subst (λ (es : List Event). KeepsAll old es) events_are kept)
    (subst (λ (k : EventKind). Fits journal (record { moment = event.moment; kind = k })) (sym kind_is) fits)))
