-- The orders of lines noted one behind the other: the first of those that are left follows, and there is room for it.
use Rattle.std.proofs.Common.{List, [], ap, append_assoc, drop, get_or, length, subst, sym, take, ℕ, ◌++◌, ◌+◌, ◌<◌, ◌∙◌, ◌∷◌, ◌≡◌}
use Rattle.std.proofs.lemmas.List.{map-append, take-append-drop, take_more}
use Rattle.agent_events.specs.declared.event.Placed.{Placed}
use Rattle.dealer_lines.specs.Lines.{line_event, line_events}
use Rattle.register_laws.proofs.LawfulJournals.{lawful-before}
use Rattle.register_machine.specs.journal.Journals.{Journal, with_event}
use Rattle.register_machine.specs.journal.Lawful.{IsLawful}

-- the orders before a place, and the one that stands there
events-more : (journal : Journal) (moment : ℕ) (placed : List Placed) (i : ℕ) (d : Placed) → i < length placed → with_event (journal ++ line_events moment (take i placed)) (line_event moment (get_or placed i d)) ≡ journal ++ line_events moment (take (i + 1) placed)
events-more journal moment placed i d within =
    append_assoc journal (line_events moment (take i placed)) (line_event moment (get_or placed i d) ∷ [])
    ∙ ap (λ events. journal ++ events)
    (sym (map-append (line_event moment) (take i placed) (get_or placed i d ∷ []))
    ∙ ap (line_events moment) (sym (take_more placed i d within)))

-- the orders before a place are lawful behind the journal, since all are
lawful-front : (journal : Journal) (moment : ℕ) (placed : List Placed) (n : ℕ) → IsLawful (journal ++ line_events moment placed) → IsLawful (journal ++ line_events moment (take n placed))
lawful-front journal moment placed n lawful =
    lawful-before (journal ++ line_events moment (take n placed)) (line_events moment (drop n placed))
    (subst IsLawful
    (sym
    (append_assoc journal (line_events moment (take n placed)) (line_events moment (drop n placed))
    ∙ ap (λ events. journal ++ events)
    (sym (map-append (line_event moment) (take n placed) (drop n placed))
    ∙ ap (line_events moment) (take-append-drop n placed))))
    lawful)

pub next_follows : (journal : Journal) (moment : ℕ) (placed : List Placed) (i : ℕ) (d : Placed) → i < length placed → IsLawful (journal ++ line_events moment placed) → IsLawful (with_event (journal ++ line_events moment (take i placed)) (line_event moment (get_or placed i d)))
next_follows journal moment placed i d within lawful =
    subst IsLawful (sym (events-more journal moment placed i d within)) (lawful-front journal moment placed (i + 1) lawful)
