-- The orders of lines one after the other, with their rows; and that there are none.
use Rattle.std.proofs.Common.{All, List, [], ap, arith, get_or, length, refl, subst, sym, take, ℕ, ◌++◌, ◌+◌, ◌<◌, ◌∙◌, ◌∷◌, ◌≡◌}
use Rattle.std.proofs.lemmas.List.{length-map, map-append, map_more}
use Rattle.std.proofs.lemmas.List.Elements.{All-push}
use Rattle.agent_events.specs.declared.event.Placed.{Placed}
use Rattle.dealer_lines.specs.Lines.{line_event, line_events}
use Rattle.event_rows.specs.InForm.{InForm}
use Rattle.event_rows.specs.Rows.{event_row}
use Rattle.register_desk.specs.Rows.{rows_of}

pub rows_more : (moment : ℕ) (placed : List Placed) (i : ℕ) (d : Placed) → i < length placed → rows_of (line_events moment (take (i + 1) placed)) ≡ rows_of (line_events moment (take i placed)) ++ event_row (line_event moment (get_or placed i d)) ∷ []
rows_more moment placed i d within =
    ap rows_of (map_more (line_event moment) placed i d within)
    ∙ map-append event_row (line_events moment (take i placed)) (line_event moment (get_or placed i d) ∷ [])

pub forms_more : (moment : ℕ) (placed : List Placed) (i : ℕ) (d : Placed) → i < length placed → All InForm (line_events moment (take i placed)) → InForm (line_event moment (get_or placed i d)) → All InForm (line_events moment (take (i + 1) placed))
forms_more moment placed i d within so_far one =
    subst (All InForm) (sym (map_more (line_event moment) placed i d within))
    (All-push InForm (line_events moment (take i placed)) (line_event moment (get_or placed i d)) so_far one)

-- without orders there are no events, and without events no orders
pub no_events : (moment : ℕ) (placed : List Placed) → length placed ≡ 0 → line_events moment placed ≡ []
no_events moment [] none = refl
no_events moment (first ∷ later) none = absurd (omega (arith, none))

pub no_orders : (moment : ℕ) (placed : List Placed) → line_events moment placed ≡ [] → length placed ≡ 0
no_orders moment placed none = sym (length-map placed (line_event moment)) ∙ ap length none
