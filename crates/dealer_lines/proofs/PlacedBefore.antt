-- The order that an equal line placed before: the one of the journal, else that of an earlier line.
use Rattle.std.proofs.Common.{Bool, List, None, Ok, Option, Some, [], ap, cond, false, find, is_some, position, refl, slice_get, sym, true, ℕ, ◌++◌, ◌∙◌, ◌∷◌, ◌≡◌}
use Rattle.std.proofs.lemmas.Bool.{true≢false}
use Rattle.std.proofs.lemmas.List.Folds.{find-append}
use Rattle.std.specs.Option.{option_or}
use Rattle.std.specs.Prelude.{option_and_then}
use Rattle.agent_events.specs.Contents.{same_request}
use Rattle.agent_events.specs.Events.{Event, request_of}
use Rattle.agent_events.specs.declared.event.EventKind.{EventKind}
use Rattle.agent_events.specs.declared.event.Placed.{Placed}
use Rattle.agent_events.specs.declared.request.LineForm.{LineForm}
use Rattle.agent_events.specs.declared.request.Request.{Request}
use Rattle.dealer_lines.specs.Lines.{is_line, line_event, line_events, placed_in}
use Rattle.dealer_lines.specs.Repeats.{is_repeat, placed_before}
use Rattle.fund_calendar.proofs.LookUpLemmas.{find_passes}
use Rattle.order_book.proofs.Places.{find-at-position}
use Rattle.register_machine.specs.journal.Journals.{Journal}
use Rattle.register_machine.specs.run.Verdicts.{repeats}

-- only an order has the content of a line
pub is_placed : (line : LineForm) (kind : EventKind) → same_request (request_of kind) (Request.Line line) ≡ true → is_some (placed_in kind) ≡ true
is_placed line (EventKind.Order placed) e = refl
is_placed line (EventKind.Calendar form) e = absurd (true≢false (sym e))
is_placed line (EventKind.Close form) e = absurd (true≢false (sym e))
is_placed line (EventKind.Class form) e = absurd (true≢false (sym e))
is_placed line (EventKind.Dealer form) e = absurd (true≢false (sym e))
is_placed line (EventKind.Household form) e = absurd (true≢false (sym e))
is_placed line (EventKind.Account form) e = absurd (true≢false (sym e))
is_placed line (EventKind.Cancel form) e = absurd (true≢false (sym e))
is_placed line (EventKind.Sheet form) e = absurd (true≢false (sym e))
is_placed line (EventKind.Dividend form) e = absurd (true≢false (sym e))
is_placed line (EventKind.FixPrice form) e = absurd (true≢false (sym e))
is_placed line (EventKind.FixRate form) e = absurd (true≢false (sym e))
is_placed line (EventKind.Enter form) e = absurd (true≢false (sym e))
is_placed line (EventKind.Replace form) e = absurd (true≢false (sym e))
is_placed line (EventKind.Void form) e = absurd (true≢false (sym e))

placed-in-line : (request : Request) (kind : EventKind) → is_line (Ok request) ≡ true → same_request (request_of kind) request ≡ true → is_some (placed_in kind) ≡ true
placed-in-line (Request.Line line) kind is e = is_placed line kind e
placed-in-line _ kind is e = absurd (true≢false (sym is))

abbrev order-in : Event → Option Placed
order-in event = placed_in event.kind

among-earlier : (request : Request) (moment : ℕ) (earlier : List Placed) → placed_before request (line_events moment earlier) ≡ find (is_repeat request) earlier
among-earlier request moment [] = refl
among-earlier request moment (placed ∷ later) = by_test (is_repeat request placed) (among-earlier request moment later)
  where
    by_test : (b : Bool) → placed_before request (line_events moment later) ≡ find (is_repeat request) later → option_and_then order-in (cond b (Some (line_event moment placed)) (find (repeats request) (line_events moment later))) ≡ cond b (Some placed) (find (is_repeat request) later)
    by_test true rest = refl
    by_test false rest = rest

pub placed_behind : (request : Request) (journal : Journal) (moment : ℕ) (earlier : List Placed) → is_line (Ok request) ≡ true → placed_before request (journal ++ line_events moment earlier) ≡ option_or (placed_before request journal) (find (is_repeat request) earlier)
placed_behind request journal moment earlier is =
    ap (option_and_then order-in) (find-append (repeats request) journal (line_events moment earlier))
    ∙ by_found (find (repeats request) journal) refl
  where
    by_kind : (event : Event) (found : Option Placed) → is_some found ≡ true → found ≡ option_or found (find (is_repeat request) earlier)
    by_kind event (Some placed) there = refl
    by_kind event None there = absurd (true≢false (sym there))

    by_found : (found : Option Event) → find (repeats request) journal ≡ found → option_and_then order-in (option_or found (find (repeats request) (line_events moment earlier))) ≡ option_or (option_and_then order-in found) (find (is_repeat request) earlier)
    by_found None e = among-earlier request moment earlier
    by_found (Some event) e =
        by_kind event (placed_in event.kind) (placed-in-line request event.kind is (find_passes (repeats request) journal event e))

-- by the place of the first event of the content
pub before_by_place : (request : Request) (journal : Journal) (found : Option ℕ) → found ≡ position (repeats request) journal → placed_before request journal ≡ option_and_then order-in (option_and_then (slice_get journal) found)
before_by_place request journal found is =
    ap (option_and_then order-in) (find-at-position (repeats request) journal ∙ ap (option_and_then (slice_get journal)) (sym is))
