-- The verdict on a request, but for what a correction breaks: the event that it brings, the place of the event that it repeats,
-- a query, or the first rule that is broken.
use Rattle.std.specs.Prelude.{Bool, None, Option, Some, ℕ, option_and_then, position, unwrap_or}
use Rattle.agent_events.specs.Contents.{same_request}
use Rattle.agent_events.specs.Events.{Event, event_of, request_of}
use Rattle.agent_events.specs.declared.event.EventKind.{EventKind}
use Rattle.agent_events.specs.declared.reply.Refusal.{Refusal}
use Rattle.agent_events.specs.declared.request.Request.{Request}
use Rattle.agent_events.specs.declared.verdict.Verdict.{Verdict}
use Rattle.register_machine.specs.journal.Choices.{first_some}
use Rattle.register_machine.specs.pricing.CorrectedBook.{due_moment}
use Rattle.register_machine.specs.rules.InOrder.{broken_rule, first_rules}
use Rattle.register_machine.specs.rules.Orders.{row_asked}
use Rattle.register_machine.specs.rules.Situations.{Situation, event_at}

-- the event was brought by a request of this content
abbrev pub repeats : Request → Event → Bool
repeats request event = same_request (request_of event.kind) request

abbrev pub due_now : Situation → Request → ℕ
due_now situation request =
    unwrap_or (option_and_then (due_moment situation.book) (row_asked situation request)) 0

abbrev pub verdict_by_event : Situation → Option EventKind → Verdict
verdict_by_event situation (Some kind) = Verdict.Fresh (event_at situation kind)
verdict_by_event situation None = Verdict.Query

-- a new request is refused by the first rule that it breaks; else it brings its event, or only looks
abbrev pub verdict_by_rule : Situation → Request → Option Refusal → Verdict
verdict_by_rule situation request (Some refusal) = Verdict.Refused refusal
verdict_by_rule situation request None =
    verdict_by_event situation (event_of request situation.now (due_now situation request))

-- a request whose content is known is a repeat, whatever rules it would break by now
abbrev pub verdict_by_place : Situation → Request → Option ℕ → Verdict
verdict_by_place situation request (Some place) = Verdict.Again place
verdict_by_place situation request None = verdict_by_rule situation request (broken_rule situation request)

abbrev pub verdict_by_right : Situation → Request → Option Refusal → Verdict
verdict_by_right situation request (Some refusal) = Verdict.Refused refusal
verdict_by_right situation request None =
    verdict_by_place situation request (position (repeats request) situation.journal)

-- the rules before the repeat; then the first event of this content, by its place; and without one the other rules
abbrev pub verdict : Situation → Request → Verdict
verdict situation request = verdict_by_right situation request (first_some (first_rules situation request))
