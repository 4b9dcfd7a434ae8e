-- The order that a request of the same content placed before.
use Rattle.std.specs.Prelude.{Bool, Option, find, option_and_then}
use Rattle.agent_events.specs.Contents.{same_request}
use Rattle.agent_events.specs.Events.{request_of}
use Rattle.agent_events.specs.declared.event.EventKind.{EventKind}
use Rattle.agent_events.specs.declared.event.Placed.{Placed}
use Rattle.agent_events.specs.declared.request.Request.{Request}
use Rattle.dealer_lines.specs.Lines.{placed_in}
use Rattle.register_machine.specs.journal.Journals.{Journal}
use Rattle.register_machine.specs.run.Verdicts.{repeats}

-- the order was asked for by a request of this content
abbrev pub is_repeat : Request → Placed → Bool
is_repeat request placed = same_request (request_of (EventKind.Order placed)) request

-- the order of the first event of this content
abbrev pub placed_before : Request → Journal → Option Placed
placed_before request journal = option_and_then (λ event. placed_in event.kind) (find (repeats request) journal)
