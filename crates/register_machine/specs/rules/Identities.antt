-- Refusal 4, and what a request brings by name: a reference of an account, and the number of a correction.
use Rattle.std.specs.List.{list_any}
use Rattle.std.specs.Option.{option_map_or}
use Rattle.std.specs.Prelude.{Bool, None, Option, Some, ℕ, ◌&&◌, ◌==◌, ◌||◌, false}
use Rattle.agent_events.specs.Events.{Event, request_of}
use Rattle.agent_events.specs.declared.reply.Refusal.{Refusal}
use Rattle.agent_events.specs.declared.request.Request.{Request}
use Rattle.register_machine.specs.journal.Choices.{when}
use Rattle.register_machine.specs.rules.Situations.{Situation}

-- the reference that a request brings to an account, and the number of a correction
abbrev pub reference_of : Request → Option (ℕ × ℕ)
reference_of (Request.Order order) = Some (order.account, order.ref_no)
reference_of (Request.Line line) = Some (line.order.account, line.order.ref_no)
reference_of (Request.Cancel form) = Some (form.account, form.ref_no)
reference_of (Request.Enter form) = Some (form.order.account, form.order.ref_no)
reference_of _ = None

abbrev pub fix_of : Request → Option ℕ
fix_of (Request.FixPrice form) = Some form.fix
fix_of (Request.FixRate form) = Some form.fix
fix_of (Request.Enter form) = Some form.fix
fix_of (Request.Replace form) = Some form.fix
fix_of (Request.Void form) = Some form.fix
fix_of _ = None

abbrev pub brings_reference : ℕ × ℕ → Event → Bool
brings_reference named event =
    option_map_or (λ other. other.0 == named.0 && other.1 == named.1) (reference_of (request_of event.kind)) false

abbrev pub brings_fix : ℕ → Event → Bool
brings_fix fix event = option_map_or (λ other. other == fix) (fix_of (request_of event.kind)) false

abbrev pub has_reference : Situation → ℕ × ℕ → Bool
has_reference situation named = list_any (brings_reference named) situation.journal

abbrev pub has_fix : Situation → ℕ → Bool
has_fix situation fix = list_any (brings_fix fix) situation.journal

-- Refusal 4. The reference of the account or the number of the correction is known, with other content.
abbrev pub ref_used : Situation → Request → Option Refusal
ref_used situation request =
    when
    (option_map_or (has_reference situation) (reference_of request) false
    || option_map_or (has_fix situation) (fix_of request) false)
    Refusal.RefUsed
