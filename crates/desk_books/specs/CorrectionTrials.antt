-- A correction that no rule before the last one refuses, and what its trial says: the order that it breaks first, or what it makes
-- of the ledger.
use Rattle.std.specs.Prelude.{List, None, Option, Some, ℕ, ◌≡◌}
use Rattle.agent_events.specs.Events.{Event}
use Rattle.agent_events.specs.declared.reply.Refusal.{Refusal}
use Rattle.agent_events.specs.declared.request.Request.{Request}
use Rattle.agent_events.specs.declared.verdict.Caller.{Caller}
use Rattle.agent_events.specs.declared.verdict.Verdict.{Verdict}
use Rattle.checkpoint_replay.specs.declared.part.HouseholdPart.{HouseholdPart}
use Rattle.desk_books.specs.declared.correction_trial.Tried.{Tried}
use Rattle.desk_books.specs.LedgerChanges.{IsLedgerChange}
use Rattle.register_laws.specs.Lawful.{own_at}
use Rattle.register_machine.specs.journal.Journals.{Journal, with_event}
use Rattle.register_machine.specs.journal.Lawful.{IsLawful}
use Rattle.register_machine.specs.rules.Breaks.{breaks}
use Rattle.register_machine.specs.run.Verdicts.{verdict}

-- the event is what a request brings behind the journal, whoever asks it, unless it breaks the last rule
pub record IsFresh (journal : Journal) (event : Event) : Type 0 where
  pub caller : Caller
  pub request : Request
  pub fresh : verdict (own_at journal event.moment caller) request ≡ Verdict.Fresh event

-- what the last rule says of the event, which is the same for every caller
abbrev pub last_says : Journal → Event → Option Refusal
last_says journal event = breaks (own_at journal event.moment Caller.Operator) event

-- A correction that breaks an order is refused by the last rule. Another is refused by none, and where it then follows the journal
-- its change is that of the ledger.
abbrev pub Says : Journal → Event → List (ℕ × HouseholdPart) → Tried → Type 0
Says journal event parts (Tried.Breaks refusal) = last_says journal event ≡ Some refusal
Says journal event parts (Tried.Moves change) =
    (last_says journal event ≡ None)
    × (IsLawful (with_event journal event) → IsLedgerChange journal event parts (Some change))
