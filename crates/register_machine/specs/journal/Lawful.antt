-- Lawful journals: each event is what the machine appends to the events before it, at its moment, for the request that it
-- answers, asked by the dealer that the account names for a dealer's line and by the operator for all else. A line on an
-- account that names no dealer of the journal was asked by a stranger, so it doesn't follow.
use Rattle.std.specs.Option.{option_map_or}
use Rattle.std.specs.Prelude.{List, Option, [], ℕ, ◌∷◌, ◌≡◌, ◌≤◌, option_and_then}
use Rattle.agent_events.specs.Events.{Event, request_of}
use Rattle.agent_events.specs.declared.event.EventKind.{EventKind}
use Rattle.agent_events.specs.declared.event.Placed.{Placed}
use Rattle.agent_events.specs.declared.event.Source.{Source}
use Rattle.agent_events.specs.declared.request.DealerForm.{DealerForm}
use Rattle.register_machine.specs.journal.Journals.{Journal, last_moment, with_event}
use Rattle.register_machine.specs.journal.Kinds.{account_numbered, accounts_of, dealer_numbered, dealers_of}
use Rattle.register_machine.specs.pricing.PublishedTable.{table_of}
use Rattle.agent_events.specs.declared.verdict.Caller.{Caller}
use Rattle.register_machine.specs.rules.Situations.{situation_at}
use Rattle.register_machine.specs.run.Answers.{Answer, answer}

-- the dealer that an account names, where the journal has that dealer
abbrev pub dealer_of : Journal → ℕ → Option DealerForm
dealer_of journal number =
    option_and_then (λ account. dealer_numbered (dealers_of journal) account.dealer)
    (account_numbered (accounts_of journal) number)

abbrev pub asker_by : Journal → Placed → Source → Caller
asker_by journal placed Source.Direct = Caller.Operator
asker_by journal placed Source.Dealer =
    option_map_or (λ form. Caller.Dealer form.dealer) (dealer_of journal placed.order.account) Caller.Stranger

abbrev pub asker_of : Journal → EventKind → Caller
asker_of journal (EventKind.Order placed) = asker_by journal placed placed.source
asker_of journal _ = Caller.Operator

abbrev pub answer_again : Journal → Event → Answer
answer_again journal event =
    answer (situation_at (table_of journal) journal event.moment (asker_of journal event.kind)) (request_of event.kind)

-- the event follows the journal
pub record Follows (journal : Journal) (event : Event) : Type 0 where
  pub not_before : last_moment journal ≤ event.moment
  pub appended : (answer_again journal event).events ≡ event ∷ []

-- each of these events follows the journal and those before it
abbrev pub AllFollow : Journal → List Event → Type 0
AllFollow journal [] = Unit {0}
AllFollow journal (event ∷ later) = Follows journal event × AllFollow (with_event journal event) later

abbrev pub IsLawful : Journal → Type 0
IsLawful journal = AllFollow [] journal
