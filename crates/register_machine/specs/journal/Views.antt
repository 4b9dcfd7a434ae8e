-- What everybody sees of a journal, what belongs to one household, and a household's view: both together, in order.
use Rattle.std.specs.Prelude.{Bool, List, ℕ, ◌==◌, ◌||◌, false, filter, true}
use Rattle.agent_events.specs.Events.{Event}
use Rattle.agent_events.specs.declared.event.EventKind.{EventKind}
use Rattle.agent_events.specs.declared.request.AccountForm.{AccountForm}
use Rattle.register_machine.specs.journal.Journals.{Journal}
use Rattle.register_machine.specs.journal.Kinds.{accounts_of}
use Rattle.register_machine.specs.rules.Callers.{owns}

-- what the funds do: calendars, closures, classes, dealers, sheets, dividends and corrections of prices and rates
abbrev pub is_public : EventKind → Bool
is_public (EventKind.Calendar form) = true
is_public (EventKind.Close form) = true
is_public (EventKind.Class form) = true
is_public (EventKind.Dealer form) = true
is_public (EventKind.Household form) = false
is_public (EventKind.Account form) = false
is_public (EventKind.Order placed) = false
is_public (EventKind.Cancel form) = false
is_public (EventKind.Sheet form) = true
is_public (EventKind.Dividend form) = true
is_public (EventKind.FixPrice form) = true
is_public (EventKind.FixRate form) = true
is_public (EventKind.Enter form) = false
is_public (EventKind.Replace form) = false
is_public (EventKind.Void form) = false

-- the household and its accounts, and all that is done on these accounts
abbrev pub belongs_to : List AccountForm → ℕ → EventKind → Bool
belongs_to accounts household (EventKind.Calendar form) = false
belongs_to accounts household (EventKind.Close form) = false
belongs_to accounts household (EventKind.Class form) = false
belongs_to accounts household (EventKind.Dealer form) = false
belongs_to accounts household (EventKind.Household form) = form.household == household
belongs_to accounts household (EventKind.Account form) = form.household == household
belongs_to accounts household (EventKind.Order placed) = owns accounts household placed.order.account
belongs_to accounts household (EventKind.Cancel form) = owns accounts household form.account
belongs_to accounts household (EventKind.Sheet form) = false
belongs_to accounts household (EventKind.Dividend form) = false
belongs_to accounts household (EventKind.FixPrice form) = false
belongs_to accounts household (EventKind.FixRate form) = false
belongs_to accounts household (EventKind.Enter form) = owns accounts household form.order.account
belongs_to accounts household (EventKind.Replace form) = owns accounts household form.order.account
belongs_to accounts household (EventKind.Void form) = owns accounts household form.account

abbrev pub public_events : Journal → Journal
public_events journal = filter (λ event. is_public event.kind) journal

abbrev pub events_of : ℕ → Journal → Journal
events_of household journal = filter (λ event. belongs_to (accounts_of journal) household event.kind) journal

abbrev pub is_seen_by : List AccountForm → ℕ → Event → Bool
is_seen_by accounts household event = is_public event.kind || belongs_to accounts household event.kind

-- a household's view, which is a journal
abbrev pub view : ℕ → Journal → Journal
view household journal = filter (is_seen_by (accounts_of journal) household) journal
