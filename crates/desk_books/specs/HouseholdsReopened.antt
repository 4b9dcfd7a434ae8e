-- The households that a correction reopens; the parts of all others stay.
use Rattle.std.specs.Prelude.{Contains, List, [], option_to_list, true, ℕ, ◌≡◌}
use Rattle.agent_events.specs.Events.{Event}
use Rattle.agent_events.specs.declared.event.EventKind.{EventKind}
use Rattle.desk_books.specs.Naming.{IsNaming}
use Rattle.register_laws.specs.EventReplays.{is_correction}
use Rattle.register_laws.specs.CorrectionReach.{EventReach, LeavesPart}
use Rattle.register_laws.specs.Lawful.{book_behind}
use Rattle.register_machine.specs.journal.Journals.{Journal, with_event}
use Rattle.register_machine.specs.journal.Kinds.{accounts_of, household_of}
use Rattle.register_machine.specs.pricing.CorrectedOrders.{orders_of}
use Rattle.standing_orders.specs.ClassHouseholds.{AreNoted, ClassLists}
use Rattle.standing_orders.specs.Rows.{AreOwners}

-- the household of an account, where it is known
abbrev pub household_alone : Journal → ℕ → List ℕ
household_alone journal account = option_to_list (household_of (accounts_of journal) account)

-- that of the order's account, or those whose standing orders name the class
abbrev pub AreReached : Journal → EventKind → List ℕ → Type 0
AreReached journal (EventKind.Enter form) households = households ≡ household_alone journal form.order.account
AreReached journal (EventKind.Replace form) households = households ≡ household_alone journal form.order.account
AreReached journal (EventKind.Void form) households = households ≡ household_alone journal form.account
AreReached journal (EventKind.FixPrice form) households = IsNaming (book_behind journal) form.class households
AreReached journal (EventKind.FixRate form) households = IsNaming (book_behind journal) form.class households
AreReached journal _ households = households ≡ []

-- So it is where the households of the rows are these, and listed under their classes.
abbrev pub AreReachedBy : Journal → List ℕ → ClassLists → EventKind → List ℕ → Type 0
AreReachedBy journal owners classes kind households =
    AreOwners (accounts_of journal) (orders_of journal) owners → AreNoted classes (orders_of journal) owners
    → AreReached journal kind households

-- A correction leaves the parts of all other households.
abbrev pub LeavesUnreached : Journal → Event → List ℕ → Type 0
LeavesUnreached journal event households =
    is_correction event.kind ≡ true → EventReach journal event → AreReached journal event.kind households
    → (household : ℕ) → (Contains households household → ⊥)
    → LeavesPart (book_behind journal) (book_behind (with_event journal event)) household
