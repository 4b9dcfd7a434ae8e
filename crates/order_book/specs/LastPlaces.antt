-- The last place in a list at which something passes, and the places of the events of a kind.
use Rattle.std.specs.Option.{option_or}
use Rattle.std.specs.Prelude.{Bool, List, None, Option, [], ℕ, ◌++◌, ◌+◌, ◌==◌, ◌∷◌, if◌then◌else◌}
use Rattle.agent_events.specs.declared.event.EventKind.{EventKind}
use Rattle.agent_events.specs.declared.order.OrderRow.{OrderRow}
use Rattle.register_machine.specs.journal.Choices.{when}
use Rattle.register_machine.specs.journal.Journals.{Journal}

abbrev pub last_place_from : {X : Type 0} → ℕ → (X → Bool) → List X → Option ℕ
last_place_from place test [] = None
last_place_from place test (x ∷ xs) = option_or (last_place_from (place + 1) test xs) (when (test x) place)

abbrev pub last_place : {X : Type 0} → (X → Bool) → List X → Option ℕ
last_place test xs = last_place_from 0 test xs

-- an order of this account
abbrev pub is_order_of : ℕ → OrderRow → Bool
is_order_of account row = row.order.account == account

-- the places of the events whose kind passes
abbrev pub places_from : (EventKind → Bool) → ℕ → Journal → List ℕ
places_from test place [] = []
places_from test place (event ∷ later) =
    (if test event.kind then place ∷ [] else []) ++ places_from test (place + 1) later
