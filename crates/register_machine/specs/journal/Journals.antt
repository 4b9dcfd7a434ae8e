-- The journal of the register: what happened, in order.
use Rattle.std.specs.Prelude.{AllPairs, List, [], ℕ, ◌++◌, ◌∷◌, ◌≤◌, fold}
use Rattle.agent_events.specs.Events.{Event}

abbrev pub Journal : Type 0
Journal = List Event

-- a journal, and the same with one event more
abbrev pub with_event : Journal → Event → Journal
with_event journal event = journal ++ event ∷ []

-- the moments of a journal never fall
abbrev pub MomentsNeverFall : Journal → Type 0
MomentsNeverFall journal = AllPairs (λ earlier later. earlier.moment ≤ later.moment) journal

-- the moment of the last event, 0 where there is none
abbrev pub last_moment : Journal → ℕ
last_moment journal = fold (λ last event. event.moment) 0 journal
