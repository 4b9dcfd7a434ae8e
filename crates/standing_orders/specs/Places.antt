-- Places in a list.
use Rattle.std.specs.List.{list_any, slice_get}
use Rattle.std.specs.Option.{option_map_or}
use Rattle.std.specs.Prelude.{Bool, List, Option, [], ℕ, ◌++◌, ◌+◌, ◌∷◌, ◌≤◌, false, filter, if◌then◌else◌, nat_eq, nat_le, nat_lt, not, option_and_then, suc, ◌==◌, ◌||◌}
use Rattle.register_machine.specs.journal.Choices.{when}

-- the places, from a place on, at which something passes
abbrev pub places_from : {X : Type 0} → ℕ → (X → Bool) → List X → List ℕ
places_from place test [] = []
places_from place test (x ∷ xs) = (if test x then place ∷ [] else []) ++ places_from (place + 1) test xs

abbrev pub places_where : {X : Type 0} → (X → Bool) → List X → List ℕ
places_where test xs = places_from 0 test xs

-- those of some places that aren't before this one, and a place unless it is before it
abbrev pub not_before : ℕ → List ℕ → List ℕ
not_before first places = filter (λ place. nat_le first place) places

abbrev pub unless_before : ℕ → Option ℕ → Option ℕ
unless_before first found = option_and_then (λ place. when (nat_le first place) place) found

-- the item at a place passes
abbrev pub passes_at : {X : Type 0} → (X → Bool) → List X → ℕ → Bool
passes_at test xs place = option_map_or test (slice_get xs place) false

-- each place is greater than the one before, none is less than the first bound, and each is less than the second
abbrev pub RisesWithin : ℕ → ℕ → List ℕ → Type 0
RisesWithin from to [] = Unit {0}
RisesWithin from to (place ∷ places) = (from ≤ place) × (suc place ≤ to) × RisesWithin (suc place) to places

abbrev pub is_among : List ℕ → ℕ → Bool
is_among places place = list_any (nat_eq place) places

-- rising places with one more among them, which stands there once
abbrev pub with_place : ℕ → List ℕ → List ℕ
with_place place [] = place ∷ []
with_place place (other ∷ places) =
    if nat_lt other place then other ∷ with_place place places
    else if nat_lt place other then place ∷ other ∷ places
    else other ∷ places

-- the place is another one than this, or what stands there passes
abbrev pub is_other_or_passes : {X : Type 0} → (X → Bool) → List X → ℕ → ℕ → Bool
is_other_or_passes test xs place other = not (other == place) || passes_at test xs other

-- places of which one is settled: it stays only where it passes, and every other one stays
abbrev pub with_settled : {X : Type 0} → (X → Bool) → List X → ℕ → List ℕ → List ℕ
with_settled test xs place places = filter (is_other_or_passes test xs place) places

-- places without this one
abbrev pub without_place : ℕ → List ℕ → List ℕ
without_place place places = filter (λ other. not (other == place)) places
