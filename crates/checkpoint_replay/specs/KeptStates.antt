-- The states that are kept of a household: where they are looked up, and when one more is due.
use Rattle.std.specs.Map.{lookup}
use Rattle.std.specs.Option.{option_map_or}
use Rattle.std.specs.Prelude.{Bool, List, Option, [], None, Some, drop, fold, if◌then◌else◌, length, nat_eq, nat_le, nat_lt, slice_get, take, true, ℕ, ◌++◌, ◌+◌, ◌-◌, ◌∷◌}
use Rattle.checkpoint_replay.specs.declared.states.KeptState.{KeptState}

-- those of a household, by its number
abbrev pub states_in : List (ℕ × List KeptState) → ℕ → List KeptState
states_in rows household = option_map_or (λ (own : List KeptState). own) (lookup (nat_eq household) rows) []

-- one more is due behind a sheet where the last one is 4 sheets older, or there is none
abbrev pub is_due : List KeptState → ℕ → Bool
is_due states sheet =
    option_map_or (λ (last : KeptState). nat_le (last.sheet + 4) sheet) (slice_get states (length states - 1)) true

-- the last one behind a sheet before this one
abbrev pub last_before : ℕ → List KeptState → Option KeptState
last_before sheet states =
    fold (λ (found : Option KeptState) (kept : KeptState). if nat_lt kept.sheet sheet then Some kept else found) None states

-- six at most are kept: the first one, and the last ones
abbrev pub without_second : List KeptState → List KeptState
without_second states = if nat_le 6 (length states) then take 1 states ++ drop 2 states else states

abbrev pub with_one_more : List KeptState → KeptState → List KeptState
with_one_more states state = without_second states ++ state ∷ []
