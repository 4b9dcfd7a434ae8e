-- A keeper that never fails: what stops a call is want of memory, and a desk that begins with no row has no event.
use Rattle.std.proofs.Common.{Err, List, Result, [], ap, arith, inl, inr, length, refl, ℕ, ◌<◌, ◌∷◌, ◌≡◌}
use Rattle.agent_keeper.specs.Calls.{Rose}
use Rattle.agent_keeper.specs.declared.fault.KeepFault.{KeepFault}
use Rattle.register_desk.specs.Rows.{rows_of}
use Rattle.register_desk.specs.declared.faults.StartFault.{StartFault}
use Rattle.register_machine.specs.journal.Journals.{Journal}

-- a count that stays 0 never rose
pub never_rose : Rose 0 0 → ⊥
never_rose (inl less) = omega (arith, less)
never_rose (inr last) = omega (arith, last)

-- the rows of a journal without rows are those of no event
pub no_events : (journal : Journal) → rows_of journal ≡ [] → journal ≡ []
no_events [] none = refl
no_events (event ∷ later) none = cc

-- no row is at a place of no rows
pub nothing_damaged : (place : ℕ) (rows : List (List ℕ)) → rows ≡ [] → place < length rows → ⊥
nothing_damaged place rows none within = let empty = ap (λ (rs : List (List ℕ)). length rs) none in omega (arith, empty, within)

pub wants_memory : {X : Type 0} (result : Result X StartFault) (fault : StartFault) → result ≡ Err fault → (result ≡ Err StartFault.Keeper → ⊥) → ((place : ℕ) → result ≡ Err (StartFault.Damaged place) → ⊥) → fault ≡ StartFault.NoMemory
wants_memory result StartFault.Keeper is no_keeper no_damage = absurd (no_keeper is)
wants_memory result (StartFault.Damaged place) is no_keeper no_damage = absurd (no_damage place is)
wants_memory result StartFault.NoMemory is no_keeper no_damage = refl

pub keeps_or_wants_memory : {X : Type 0} (result : Result X KeepFault) (fault : KeepFault) → result ≡ Err fault → (result ≡ Err KeepFault.Failed → ⊥) → fault ≡ KeepFault.NoMemory
keeps_or_wants_memory result KeepFault.Failed is never = absurd (never is)
keeps_or_wants_memory result KeepFault.NoMemory is never = refl
