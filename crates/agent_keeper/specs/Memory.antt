-- What the keepers in memory keep.
use Rattle.std.specs.Prelude.{ℕ, Bool, ◌&&◌, ◌==◌, List, Option, if◌then◌else◌, ◌+◌, ◌-◌, ◌^◌, ◌≡◌, ◌↔◌, min, Result, IsErrOf, IsTrue}
use Rattle.std.specs.List.{list_any}
use Rattle.std.specs.HashMap.{get}
use Rattle.agent_keeper.specs.declared.batch.CheckName.{CheckName}
use Rattle.agent_keeper.specs.declared.fault.KeepFault.{KeepFault}
use Rattle.agent_keeper.specs.declared.fault.KeepFault.TheVariants.{Failed}
use Rattle.agent_keeper.specs.declared.kept.Kept.{Kept}
use Rattle.agent_keeper.specs.declared.memory.MemoryKeeper.{MemoryKeeper}
use Rattle.agent_keeper.specs.declared.sure.SureKeeper.{SureKeeper}
use Rattle.agent_keeper.specs.Calls.{Counts}
use Rattle.agent_keeper.specs.Content.{Content, after}

-- two names are of the same household and sheet
abbrev pub is_same : CheckName → CheckName → Bool
is_same a b = a.household == b.household && a.sheet == b.sheet

-- the checkpoint row that is kept of a household at a sheet
abbrev pub check_of : Kept → ℕ → ℕ → Option (List ℕ)
check_of kept household sheet = get is_same kept.checks
    (record { household = household; sheet = sheet })

-- all that is kept
abbrev pub content : Kept → Content
content kept = record { rows = kept.rows; checks = check_of kept }

-- what was kept before the last commit
abbrev pub before_last : MemoryKeeper → Content
before_last keeper = content keeper.settled

-- what the last commit made of it, or was to make where it failed
abbrev pub after_last : MemoryKeeper → Content
after_last keeper = after keeper.last (before_last keeper)

-- what is kept
abbrev pub now_kept : MemoryKeeper → Content
now_kept keeper = if keeper.is_kept then after_last keeper else before_last keeper

-- the calls that are to fail, by their numbers
abbrev pub calls_that_fail : MemoryKeeper → List ℕ
calls_that_fail keeper = keeper.fails.items

-- how many calls were made; the last number of a `u64` stays
abbrev pub calls_made : MemoryKeeper → ℕ
calls_made keeper = keeper.calls

-- how many of them failed
abbrev pub faults_made : MemoryKeeper → ℕ
faults_made keeper = keeper.faults

-- the number of the next call
abbrev pub next_call : MemoryKeeper → ℕ
next_call keeper = min (calls_made keeper + 1) (2 ^ 64 - 1)

-- the next call is listed, so it fails
abbrev pub fails_next : MemoryKeeper → Bool
fails_next keeper = list_any (λ call. call == next_call keeper) (calls_that_fail keeper)

-- one more call is counted, which failed exactly where it is listed
pub record CountsCall {T : Type 0} (old new : MemoryKeeper)
    (result : Result T KeepFault) : Type 0 where
  pub fails : IsErrOf result Failed ↔ IsTrue (fails_next old)
  pub calls : calls_made new ≡ next_call old
  pub faults : faults_made new ≡ (if fails_next old then min (faults_made old + 1) (2 ^ 64 - 1)
      else faults_made old)
  pub counted : Counts (faults_made old) (faults_made new) result
  pub list : calls_that_fail new ≡ calls_that_fail old

-- what is kept is as before, and what a stop in the last commit leaves too
pub record KeepsAll (old new : MemoryKeeper) : Type 0 where
  pub now : now_kept new ≡ now_kept old
  pub before : before_last new ≡ before_last old
  pub after : after_last new ≡ after_last old

-- what a keeper that never fails keeps
abbrev pub surely_kept : SureKeeper → Content
surely_kept keeper = content keeper.kept
