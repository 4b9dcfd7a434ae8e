-- What the calls of a keeper have in common.
use Rattle.std.specs.Prelude.{◌≡◌, ◌≢◌, ◌⊎◌, ℕ, ◌<◌, ◌≤◌, ◌-◌, ◌^◌, List, Option, Result, Err, IsErrOf}
use Rattle.agent_keeper.specs.declared.fault.KeepFault.{KeepFault}
use Rattle.agent_keeper.specs.declared.fault.KeepFault.TheVariants.{Failed}
use Rattle.agent_keeper.specs.Content.{Content}

-- an answer of a reading call: the number of rows, the row at a place, the checkpoint row of a household at a sheet
pub data Answer : Type 0 where
  length_is : ℕ → Answer
  row_is : ℕ → Option (List ℕ) → Answer
  check_is : ℕ → ℕ → Option (List ℕ) → Answer

-- a count of faults rose, or stands at the last value that it can have
abbrev pub Rose : ℕ → ℕ → Type 0
Rose before now = (before < now) ⊎ (now ≡ 2 ^ 64 - 1)

-- the count of faults never falls, and `Failed` comes where it rose, and nowhere else
pub record Counts {T : Type 0} (before now : ℕ) (result : Result T KeepFault) : Type 0 where
  pub never_falls : before ≤ now
  pub rose : IsErrOf result Failed → Rose before now
  pub due : before < now → IsErrOf result Failed
  pub same : result ≢ Err Failed → now ≡ before

-- time goes on, and what was given stays given
pub record GoesOn {K : Type 0} (moment : K → ℕ) (gave : K → ℕ → Answer → Type 0)
    (old new : K) : Type 0 where
  pub later : moment old ≤ moment new
  pub kept : (since : ℕ) (answer : Answer) → gave old since answer → gave new since answer

-- this answer was given in the call
abbrev pub Gives : {K : Type 0} → (K → ℕ) → (K → ℕ → Answer → Type 0) → K → K → Answer → Type 0
Gives moment gave old new answer = (since : ℕ) → since ≤ moment old → gave new since answer

-- nothing that is kept was changed: no other content is told, and a stop leaves nothing else
pub record OnlyReads {K : Type 0} (tells may_leave : K → Content → Type 0)
    (is_honest : K → Type 0) (old new : K) : Type 0 where
  pub told : (content : Content) → tells new content → tells old content
  pub stops : is_honest new → (content : Content) → may_leave new content → may_leave old content
  pub was_honest : is_honest new → is_honest old
