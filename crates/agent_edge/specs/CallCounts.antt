-- Calls of one kind, which are numbered from 1 in the order in which they are made, and those of them that fail.
use Rattle.std.specs.Prelude.{ℕ, List, Contains}
use Rattle.agent_edge.specs.Counts.{next_count}

-- the numbers of the calls that are to fail, how many calls were made, and how many of them failed
pub record CallsState : Type 0 where
  pub fails : List ℕ
  pub made : ℕ
  pub failed : ℕ

-- the next call is listed
abbrev pub IsListed : CallsState → Type 0
IsListed calls = Contains calls.fails (next_count calls.made)

-- one more call was made
abbrev pub after_call : CallsState → CallsState
after_call calls = record calls { made = next_count calls.made }

-- one more call failed
abbrev pub one_failed : CallsState → CallsState
one_failed calls = record calls { failed = next_count calls.failed }

-- one more call was made, which failed
abbrev pub after_failed : CallsState → CallsState
after_failed calls = one_failed (after_call calls)

-- no call was made yet
abbrev pub calls_of : List ℕ → CallsState
calls_of fails = record { fails = fails; made = 0; failed = 0 }
