-- What is found so far is the last one of those before this place.
use Rattle.std.proofs.Common.{take, ◌≡◌}
use Rattle.std.specs.Option.{option_copied}
use Rattle.checkpoint_replay.specs.KeptStates.{last_before}
use Rattle.checkpoint_replay.proofs.states.last_before.Given as goal

abbrev pub invariant-loop-kept : goal.invariant-loop-kept
invariant-loop-kept l = option_copied l.found ≡ last_before l.sheet (take l.kept-index l.states)
