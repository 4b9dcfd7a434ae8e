-- The parts so far and those of what is left are all parts.
use Rattle.std.proofs.Common.{◌≡◌, ◌++◌, length, map, take}
use Rattle.std.specs.List.{slice_split}
use Rattle.agent_http.specs.Calls.{is_slash}
use Rattle.agent_http.proofs.routes.slash_parts.Given as goal

abbrev pub invariant-loop-place : goal.invariant-loop-place
invariant-loop-place l = record {
  parts : map (λ part. part.now) (take l.place l.room) ++ slice_split is_slash l.rest ≡ slice_split is_slash l.path;
  size : length l.room ≡ 7;
}
