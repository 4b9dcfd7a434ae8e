-- What the loop over the bytes keeps.
use Rattle.std.proofs.Common.{◌≡◌, length, ◌≤◌, drop}
use Rattle.number_hashing.specs.Numbers as numbers
use Rattle.number_hashing.proofs.hasher.number_of.Given as goal

abbrev pub invariant-loop-at : goal.invariant-loop-at
invariant-loop-at l = (l.at ≤ length l.bytes) × (l.number ≡ numbers.number_of (drop l.at l.bytes))

abbrev pub decreases-loop-at : goal.decreases-loop-at
decreases-loop-at l = l.at
