-- none of the orders before this place was placed by a request of this content
use Rattle.std.proofs.Common.{drop, find, ◌≡◌}
use Rattle.dealer_lines.specs.Repeats.{is_repeat}
use Rattle.dealer_lines.proofs.repeats.placed_earlier.Given as goal

abbrev pub invariant-loop-placed : goal.invariant-loop-placed
invariant-loop-placed l =
    find (is_repeat l.request) (drop l.placed-index l.earlier) ≡ find (is_repeat l.request) l.earlier
