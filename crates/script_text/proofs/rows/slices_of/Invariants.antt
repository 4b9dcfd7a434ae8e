-- What holds at each turn of the loops of `slices_of`.
use Rattle.std.proofs.Common.{◌≡◌, map, take}
use Rattle.script_text.proofs.rows.slices_of.Given as goal

abbrev pub invariant-loop-text : goal.invariant-loop-text
invariant-loop-text l = map (λ text. text.now) l.slices.items ≡ take l.text-index l.texts
