-- The rows so far, and those of the numbers that are left, are all of them.
use Rattle.std.proofs.Common.{flat_map, ◌++◌, ◌≡◌}
use Rattle.std.specs.BTreeMap.{keys}
use Rattle.gain_loss_book.specs.ChangeRows.{mils_row}
use Rattle.gain_loss_book.specs.ClassFlows.{flows_of}
use Rattle.gain_loss_book.proofs.change_rows.push_shares.Given as goal

abbrev pub invariant-loop-class : goal.invariant-loop-class
invariant-loop-class l =
    l.rows ++ flat_map (λ q. mils_row q (flows_of l.classes q).mils) l.class-iterator
    ≡ l.fn.rows ++ flat_map (λ q. mils_row q (flows_of l.classes q).mils) (keys l.classes)
