-- The rows so far, and those of the numbers that are left, are all of them.
use Rattle.std.proofs.Common.{flat_map, ◌++◌, ◌≡◌}
use Rattle.std.specs.BTreeMap.{keys}
use Rattle.agent_events.specs.declared.order.Party.{Party}
use Rattle.gain_loss_book.specs.ChangeRows.{cash_row}
use Rattle.gain_loss_book.specs.ClassFlows.{flows_of}
use Rattle.gain_loss_book.proofs.change_rows.push_classes.Given as goal

abbrev pub invariant-loop-class : goal.invariant-loop-class
invariant-loop-class l =
    l.rows ++ flat_map (λ q. cash_row (Party.Class q) (flows_of l.classes q).cash) l.class-iterator
    ≡ l.fn.rows ++ flat_map (λ q. cash_row (Party.Class q) (flows_of l.classes q).cash) (keys l.classes)
