-- The rows so far, and those of the numbers that are left, are all of them.
use Rattle.std.proofs.Common.{flat_map, ◌++◌, ◌≡◌}
use Rattle.std.specs.BTreeMap.{keys}
use Rattle.agent_events.specs.declared.order.Party.{Party}
use Rattle.gain_loss_book.specs.ChangeRows.{cash_row}
use Rattle.gain_loss_book.specs.Tallies.{sorted_flow}
use Rattle.gain_loss_book.proofs.change_rows.push_dealers.Given as goal

abbrev pub invariant-loop-dealer : goal.invariant-loop-dealer
invariant-loop-dealer l =
    l.rows ++ flat_map (λ q. cash_row (Party.Dealer q) (sorted_flow l.dealers q)) l.dealer-iterator
    ≡ l.fn.rows ++ flat_map (λ q. cash_row (Party.Dealer q) (sorted_flow l.dealers q)) (keys l.dealers)
