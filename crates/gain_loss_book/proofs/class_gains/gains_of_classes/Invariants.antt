-- The gains so far, and those of the classes that are left, are all of them.
use Rattle.std.proofs.Common.{◌++◌, ◌≡◌}
use Rattle.std.specs.BTreeMap.{keys}
use Rattle.std.specs.List.{filter_map}
use Rattle.forward_price.specs.PriceTables.{sheets_on_trial}
use Rattle.gain_loss_book.specs.ClassFlows.{flows_of}
use Rattle.gain_loss_book.specs.ClassGains.{gain_of_flows}
use Rattle.gain_loss_book.proofs.class_gains.gains_of_classes.Given as goal

abbrev pub invariant-loop-class : goal.invariant-loop-class
invariant-loop-class l =
    l.gains ++ filter_map (λ q. gain_of_flows q (flows_of l.classes q) (sheets_on_trial l.patch l.prices.table.sheets)) l.class-iterator
    ≡ filter_map (λ q. gain_of_flows q (flows_of l.classes q) (sheets_on_trial l.patch l.prices.table.sheets)) (keys l.classes)
