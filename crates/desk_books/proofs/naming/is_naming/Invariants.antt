-- What holds at each turn of the loops of `is_naming`.
use Rattle.std.proofs.Common.{suc}
use Rattle.std.specs.Option.{option_map_or}
use Rattle.desk_books.proofs.NamedOwners.{HasPassed}
use Rattle.desk_books.proofs.naming.is_naming.Given as goal

abbrev pub invariant-orders : goal.invariant-orders
invariant-orders l = HasPassed l.class l.household l.rows l.index.owners l.at

abbrev pub decreases-orders : goal.decreases-orders
decreases-orders l = option_map_or (λ n. suc n) l.at 0
