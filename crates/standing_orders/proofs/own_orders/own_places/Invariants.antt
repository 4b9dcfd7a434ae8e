-- What holds at each turn of the loops of `own_places`.
use Rattle.std.proofs.Common.{suc}
use Rattle.std.specs.Option.{option_map_or}
use Rattle.standing_orders.proofs.OwnPlaces.{HasWalked}
use Rattle.standing_orders.specs.Rows.{is_owner}
use Rattle.standing_orders.proofs.own_orders.own_places.Given as goal

abbrev pub invariant-orders : goal.invariant-orders
invariant-orders l = HasWalked l.first (is_owner l.household) l.index.owners l.places.items l.at

abbrev pub decreases-orders : goal.decreases-orders
decreases-orders l = option_map_or (λ n. suc n) l.at 0
