-- How the lots of a position stand in memory: those of its own that come first, those that it has in common with its
-- copies, and those of its own that come last.
use Rattle.std.specs.Prelude.{List, [], ◌++◌, Option, Some, None}
use Rattle.share_lots.specs.declared.lot.Lot.{Lot}
use Rattle.share_lots.specs.declared.position_lots.PositionLots.{PositionLots}

-- the lots of a block, where there is one
abbrev pub rest_of : Option (List Lot) → List Lot
rest_of None = []
rest_of (Some lots) = lots

-- all lots in their order
abbrev pub lots_in : PositionLots → List Lot
lots_in p = p.front.items ++ rest_of p.rest ++ p.back.items
