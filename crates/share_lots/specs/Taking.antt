-- What a redemption takes of the lots: a lot gives nothing unless every lot of lower rank has given all its loose mils.
use Rattle.std.specs.Prelude.{ℕ, Option, Some, None, ◌+◌, ◌-◌, ◌*◌, ◌<◌, ◌≤◌, ◌≡◌, Bool, true, nat_lt, min, if◌then◌else◌, List, [], ◌∷◌, length, filter, sum, ◌++◌, slice_index, sum_by, map, flat_map, zip}
use Rattle.std.specs.List.{slice_index_or}
use Rattle.money_units.specs.Rounding.{half}
use Rattle.share_lots.specs.declared.lot.Lot.{Lot}
use Rattle.share_lots.specs.declared.lot.Piece.{Piece}
use Rattle.share_lots.specs.Lots.{Holding, mils, before_by_date, ranks_before}

-- the cost of so many mils of a lot; the lot keeps the rest
abbrev pub piece_cost : Lot → ℕ → ℕ
piece_cost lot quantity = half (lot.cost * quantity) (mils lot)

abbrev pub piece_of : Lot → ℕ → Piece
piece_of lot quantity =
    record { lot = lot.number; day = lot.day; mils = quantity; cost = piece_cost lot quantity; free = lot.free }

-- a lot without so many of its loose mils
abbrev pub lot_less : Lot → ℕ → Lot
lot_less lot quantity = record lot { loose = lot.loose - quantity; cost = lot.cost - piece_cost lot quantity }

-- a lot's piece, where it gives any mils
abbrev pub pieces_of : Lot → ℕ → List Piece
pieces_of lot quantity = if nat_lt 0 quantity then piece_of lot quantity ∷ [] else []

-- the pieces of lots by rank: each gives its loose mils as far as any are still asked for
unfoldable pub pieces : ℕ → List Lot → List Piece
pieces asked [] = []
pieces asked (lot ∷ lots) = pieces_of lot (min lot.loose asked) ++ pieces (asked - lot.loose) lots

-- and what each keeps
unfoldable pub lots_less : ℕ → List Lot → List Lot
lots_less asked [] = []
lots_less asked (lot ∷ lots) = lot_less lot (min lot.loose asked) ∷ lots_less (asked - lot.loose) lots

abbrev pub has_mils : Lot → Bool
has_mils lot = nat_lt 0 (mils lot)

-- the position after a taking: a lot without mils is removed
abbrev pub after_taking : Holding → ℕ → Holding
after_taking h asked = record { lots = filter has_mils (lots_less asked h.lots); next_lot = h.next_lot }

-- the amounts that lots give, by rank
unfoldable pub amounts : ℕ → List Lot → List ℕ
amounts asked [] = []
amounts asked (lot ∷ lots) = min lot.loose asked ∷ amounts (asked - lot.loose) lots

-- the amounts are a taking: they sum to what is asked, none passes its lot's loose mils, and a lot with an amount has
-- only lots of lower rank that lose all their loose mils
pub record IsTaking (asked : ℕ) (lots : List Lot) (given : List ℕ) : Type 0 where
  pub one_each : length given ≡ length lots
  pub whole : sum given ≡ asked
  pub within : (i : ℕ) (d : Lot) → i < length lots → slice_index given i ≤ (slice_index_or lots i d).loose
  pub in_rank : (i j : ℕ) (d : Lot) → i < length lots → j < length lots
      → ranks_before (slice_index_or lots i d) (slice_index_or lots j d) ≡ true → 0 < slice_index given j
      → slice_index given i ≡ (slice_index_or lots i d).loose

-- the pieces of lots that give these amounts, one for each lot that gives any
abbrev pub pieces_given : List Lot → List ℕ → List Piece
pieces_given lots given = flat_map (λ pair. pieces_of pair.0 pair.1) (zip lots given)

-- what each keeps
abbrev pub lots_kept : List Lot → List ℕ → List Lot
lots_kept lots given = map (λ pair. lot_less pair.0 pair.1) (zip lots given)

-- the position whose lots have given these amounts
abbrev pub holding_kept : Holding → List ℕ → Holding
holding_kept h given = record { lots = filter has_mils (lots_kept h.lots given); next_lot = h.next_lot }

-- the held mils of another lot, where it comes before this one by date and number
abbrev pub held_if_before : Lot → Lot → ℕ
held_if_before lot other = if before_by_date other lot then other.held else 0

-- the held mils of the lots before one by date and number
abbrev pub held_before : List Lot → Lot → ℕ
held_before lots lot = sum_by (held_if_before lot) lots

-- the same by rank: what is held before the free lot, what the free lot holds before another, and what a lot that isn't
-- free holds; `passed` is what those of lower rank hold that aren't free
abbrev pub held_before_free : List Lot → Option Lot → ℕ
held_before_free lots None = 0
held_before_free lots (Some free) = held_before lots free

abbrev pub free_held : Option Lot → Lot → ℕ
free_held None lot = 0
free_held (Some free) lot = held_if_before lot free

abbrev pub owned_held : Lot → ℕ
owned_held lot = if lot.free then 0 else lot.held

abbrev pub before_of : Lot → Option Lot → ℕ → ℕ → ℕ
before_of lot free before_free passed = if lot.free then before_free else passed + free_held free lot

-- what a lot pays of its held mils: what is still asked for when all lots before it by date and number have paid theirs
abbrev pub paid_of : List Lot → ℕ → Lot → ℕ
paid_of lots asked lot = min lot.held (asked - held_before lots lot)

-- the cost of what a lot pays
abbrev pub cost_paid : List Lot → ℕ → Lot → ℕ
cost_paid lots asked lot = piece_cost lot (paid_of lots asked lot)

-- a lot without so many of its held mils
abbrev pub lot_paid : Lot → ℕ → Lot
lot_paid lot quantity = record lot { held = lot.held - quantity; cost = lot.cost - piece_cost lot quantity }

abbrev pub lot_paying : List Lot → ℕ → Lot → Lot
lot_paying lots asked lot = lot_paid lot (paid_of lots asked lot)

-- the position after held mils are paid
abbrev pub after_paying : Holding → ℕ → Holding
after_paying h asked = record { lots = filter has_mils (map (lot_paying h.lots asked) h.lots); next_lot = h.next_lot }
