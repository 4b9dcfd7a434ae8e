-- An exchange of shares of one class into another of its family, on the basis of the two net asset values and without a
-- charge, as section 11(a) of the Investment Company Act of 1940 has it. Shares are whole mils, money and NAV whole cents.
-- Each piece keeps its lot number, date, cost and free mark, so that a deferred charge goes on counting from the purchase.
use Rattle.std.specs.Prelude.{ℕ, ◌+◌, ◌-◌, ◌*◌, Bool, nat_lt, List, [], ◌∷◌, filter, sum_by}
use Rattle.money_units.specs.Rounding.{half}
use Rattle.share_lots.specs.Values.{value_at}
use Rattle.share_lots.specs.declared.lot.Piece.{Piece}
use Rattle.fund_exchange.specs.declared.carrying.Carried.{Carried}

-- the mils and the cost of pieces together
abbrev pub mils_total : List Piece → ℕ
mils_total pieces = sum_by (λ (piece : Piece). piece.mils) pieces

abbrev pub cost_total : List Piece → ℕ
cost_total pieces = sum_by (λ (piece : Piece). piece.cost) pieces

-- the mils at the NAV `to` that the value of so many mils at the NAV `from` buys
abbrev pub mils_at : ℕ → ℕ → ℕ → ℕ
mils_at from to mils = half (1000 * value_at from mils) to

-- a piece with its new mils, where so many mils stand before it: what is bought by its end, less what is bought by its
-- beginning
abbrev pub with_new_mils : ℕ → ℕ → ℕ → Piece → Piece
with_new_mils from to before piece =
    record piece { mils = mils_at from to (before + piece.mils) - mils_at from to before }

-- pieces with their new mils, where so many mils stand before them
abbrev pub renewed_behind : ℕ → ℕ → ℕ → List Piece → List Piece
renewed_behind from to before [] = []
renewed_behind from to before (piece ∷ pieces) =
    with_new_mils from to before piece ∷ renewed_behind from to (before + piece.mils) pieces

abbrev pub renewed_all : ℕ → ℕ → List Piece → List Piece
renewed_all from to pieces = renewed_behind from to 0 pieces

-- a piece without mils makes no lot
abbrev pub has_mils : Piece → Bool
has_mils piece = nat_lt 0 piece.mils

abbrev pub carried_pieces : ℕ → ℕ → List Piece → List Piece
carried_pieces from to pieces = filter has_mils (renewed_all from to pieces)

-- what an exchange carries: the value of all pieces, those that have new mils, and the sums of these
abbrev pub transfer_of : ℕ → ℕ → List Piece → Carried
transfer_of from to pieces = record {
  value = value_at from (mils_total pieces);
  mils = mils_total (carried_pieces from to pieces);
  cost = cost_total (carried_pieces from to pieces);
  pieces = carried_pieces from to pieces;
}

-- a piece by its lot number, date, cost and free mark alone
abbrev pub without_mils : Piece → Piece
without_mils piece = record piece { mils = 0 }
