-- The register: who owns which shares. A position is the lots of one account and class, with the holder's election of
-- dividends and at most one open letter. Fresh positions aren't kept, and the others stand by account and then class.
use Rattle.std.specs.Prelude.{Bool, List, None, Option, [], ℕ, ◌&&◌, ◌++◌, ◌+◌, ◌==◌, ◌||◌, ◌∷◌, false, filter, find, if◌then◌else◌, is_none, length, nat_le, nat_lt, not, unwrap_or}
use Rattle.letter_of_intent.specs.declared.letter.Letter.{Letter}
use Rattle.share_lots.specs.Lots.{Holding, cost_total, held_total, loose_total, most_cost, most_mils}

pub record Position : Type 0 where
  pub account : ℕ
  pub class : ℕ
  pub holding : Holding
  pub in_cash : Bool
  pub letter : Option Letter

abbrev pub Register : Type 0
Register = List Position

-- a position without lots, whose dividends are reinvested
abbrev pub fresh_position : ℕ → ℕ → Position
fresh_position account class = record {
  account = account;
  class = class;
  holding = record { lots = []; next_lot = 1 };
  in_cash = false;
  letter = None;
}

abbrev pub is_fresh : Position → Bool
is_fresh position =
    length position.holding.lots == 0
    && (position.holding.next_lot == 1 && (not position.in_cash && is_none position.letter))

-- the order by account and then class
abbrev pub stands_before : Position → Position → Bool
stands_before position other =
    nat_lt position.account other.account
    || (position.account == other.account && nat_lt position.class other.class)

abbrev pub is_position : ℕ → ℕ → Position → Bool
is_position account class position = position.account == account && position.class == class

abbrev pub position_of : Register → ℕ → ℕ → Position
position_of register account class =
    unwrap_or (find (is_position account class) register) (fresh_position account class)

abbrev pub unless_fresh : Position → Register
unless_fresh position = if is_fresh position then [] else position ∷ []

-- a position in its place, in the stead of the one that stood there
abbrev pub put : Position → Register → Register
put position register =
    filter (λ other. stands_before other position) register ++ unless_fresh position
    ++ filter (λ other. stands_before position other) register

abbrev pub with_holding : Position → Holding → Position
with_holding position holding = record position { holding = holding }

-- loose and held mils together
abbrev pub mils_of : Holding → ℕ
mils_of holding = loose_total holding + held_total holding

-- with so many mils and so much cost more the position stays within its ceiling
abbrev pub has_room : Holding → ℕ → ℕ → Bool
has_room holding mils cost =
    nat_le (mils_of holding + mils) most_mils && nat_le (cost_total holding + cost) most_cost

-- the key of a position among all: its account and class
pub record PositionKey : Type 0 where
  pub account : ℕ
  pub class : ℕ

abbrev pub key_of : Position → PositionKey
key_of position = record { account = position.account; class = position.class }

abbrev pub position_at : Register → PositionKey → Position
position_at register key = position_of register key.account key.class
