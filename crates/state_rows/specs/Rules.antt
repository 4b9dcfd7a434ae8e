-- The rules and limits of a checkpoint row. Every state that a replay from the first sheet reaches keeps them.
use Rattle.std.specs.Prelude.{ℕ, ◌+◌, Bool, true, false, not, ◌&&◌, ◌||◌, ◌==◌, nat_eq, nat_lt, nat_le, if◌then◌else◌, List, [], ◌∷◌, length, count_by, sum_by, Option, Some, None}
use Rattle.std.specs.List.{list_all, list_any}
use Rattle.agent_events.specs.declared.checkpoint.LetterRow.{LetterRow}
use Rattle.agent_events.specs.declared.checkpoint.LotRow.{LotRow}
use Rattle.agent_events.specs.declared.checkpoint.PositionRow.{PositionRow}
use Rattle.agent_events.specs.declared.checkpoint.StateRow.{StateRow}

abbrev pub is_between : ℕ → ℕ → ℕ → Bool
is_between low high n = nat_le low n && nat_le n high

-- ---- lots

abbrev pub mils_of : LotRow → ℕ
mils_of lot = lot.loose + lot.held

abbrev pub cost_of : LotRow → ℕ
cost_of lot = lot.cost

-- a lot has mils, and a number from 1 to below the next one
abbrev pub is_lot : ℕ → LotRow → Bool
is_lot next lot = nat_le 1 lot.number && (nat_lt lot.number next && nat_le 1 (mils_of lot))

-- the numbers rise strictly
abbrev pub are_numbered : List LotRow → Bool
are_numbered [] = true
are_numbered (lot ∷ []) = true
are_numbered (lot ∷ next ∷ lots) = nat_lt lot.number next.number && are_numbered (next ∷ lots)

abbrev pub is_free : LotRow → Bool
is_free lot = lot.free

abbrev pub holds_nothing : LotRow → Bool
holds_nothing lot = lot.held == 0

-- the greatest position: 10^12 mils, and 10^15 cents of cost
abbrev pub within_position : List LotRow → Bool
within_position lots = nat_le (sum_by mils_of lots) 1000000000000 && nat_le (sum_by cost_of lots) 1000000000000000

abbrev pub are_lots : ℕ → List LotRow → Bool
are_lots next lots =
    list_all (is_lot next) lots && (are_numbered lots && (nat_le (count_by is_free lots) 1 && within_position lots))

-- ---- letters

abbrev pub is_letter : LetterRow → Bool
is_letter letter =
    is_between 1 1000000000000 letter.amount && (nat_lt letter.bought letter.amount && (nat_le letter.rate 850
    && (nat_le letter.rest 50000000000 && nat_le letter.start 1000000000000000000000)))

-- an open letter keeps its limits; without one no mils are held
abbrev pub is_open_letter : Option LetterRow → List LotRow → Bool
is_open_letter None lots = list_all holds_nothing lots
is_open_letter (Some letter) lots = is_letter letter

-- ---- positions

abbrev pub is_some : Option LetterRow → Bool
is_some None = false
is_some (Some letter) = true

-- only a position that isn't fresh is written: one with a lot, an open letter, an election of cash, or a number given
abbrev pub is_written : PositionRow → Bool
is_written row = (not (length row.lots == 0) || is_some row.letter) || (row.in_cash || nat_lt 1 row.next_lot)

-- its account, its class and the number of its next lot are in range
abbrev pub is_numbered : PositionRow → Bool
is_numbered row = nat_le 1 row.account && (nat_le 1 row.class && is_between 1 2147483648 row.next_lot)

abbrev pub is_position : PositionRow → Bool
is_position row =
    is_numbered row && (is_written row && (is_open_letter row.letter row.lots && are_lots row.next_lot row.lots))

-- by account and then class, strictly rising
abbrev pub comes_before : PositionRow → PositionRow → Bool
comes_before first second =
    nat_lt first.account second.account || (first.account == second.account && nat_lt first.class second.class)

abbrev pub are_ordered : List PositionRow → Bool
are_ordered [] = true
are_ordered (row ∷ []) = true
are_ordered (row ∷ next ∷ rows) = comes_before row next && are_ordered (next ∷ rows)

-- ---- the limits of the register that a row can break

abbrev pub is_of : ℕ → PositionRow → Bool
is_of account row = row.account == account

-- the lots of a position that aren't free
abbrev pub loaded_lots : PositionRow → ℕ
loaded_lots row = count_by (λ lot. not (is_free lot)) row.lots

-- those of them that are an account's
abbrev pub account_lots : ℕ → PositionRow → ℕ
account_lots account row = if is_of account row then loaded_lots row else 0

-- an account has at most 8,192 lots that aren't free
abbrev pub is_account : List PositionRow → ℕ → Bool
is_account rows account = nat_le (sum_by (account_lots account) rows) 8192

-- how many accounts there are, each with its positions together
abbrev pub accounts_after : ℕ → List PositionRow → ℕ
accounts_after account [] = 0
accounts_after account (row ∷ rows) =
    (if row.account == account then 0 else 1) + accounts_after row.account rows

-- a household has at most 64 accounts; no account has the number 0
abbrev pub are_accounts : List PositionRow → Bool
are_accounts rows = nat_le (accounts_after 0 rows) 64 && list_all (λ row. is_account rows row.account) rows

-- how many classes positions have besides these
abbrev pub classes_beside : List ℕ → List PositionRow → ℕ
classes_beside met [] = 0
classes_beside met (row ∷ rows) =
    (if list_any (nat_eq row.class) met then 0 else 1) + classes_beside (row.class ∷ met) rows

-- the register has at most 1,000 classes
abbrev pub are_few_classes : List PositionRow → Bool
are_few_classes rows = nat_le (classes_beside [] rows) 1000

-- ---- the whole row

abbrev pub keeps_own_rules : StateRow → Bool
keeps_own_rules state =
    nat_le 1 state.household
    && (list_all is_position state.positions && (are_ordered state.positions && are_accounts state.positions))

abbrev pub keeps_rules : StateRow → Bool
keeps_rules state = keeps_own_rules state && are_few_classes state.positions
