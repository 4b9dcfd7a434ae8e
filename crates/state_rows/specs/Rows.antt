-- The checkpoint row of a household: the version 01, the household, and its positions, and nothing behind them.
use Rattle.std.specs.Prelude.{ℕ, List, ◌++◌, Option, Some, None}
use Rattle.agent_events.specs.declared.checkpoint.LetterRow.{LetterRow}
use Rattle.agent_events.specs.declared.checkpoint.LotRow.{LotRow}
use Rattle.agent_events.specs.declared.checkpoint.PositionRow.{PositionRow}
use Rattle.agent_events.specs.declared.checkpoint.StateRow.{StateRow}
use Rattle.event_rows.specs.Spelling.{one_byte, two_bytes, four_bytes, eight_bytes, sixteen_bytes, flag, list_bytes}

-- a lot: number, date, loose and held mils, cost, and whether it is free
unfoldable pub lot : LotRow → List ℕ
lot row =
    four_bytes row.number ++ (four_bytes row.day ++ (eight_bytes row.loose ++ (eight_bytes row.held
    ++ (eight_bytes row.cost ++ flag row.free))))

-- a letter: amount, date, the credit at its start, rate, what is still to be held, what was bought
unfoldable pub letter : LetterRow → List ℕ
letter row =
    eight_bytes row.amount ++ (four_bytes row.day ++ (sixteen_bytes row.start ++ (two_bytes row.rate
    ++ (eight_bytes row.rest ++ eight_bytes row.bought))))

-- 00 without a letter, or 01 and the letter
unfoldable pub open_letter : Option LetterRow → List ℕ
open_letter None = one_byte 0
open_letter (Some row) = one_byte 1 ++ letter row

-- a position: account, class, election (00 shares, 01 cash), next lot number, the letter, the lots
unfoldable pub position : PositionRow → List ℕ
position row =
    four_bytes row.account ++ (four_bytes row.class ++ (flag row.in_cash ++ (four_bytes row.next_lot
    ++ (open_letter row.letter ++ list_bytes lot row.lots))))

unfoldable pub state_row : StateRow → List ℕ
state_row state = one_byte 1 ++ (four_bytes state.household ++ list_bytes position state.positions)
