-- The reader of each part of a checkpoint row.
use Rattle.std.specs.Prelude.{ℕ, Bool, ◌==◌, if◌then◌else◌, List, Option, Some, None}
use Rattle.std.specs.Int.{w32, w64}
use Rattle.agent_events.specs.declared.checkpoint.LetterRow.{LetterRow}
use Rattle.agent_events.specs.declared.checkpoint.LotRow.{LotRow}
use Rattle.agent_events.specs.declared.checkpoint.PositionRow.{PositionRow}
use Rattle.agent_events.specs.declared.checkpoint.StateRow.{StateRow}
use Rattle.event_rows.specs.FieldReading.{◌&◌, map_read, kept, behind, byte_at, number_at, list_at, if_whole}
use Rattle.event_rows.specs.Readers.{flag_at, sixteen_at, day_at, rate_at}
use Rattle.state_rows.specs.Rules.{keeps_rules}

abbrev pub lot_of : ℕ × (ℕ × (ℕ × (ℕ × (ℕ × Bool)))) → LotRow
lot_of x = record { number = x.0; day = x.1.0; loose = x.1.1.0; held = x.1.1.1.0; cost = x.1.1.1.1.0; free = x.1.1.1.1.1 }

unfoldable pub lot_at : List ℕ → Option (LotRow × List ℕ)
lot_at = map_read lot_of (number_at w32 & day_at & number_at w64 & number_at w64 & number_at w64 & flag_at)

abbrev pub letter_of : ℕ × (ℕ × (ℕ × (ℕ × (ℕ × ℕ)))) → LetterRow
letter_of x = record { amount = x.0; day = x.1.0; start = x.1.1.0; rate = x.1.1.1.0; rest = x.1.1.1.1.0; bought = x.1.1.1.1.1 }

unfoldable pub letter_at : List ℕ → Option (LetterRow × List ℕ)
letter_at = map_read letter_of (number_at w64 & day_at & sixteen_at & rate_at & number_at w64 & number_at w64)

-- the letter, by its flag
abbrev pub open_letter_behind : ℕ → List ℕ → Option (Option LetterRow × List ℕ)
open_letter_behind tag rest =
    if tag == 0 then Some (None, rest)
    else if tag == 1 then map_read Some letter_at rest
    else None

unfoldable pub open_letter_at : List ℕ → Option (Option LetterRow × List ℕ)
open_letter_at bytes = behind open_letter_behind (byte_at bytes)

abbrev pub position_of : ℕ × (ℕ × (Bool × (ℕ × (Option LetterRow × List LotRow)))) → PositionRow
position_of x = record { account = x.0; class = x.1.0; in_cash = x.1.1.0; next_lot = x.1.1.1.0; letter = x.1.1.1.1.0; lots = x.1.1.1.1.1 }

unfoldable pub position_at : List ℕ → Option (PositionRow × List ℕ)
position_at = map_read position_of (number_at w32 & number_at w32 & flag_at & number_at w32 & open_letter_at & list_at lot_at)

abbrev pub state_of : ℕ × List PositionRow → StateRow
state_of x = record { household = x.0; positions = x.1 }

-- the household and its positions, where they keep the rules
unfoldable pub state_at : List ℕ → Option (StateRow × List ℕ)
state_at = kept keeps_rules (map_read state_of (number_at w32 & list_at position_at))

-- the version, and what it has
abbrev pub version_behind : ℕ → List ℕ → Option (StateRow × List ℕ)
version_behind version rest = if version == 1 then state_at rest else None

unfoldable pub versioned_at : List ℕ → Option (StateRow × List ℕ)
versioned_at bytes = behind version_behind (byte_at bytes)

abbrev pub state_of_row : List ℕ → Option StateRow
state_of_row bytes = if_whole (versioned_at bytes)
