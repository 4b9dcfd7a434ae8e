-- Comma-separated values, as RFC 4180 describes them and the crate csv reads and writes them.
use Rattle.std.specs.Borrow.{Bor}
use Rattle.std.specs.Option.{option_map_or}
use Rattle.std.specs.Prelude.{IsSome, List, Some, [], ℕ, length, ◌+◌, ◌≡◌}
use Rattle.csv.specs.Reading.{Ready, default_config, reader_config, reader_state, reader_trim, records, records_from, source_of, strip_bom}
use Rattle.csv.specs.declared.parser.Config.{Config}
use Rattle.csv.specs.declared.parser.State.{State}
use Rattle.csv.specs.declared.reader.Reader.{Reader}
use Rattle.csv.specs.declared.reader.Trim.TheVariants as trim
use Rattle.csv.specs.Writing.{default_writer, row_text}

-- the records of a text, each a list of fields: a byte-order mark at its start is taken off, lines without fields
-- are no records, CR, LF and CRLF each end one, and a quote that stays open runs to the end of the text
abbrev pub records_of : List ℕ → List (List (List ℕ))
records_of text = records default_config (strip_bom text)

-- the line of a record: its fields with commas between them, a field in quotes where it holds a comma, a quote or
-- the end of a line, and a line feed
abbrev pub line_of : List (List ℕ) → List ℕ
line_of fields = row_text default_writer fields

-- ---- The records that are left of a text.

-- the records that a reader in this state finds in what is left
abbrev pub records_left : Config → State → List ℕ → List (List (List ℕ))
records_left config state left = records_from config (length left + 1) state left

abbrev pub records_to_come : Reader (Bor (List ℕ)) → List (List (List ℕ))
records_to_come reader =
    option_map_or (records_left default_config (reader_state reader)) (source_of (λ source. Some source.now) reader) []

-- a reader that goes on reading a text in memory, record by record
pub record IsReading (reader : Reader (Bor (List ℕ))) : Type 0 where
  pub untrimmed : reader_trim reader ≡ trim.None
  pub ready : Ready reader
  pub config : reader_config reader ≡ default_config
  pub source : IsSome (source_of (λ source. Some source.now) reader)
