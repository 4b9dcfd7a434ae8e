-- The lines of a head (RFC 9112, section 2.1). A line ends with a line feed, and it is empty where nothing, or one carriage return
-- alone, stands in it. The text of a head begins at its first byte and ends with the first empty line that follows a line that
-- isn't empty; its field lines are its lines that aren't empty, without the first of these.
use Rattle.std.specs.Prelude.{ℕ, ◌+◌, false, nat_lt, ◌==◌, if◌then◌else◌, List, length, take}
use Rattle.std.specs.List.{fold}
use Rattle.http_stream.specs.declared.scan.Line.{Line}
use Rattle.http_stream.specs.declared.scan.Scan.{Scan}

-- a line with one more byte that doesn't end it; 13 is a carriage return
abbrev pub line_with : Line → ℕ → Line
line_with Line.Nothing byte = if byte == 13 then Line.Return else Line.Filled
line_with Line.Return byte = Line.Filled
line_with Line.Filled byte = Line.Filled

-- so many filled lines with this one; an empty line ends the text where a filled one came before
abbrev pub line_ended : Line → ℕ → ℕ → Scan
line_ended Line.Filled filled size = record { line = Line.Nothing; filled = filled + 1; size = size; ended = false }
line_ended Line.Nothing filled size = record { line = Line.Nothing; filled = filled; size = size; ended = nat_lt 0 filled }
line_ended Line.Return filled size = record { line = Line.Nothing; filled = filled; size = size; ended = nat_lt 0 filled }

-- one more byte; 10 is a line feed. Behind the end of the text nothing counts
abbrev pub with_byte : Scan → ℕ → Scan
with_byte scan byte =
    if scan.ended then scan
    else if byte == 10 then line_ended scan.line scan.filled (scan.size + 1)
    else record { line = line_with scan.line byte; filled = scan.filled; size = scan.size + 1; ended = false }

abbrev pub scan_of_nothing : Scan
scan_of_nothing = record { line = Line.Nothing; filled = 0; size = 0; ended = false }

-- what the lines of a text show
abbrev pub scan_of : List ℕ → Scan
scan_of text = fold with_byte scan_of_nothing text

-- a head has at most so many bytes and so many fields
abbrev pub head_limit : ℕ
head_limit = 16384

abbrev pub field_limit : ℕ
field_limit = 64

-- what the lines at the front of a stream show: no head's text has ended yet, too much came without one or it has too many
-- lines, or a head's text of so many bytes
pub data Front : Type 0 where
  Open : Front
  Full : Front
  Ended : (size : ℕ) → Front

abbrev pub front_of : ℕ → Scan → Front
front_of came scan =
    if scan.ended then (if nat_lt (field_limit + 1) scan.filled then Front.Full else Front.Ended scan.size)
    else if nat_lt came head_limit then Front.Open else Front.Full

abbrev pub front : List ℕ → Front
front stream = front_of (length stream) (scan_of (take head_limit stream))
