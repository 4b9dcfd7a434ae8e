-- What the scan of a line says of the bytes that it reads.
use Rattle.std.specs.Prelude.{◌≡◌, ◌<◌, ℕ, ◌⊎◌, true, false, List, length, take, slice_index, Option, Some, None}
use Rattle.memchr.specs.Find.{Nowhere, Passes, is_byte}
use Rattle.http_stream.specs.declared.scan.Scan.{Scan}

-- no line feed stands in a text; 10 is a line feed
abbrev pub IsOneLine : List ℕ → Type 0
IsOneLine text = Nowhere (Passes (is_byte 10) text) 0 (length text)

-- where the present line of a scan ends in what is left, or nowhere where the text has ended or no line feed is there
abbrev pub EndsAs : Scan → List ℕ → Option ℕ → Type 0
EndsAs scan rest None = (scan.ended ≡ true) ⊎ IsOneLine rest
EndsAs scan rest (Some at) =
    (scan.ended ≡ false) × (at < length rest) × (slice_index rest at ≡ 10) × IsOneLine (take at rest)
