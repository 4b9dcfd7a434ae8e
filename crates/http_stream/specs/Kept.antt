-- What an intake keeps beside the bytes: how far the lines were scanned, and the head whose body is awaited.
use Rattle.std.specs.Prelude.{◌≡◌, ◌≤◌, ◌<◌, ℕ, false, List, length, min, take, Option, Some, None}
use Rattle.httparse.specs.Grammar.{RequestHead}
use Rattle.http_stream.specs.declared.head.HeadAt.{HeadAt}
use Rattle.http_stream.specs.declared.intake.Seen.{Seen}
use Rattle.http_stream.specs.declared.scan.Scan.{Scan}
use Rattle.http_stream.specs.Lines.{Front, front, head_limit, scan_of}
use Rattle.http_stream.specs.Stream.{IsHeadAt, Shown, Shows, Stream, StreamItem, found_of, item_limit}

-- the lines of the first bytes were scanned, and no head's text ends among them
pub record IsScanned (rest : List ℕ) (scan : Scan) : Type 0 where
  pub is : scan ≡ scan_of (take scan.size rest)
  pub unended : scan.ended ≡ false
  pub within : scan.size ≤ length rest
  pub few : scan.size ≤ head_limit
  pub lines : scan.filled ≤ scan.size

-- the scan of as much of a stream as a head may have
pub record IsFrontScan (rest : List ℕ) (scan : Scan) : Type 0 where
  pub is : scan ≡ scan_of (take head_limit rest)
  pub within : scan.size ≤ length rest
  pub few : scan.size ≤ head_limit
  pub lines : scan.filled ≤ scan.size
  pub all : scan.ended ≡ false → scan.size ≡ min head_limit (length rest)

-- the head that was read stands at the front
abbrev pub StandsAt : List ℕ → Option HeadAt → Type 0
StandsAt rest None = Unit {0}
StandsAt rest (Some at) = (head : RequestHead) × Shows rest (Shown.Head head) × IsHeadAt rest head at

pub record IsKept (stream : Stream) (scan : Scan) (waiting : Option HeadAt) : Type 0 where
  pub few : stream.given ≤ item_limit
  pub more : stream.closed ≡ false → stream.given < item_limit
  pub scanned : IsScanned stream.rest scan
  pub stands : StandsAt stream.rest waiting

-- what was seen at the front of what is left
abbrev pub SeenAs : List ℕ → Seen → Type 0
SeenAs rest (Seen.Open scan) = IsScanned rest scan × (front rest ≡ Front.Open)
SeenAs rest (Seen.Closing fault) = (shown : Shown) × Shows rest shown × (found_of rest shown ≡ Some (StreamItem.Closing fault, 0))
SeenAs rest (Seen.Head at) = StandsAt rest (Some at)
