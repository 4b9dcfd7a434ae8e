-- What is left, scanned from the scan so far, gives the scan of all.
use Rattle.std.proofs.Common.{◌≡◌, ◌≤◌, ◌+◌, length}
use Rattle.std.specs.List.{fold}
use Rattle.http_stream.specs.Lines.{with_byte}
use Rattle.http_stream.proofs.scan.scan_on.Given as goal

abbrev pub invariant-lines : goal.invariant-lines
invariant-lines l = record {
  folded : fold with_byte l.so_far l.rest ≡ fold with_byte l.fn.scan l.bytes;
  size : l.so_far.size + length l.rest ≡ l.fn.scan.size + length l.bytes;
  lines : l.so_far.filled ≤ l.so_far.size;
}

abbrev pub decreases-lines : goal.decreases-lines
decreases-lines l = length l.rest
