-- That `scan_on` keeps its contract.
use Rattle.std.proofs.Common.{◌+◌, ◌∙◌, ap, length}
use Rattle.std.specs.List.{fold}
use Rattle.std.proofs.lemmas.List.{take_rest}
use Rattle.http_stream.specs.Lines.{with_byte}
use Rattle.http_stream.proofs.ScanLaws.{line_more, line_moves}
use Rattle.http_stream.proofs.scan.scan_on.Goals as goal

pub lines-preserved : goal.lines-preserved
lines-preserved c =
    let found = c.in-Some.ensures in
    let line = c.with_line-so_far in
    let rest = take_rest c.lines.rest.now (c.in-Some.at + 1) in
    record {
      folded = ap (fold with_byte line.result) rest
          ∙ line_more c.lines.so_far line.result c.lines.rest.now c.in-Some.at found.1 found.2 line.ensures.value ∙ c.lines.invariant.folded;
      size = ap (λ l. line.result.size + length l) rest
          ∙ line_moves c.lines.so_far.size line.result.size _ c.lines.rest.now c.in-Some.at found.1 line.ensures.size c.lines.invariant.size;
      lines = line.ensures.lines;
    }
