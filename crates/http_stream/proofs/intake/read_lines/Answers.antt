-- That `read_lines` keeps its contract.
use Rattle.std.proofs.Common.{refl}
use Rattle.http_stream.specs.Stream.{Shown}
use Rattle.http_stream.proofs.FrontLaws.{front-ended, front-full}
use Rattle.http_stream.proofs.intake.read_lines.Goals as goal

pub returns-then-scan-gt65 : goal.returns-then-scan-gt65
returns-then-scan-gt65 c =
    (Shown.TooLarge, front-full c.args.rest.now c.args.scan c.requires.scanned c.requires.ended c.if-scan-gt65.true, refl)

pub read_text-requires : goal.read_text-requires
read_text-requires c = record {
  shown = front-ended c.args.rest.now c.args.scan c.requires.scanned c.requires.ended c.if-scan-gt65.false;
  within = c.requires.scanned.within;
}
