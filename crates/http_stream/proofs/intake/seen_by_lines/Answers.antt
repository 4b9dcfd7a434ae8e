-- That `seen_by_lines` keeps its contract.
use Rattle.http_stream.proofs.FrontLaws.{seen-open}
use Rattle.http_stream.proofs.intake.seen_by_lines.Goals as goal

pub returns-else-scan : goal.returns-else-scan
returns-else-scan c =
    rw c.open_or_full.ensures (seen-open c.args.rest.now c.scan_front-scan.result c.scan_front-scan.ensures c.if-scan.false)
