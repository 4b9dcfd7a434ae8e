-- That `parse_head` keeps its contract.
use Rattle.std.proofs.Common.{arith}
use Rattle.http_stream.proofs.FieldLaws.{head-parses}
use Rattle.http_stream.proofs.head.parse_head.Goals as goal

pub returns-in-Ok-Complete : goal.returns-in-Ok-Complete
returns-in-Ok-Complete c =
    let of = rw c.in-Ok-Complete.field-0-is at c.in-Ok-Complete.ensures.complete in
    let within = rw c.in-Ok-Complete.field-0-is at c.in-Ok-Complete.ensures.within in
    head-parses c.args.text.now c.parse_request.new.headers c.in-Ok-Complete.request c.facts_of-facts.result c.judged.result of.0 of.1 within
    (omega (arith, c.parse_request.auto.headers)) c.facts_of-facts.ensures.value c.facts_of-facts.ensures.within c.judged.ensures
