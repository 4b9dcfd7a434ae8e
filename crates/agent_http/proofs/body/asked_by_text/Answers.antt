-- That `asked_by_text` keeps its contract.
use Rattle.serde_json.specs.Errors.{IsMemory}
use Rattle.agent_http.proofs.MemberLaws.{object-read, object-unread, unread-fails}
use Rattle.agent_http.proofs.body.asked_by_text.Goals as goal

pub returns-in-Ok : goal.returns-in-Ok
returns-in-Ok c =
    let read = c.in-Ok.ensures.ok in
    rw (object-read c.args.body.now _ read.0 read.1) c.asked_by_value.ensures

pub returns-in-Err : goal.returns-in-Err
returns-in-Err c =
    unread-fails c.unreadable.result c.args.verb.now c.args.body.now (¬ (IsMemory c.in-Err.error))
    c.unreadable.ensures (λ m. object-unread c.args.body.now (c.in-Err.ensures.err m))
