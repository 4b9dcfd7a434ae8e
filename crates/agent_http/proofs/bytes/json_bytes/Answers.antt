-- That `json_bytes` keeps its contract.
use Rattle.agent_http.proofs.bytes.json_bytes.Goals as goal

pub returns : goal.returns
returns c = rw (c.status_of.ensures.value, c.as_slice.ensures.value, c.in_ok-body.ensures) at c.reply_of.ensures
