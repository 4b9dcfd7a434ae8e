-- That `asked_by_all_names` keeps its contract.
use Rattle.agent_http.proofs.body.asked_by_all_names.Goals as goal

pub returns : goal.returns
returns c = rw (c.deref.ensures.value, c.in_ok-all.ensures) at c.asked_by_names.ensures
