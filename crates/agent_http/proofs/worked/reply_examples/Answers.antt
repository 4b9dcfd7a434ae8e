-- The worked rows of `reply_examples`, reckoned.
use Rattle.std.proofs.Common.{refl}
use Rattle.std.specs.Fmt.{digits}
use Rattle.serde_json.proofs.OnLiterals.{serde_json_on_literals}
use Rattle.agent_http.proofs.worked.reply_examples.Goals as goal

pub returns : goal.returns
unfolding serde_json_on_literals digits
returns c = record { order = refl; refused = refl; fault = refl }
