-- That `are_filled` keeps its contract.
use Rattle.std.proofs.Common.{◌∙◌, sym}
use Rattle.std.proofs.lemmas.List.Folds.{list_all-map}
use Rattle.agent_http.specs.Calls.{is_filled}
use Rattle.agent_http.proofs.routes.are_filled.Goals as goal

pub returns : goal.returns
returns c = c.all_filled.ensures ∙ sym (list_all-map is_filled (λ part. part.now) c.args.parts.now)
