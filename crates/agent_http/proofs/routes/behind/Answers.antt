-- That `behind` keeps its contract.
use Rattle.std.proofs.Common.{sym}
use Rattle.std.proofs.lemmas.List.{drop-map, take_rest}
use Rattle.agent_http.proofs.routes.behind.Goals as goal

pub returns-else-parts-count : goal.returns-else-parts-count
returns-else-parts-count c = simp take_rest (sym (drop-map (λ part. part.now) c.args.count c.args.parts.now))
