-- That `answered` keeps its contract.
use Rattle.std.proofs.Common.{◌≡◌, ◌∙◌, ap, subst}
use Rattle.std.specs.Prelude.{IfOk}
use Rattle.agent_http.specs.Calls.{answered_by, parts_of, path_of}
use Rattle.agent_http.proofs.PartLaws.{by-first-parts}
use Rattle.agent_http.proofs.calls.answered.Goals as goal

pub returns : goal.returns
returns c =
    let method = c.args.method.now in
    let size = c.args.size in
    let body = c.args.body.now in
    let parts = parts_of (path_of c.args.target.now) in
    subst (λ want. IfOk c.answered_by.result (λ answer. answer ≡ want))
    (ap (λ ps. answered_by ps method size body) c.parts_in-count.ensures.parts ∙ by-first-parts parts method size body)
    c.answered_by.ensures
