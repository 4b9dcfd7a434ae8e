-- That `add_share` keeps its contract.
use Rattle.checkpoint_replay.proofs.ShareFacts.{share-step}
use Rattle.gain_loss_book.specs.Flows.{flow_by, whole_flow, with_flow}
use Rattle.gain_loss_book.specs.declared.flows.Flow.{Flow}
use Rattle.std.proofs.Common.{FitsSigned, ap, rules, to_z-of_z, ◌∙◌, ◌≡◌}
use Rattle.std.specs.Int.{w128}
use Rattle.checkpoint_replay.proofs.shares.add_share.Goals as goal

pub returns-clause-flows : goal.returns-clause-flows
returns-clause-flows c =
    let fits : FitsSigned w128 c.args.change.now.mils = search rules in
    let by : c.by.result ≡ flow_by c.args.change.now.mils = c.by.ensures ∙ ap flow_by (to_z-of_z fits) in
    λ q. share-step c.args.change.now c.by.result by _ _ q (c.add.ensures.flows q)

pub returns-clause-whole : goal.returns-clause-whole
returns-clause-whole c =
    let fits : FitsSigned w128 c.args.change.now.mils = search rules in
    let by : c.by.result ≡ flow_by c.args.change.now.mils = c.by.ensures ∙ ap flow_by (to_z-of_z fits) in
    c.add.ensures.whole ∙ ap (λ (f : Flow). with_flow (whole_flow c.args.shares.now.rows) f) by
