-- That `add_change` keeps its contract.
use Rattle.std.proofs.Common.{FitsSigned, ap, rules, to_z-of_z, ◌≡◌, ◌∙◌}
use Rattle.std.specs.Int.{w128}
use Rattle.gain_loss_book.proofs.PostedFacts.{change-step}
use Rattle.gain_loss_book.specs.Flows.{flow_by, with_flow}
use Rattle.gain_loss_book.specs.PartyAccounts.{all_flows}
use Rattle.gain_loss_book.specs.declared.flows.Flow.{Flow}
use Rattle.gain_loss_book.proofs.posting.add_change.Goals as goal

pub returns-clause-flows : goal.returns-clause-flows
returns-clause-flows c =
    let fits : FitsSigned w128 c.args.change.now.cents = search rules in
    let by : c.by.result ≡ flow_by c.args.change.now.cents = c.by.ensures ∙ ap flow_by (to_z-of_z fits) in
    λ q. change-step c.args.change.now c.by.result by _ _ q (c.add.ensures.flows q)

pub returns-clause-all : goal.returns-clause-all
returns-clause-all c =
    let fits : FitsSigned w128 c.args.change.now.cents = search rules in
    let by : c.by.result ≡ flow_by c.args.change.now.cents = c.by.ensures ∙ ap flow_by (to_z-of_z fits) in
    c.add.ensures.all ∙ ap (λ (f : Flow). with_flow (all_flows c.args.accounts.now) f) by
