-- That `FlowRows::add` keeps its contract.
use Rattle.std.proofs.Common.{ap, sym, ◌∙◌}
use Rattle.gain_loss_book.specs.Flows.{FlowTable, whole_flow, with_flow}
use Rattle.gain_loss_book.specs.declared.flows.Flow.{Flow}
use Rattle.gain_loss_book.proofs.flows.FlowRows.add.Goals as goal

pub invariant_of-self : goal.invariant_of-self
invariant_of-self c =
    c.and-self-inside.ensures ∙ (ap (λ (whole : Flow). with_flow whole c.args.flow) c.self.invariant ∙ sym c.put.ensures.whole)

pub returns-clause-whole : goal.returns-clause-whole
returns-clause-whole c =
    c.put.ensures.whole ∙ ap (λ (t : FlowTable). with_flow (whole_flow t.rows) c.args.flow) c.self.view_is
