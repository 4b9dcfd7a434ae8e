-- That `FlowRows::reserve` keeps its contract.
use Rattle.std.proofs.Common.{ap, sym, ◌∙◌}
use Rattle.gain_loss_book.proofs.FlowFacts.{reordered-whole}
use Rattle.gain_loss_book.specs.Flows.{FlowTable, whole_flow}
use Rattle.gain_loss_book.proofs.flows.FlowRows.reserve.Goals as goal

pub invariant_of-self-2 : goal.invariant_of-self-2
invariant_of-self-2 c =
    c.self.invariant ∙ sym (reordered-whole c.self.inside.rows.entries c.reserve.new.self.entries c.reserve.ensures.entries.0)

pub returns-clause-whole : goal.returns-clause-whole
returns-clause-whole c =
    reordered-whole c.self.inside.rows.entries c.reserve.new.self.entries c.reserve.ensures.entries.0
    ∙ ap (λ (t : FlowTable). whole_flow t.rows) c.self.view_is
