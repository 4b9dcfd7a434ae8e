-- That `broken_at_journal` keeps its contract.
use Rattle.std.proofs.Common.{ap, ◌∙◌}
use Rattle.agent_events.specs.declared.request.LineForm.{LineForm}
use Rattle.agent_events.specs.declared.request.Request.{Request}
use Rattle.dealer_lines.proofs.rules.broken_at_journal.Goals as goal
use Rattle.register_machine.specs.rules.InOrder.{broken_rule}

pub returns : goal.returns
returns c =
    c.broken_rule.ensures ∙ ap (λ (line : LineForm). broken_rule c.args.inquiry.now (Request.Line line)) c.without_minimum.ensures
