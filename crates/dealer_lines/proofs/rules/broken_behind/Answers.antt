-- That `broken_behind` keeps its contract.
use Rattle.std.proofs.Common.{ap, sym, ◌∙◌}
use Rattle.agent_events.specs.declared.request.Request.{Request}
use Rattle.dealer_lines.proofs.JournalBehind.{few_behind}
use Rattle.dealer_lines.proofs.RulesBehind.{broken_behind}
use Rattle.dealer_lines.proofs.rules.broken_behind.Goals as goal
use Rattle.dealer_lines.specs.RulesBehind.{earlier_rule, without_minimum}
use Rattle.register_laws.specs.Lawful.{own_at}
use Rattle.register_machine.specs.rules.InOrder.{broken_rule}
use Rattle.register_machine.specs.rules.Situations.{Situation}

pub broken_by_earlier-by_earlier-requires : goal.broken_by_earlier-by_earlier-requires
broken_by_earlier-by_earlier-requires c =
    record { few = few_behind c.args.book.now.journal c.args.inquiry.now.now c.args.earlier.now c.requires.lawful }

-- The first rule broken at the journal, and the first of those that the earlier orders change.
pub returns : goal.returns
returns c =
    let journal = c.args.book.now.journal in
    let now = c.args.inquiry.now.now in
    let caller = c.args.inquiry.now.caller in
    let sale = Request.Line (without_minimum c.args.line.now) in
    c.earlier_rule.ensures
    ∙ (ap (λ one. earlier_rule one c.broken_by_earlier-by_earlier.result)
    (c.broken_at_journal-at_journal.ensures ∙ ap (λ (s : Situation). broken_rule s sale) c.requires.own)
    ∙ (ap (λ other. earlier_rule (broken_rule (own_at journal now caller) sale) other) c.broken_by_earlier-by_earlier.ensures
    ∙ sym (broken_behind journal c.args.earlier.now now caller c.args.line.now c.requires.lawful)))
