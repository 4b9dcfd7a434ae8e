-- That `verdict_fresh` keeps its contract.
use Rattle.std.proofs.Common.{None, Some, subst, sym, ◌∙◌, ◌≡◌}
use Rattle.agent_events.specs.Events.{event_of, request_of}
use Rattle.agent_events.specs.declared.request.Request.{Request}
use Rattle.order_intake.proofs.verdicts.verdict_fresh.Goals as goal
use Rattle.register_laws.proofs.AnswersByCases.{asks}
use Rattle.register_laws.proofs.FitsRows.{fits_allowed}
use Rattle.register_machine.specs.journal.Choices.{first_some}
use Rattle.register_machine.specs.rules.InOrder.{broken_rule, first_rules}
use Rattle.register_machine.specs.rules.Situations.{Situation}

pub new-requires : goal.new-requires
new-requires c =
    let brings : event_of c.args.request.now c.moment.result c.due_kept.result ≡ Some c.in-Some.kind = sym c.in_ok-kind.ensures ∙ c.in-Some.is in
    let asked = asks c.args.request.now c.moment.result c.due_kept.result c.in-Some.kind brings in
    fits_allowed c.args.book.now.journal c.args.inquiry.now.now c.args.inquiry.now.caller c.in-Some.kind c.requires.lawful
    (subst (λ (s : Situation). first_some (first_rules s (request_of c.in-Some.kind)) ≡ None) c.requires.own
    (subst (λ (r : Request). first_some (first_rules c.args.inquiry.now r) ≡ None) (sym asked) c.requires.good))
    (subst (λ (s : Situation). broken_rule s (request_of c.in-Some.kind) ≡ None) c.requires.own
    (subst (λ (r : Request). broken_rule c.args.inquiry.now r ≡ None) (sym asked) c.requires.clear))
    c.read_lists.ensures
