-- The proof of the law `batches_are_isolated`.
use Rattle.std.proofs.Common.{ap, sym, ◌∙◌}
use Rattle.agent_events.specs.declared.request.Request.{Request}
use Rattle.register_laws.specs.Lawful.{own_at}
use Rattle.register_machine.specs.journal.Views.{view}
use Rattle.register_machine.specs.rules.Callers.{caller_of}
use Rattle.register_machine.specs.run.Answers.{answer}
use Rattle.register_machine.specs.run.Batches.{is_dealer_caller}
use Rattle.register_laws.proofs.HouseholdsIsolated.{batch_by, by-callers, calls-alike, dealers-alike, one-line}
use Rattle.register_laws.proofs.household_laws.batches_are_isolated.Goals as goal

pub returns : goal.returns
returns c journal household lawful short operator key now line asked =
    let caller = caller_of journal operator key in
    let seen = caller_of (view household journal) operator key in
    let alike = calls-alike journal household lawful operator key in
    one-line journal now caller line
    ∙ (ap (λ dealer. batch_by dealer (answer (own_at journal now caller) (Request.Line line))) (dealers-alike household caller seen alike)
    ∙ (ap (batch_by (is_dealer_caller seen)) (by-callers journal household now caller seen lawful short (Request.Line line) asked alike)
    ∙ sym (one-line (view household journal) now seen line)))
