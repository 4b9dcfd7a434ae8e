-- That `admit` keeps its contract.
use Rattle.std.proofs.Common.{subst, ◌∙◌, ◌≡◌}
use Rattle.std.specs.Prelude.{IfOk}
use Rattle.agent_events.specs.declared.verdict.Verdict.{Verdict}
use Rattle.order_intake.proofs.LawfulFits.{lawful_fits, same_situation}
use Rattle.order_intake.proofs.admitting.admit.Goals as goal
use Rattle.register_machine.specs.rules.Situations.{Situation}
use Rattle.register_machine.specs.run.Verdicts.{verdict}

pub new-inquiry-requires : goal.new-inquiry-requires
new-inquiry-requires c = lawful_fits c.args.prices.now.table c.args.book.now.journal c.requires.lawful c.requires.prices

pub returns : goal.returns
returns c =
    subst (λ (s : Situation). IfOk c.verdict_of.result (λ (said : Verdict). said ≡ verdict s c.args.request.now))
    (c.new-inquiry.ensures ∙ same_situation c.args.prices.now.table c.args.book.now.journal c.args.moment c.args.caller c.requires.prices)
    c.verdict_of.ensures
