-- That `is_quiet` keeps its contract.
use Rattle.std.proofs.Common.{ap, sym, ◌∙◌}
use Rattle.household_fold.specs.Quiet.{is_quiet_for}
use Rattle.household_fold.proofs.QuietFacts.{quiet-step}
use Rattle.household_fold.proofs.quiet.is_quiet.Goals as goal

pub returns-clause-nothing : goal.returns-clause-nothing
returns-clause-nothing c = λ quiet.
    quiet-step c.args.facts.now c.args.orders.now c.args.register.now
    (ap (is_quiet_for c.args.facts.now c.args.orders.now) (sym c.positions.ensures.positions) ∙ (sym c.is_left_alone.ensures ∙ quiet))
