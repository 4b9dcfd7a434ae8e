-- That `Inquiry::has_household` keeps its contract.
use Rattle.std.proofs.Common.{rules, ◌==◌}
use Rattle.agent_events.specs.declared.request.HouseholdForm.{HouseholdForm}
use Rattle.register_laws.proofs.Tests.{find-any}
use Rattle.request_rules.proofs.inquiry.Inquiry.has_household.Goals as goal
use Rattle.register_machine.specs.journal.Kinds.{households_of}

pub returns : goal.returns
returns c =
    rw (← find-any (λ (form : HouseholdForm). form.household == c.args.number) (households_of c.args.self.now.journal))
    (search rules)
