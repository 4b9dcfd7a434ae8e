-- The proof of the law `households_are_isolated`.
use Rattle.register_machine.specs.journal.Views.{view}
use Rattle.register_machine.specs.rules.Callers.{caller_of}
use Rattle.register_laws.proofs.HouseholdsIsolated.{by-callers, calls-alike}
use Rattle.register_laws.proofs.household_laws.households_are_isolated.Goals as goal

pub returns : goal.returns
returns c journal household lawful short operator key now request asked =
    by-callers journal household now (caller_of journal operator key) (caller_of (view household journal) operator key) lawful short request asked
    (calls-alike journal household lawful operator key)
