-- That `HouseholdState::advance` keeps its contract.
use Rattle.std.proofs.Common.{subst, sym}
use Rattle.household_fold.specs.Households.{AreOwned, Household}
use Rattle.register_machine.specs.replay.Positions.{Register}
use Rattle.household_fold.proofs.state.HouseholdState.advance.Goals as goal

pub after_sheet-requires-clause-owned : goal.after_sheet-requires-clause-owned
after_sheet-requires-clause-owned g c =
    let P : Household → Type 0 = λ h. AreOwned c.args.facts.now h.number h.register in
    let Q : Register → Type 0 = λ r. AreOwned c.args.facts.now c.self.inside.household r in
    subst Q (sym c.in_ok-register.ensures) (subst P (sym c.self.view_is) c.requires.owned)
