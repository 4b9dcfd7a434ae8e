-- That `HouseholdState::advanced` keeps its contract.
use Rattle.std.proofs.Common.{subst, sym}
use Rattle.household_fold.specs.Households.{AreOwned, Household}
use Rattle.household_fold.proofs.state.HouseholdState.advanced.Goals as goal

pub after_sheet-requires-clause-owned : goal.after_sheet-requires-clause-owned
after_sheet-requires-clause-owned g c =
    let P : Household → Type 0 = λ h. AreOwned c.args.facts.now h.number h.register in
    subst P (sym c.self.view_is) c.requires.owned
