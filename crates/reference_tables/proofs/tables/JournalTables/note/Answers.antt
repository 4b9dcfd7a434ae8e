-- That `JournalTables::note` keeps its contract.
use Rattle.std.proofs.Common.{subst}
use Rattle.reference_tables.proofs.StandingTables.{accounts-stand, dividends-stand, fixed-stand, terms-stand}
use Rattle.reference_tables.specs.TableChanges.{CanTake}
use Rattle.reference_tables.specs.Tables.{Tables}
use Rattle.reference_tables.proofs.tables.JournalTables.note.Goals as goal

pub invariant_of-self : goal.invariant_of-self
invariant_of-self c =
    let inside : Tables = record { terms = c.self.inside.terms; accounts = c.self.inside.accounts; rates = c.self.inside.rates } in
    rw c.put_terms.ensures (terms-stand inside c.in-Class.terms c.self.invariant)

pub invariant_of-self-in-Account : goal.invariant_of-self-in-Account
invariant_of-self-in-Account c =
    let inside : Tables = record { terms = c.self.inside.terms; accounts = c.self.inside.accounts; rates = c.self.inside.rates } in
    rw c.put_account.ensures (accounts-stand inside c.in-Account.row c.self.invariant)

pub invariant_of-self-in-Dividend : goal.invariant_of-self-in-Dividend
invariant_of-self-in-Dividend c =
    let inside : Tables = record { terms = c.self.inside.terms; accounts = c.self.inside.accounts; rates = c.self.inside.rates } in
    let room = subst (CanTake c.args.self.now) c.in-Dividend.is c.requires in
    rw c.put_dividend.ensures (dividends-stand inside c.in-Dividend.row room.1 c.self.invariant)

pub invariant_of-self-in-FixedRate : goal.invariant_of-self-in-FixedRate
invariant_of-self-in-FixedRate c =
    let inside : Tables = record { terms = c.self.inside.terms; accounts = c.self.inside.accounts; rates = c.self.inside.rates } in
    let room = subst (CanTake c.args.self.now) c.in-FixedRate.is c.requires in
    rw c.put_fixed_rate.ensures (fixed-stand inside c.in-FixedRate.row room.1 c.self.invariant)
