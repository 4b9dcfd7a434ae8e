-- That `household_of` keeps its contract.
use Rattle.std.proofs.Common.{Option, ap, subst, sym, ◌∙◌}
use Rattle.std.specs.Option.{option_map_or}
use Rattle.agent_events.specs.declared.rows.AccountRow.{AccountRow}
use Rattle.register_desk.proofs.HouseholdParts.{household_found}
use Rattle.register_desk.specs.NamedAccounts.{IsOfHousehold}
use Rattle.register_desk.proofs.households.household_of.Goals as goal

pub returns : goal.returns
returns c =
    let books = c.args.books.now in
    let found = c.household_in.ensures ∙ ap (λ (row : Option AccountRow). option_map_or (λ (r : AccountRow). r.household) row 0) c.account.ensures in
    subst (λ n. IsOfHousehold books.book.journal n c.args.account) (sym found)
    (household_found books.book.journal books.tables c.args.account c.requires.books.tables c.requires.there)
