-- An order is traced among its household's trades, on the sheet of its next price.
use Rattle.std.proofs.Common.{All, Bool, Contains, List, Some, [], arith, cond, false, find, subst, sym, true, ℕ, ◌==◌, ◌∙◌, ◌∷◌, ◌≡◌, ◌≤◌}
use Rattle.std.proofs.lemmas.Bool.{and_parts, eqb-true}
use Rattle.std.proofs.lemmas.List.Elements.{All-contains, All-head, All-tail}
use Rattle.std.specs.List.{list_any}
use Rattle.agent_events.specs.declared.order.OrderRow.{OrderRow}
use Rattle.holder_statements.proofs.FitForLooks.{fit_for_looks}
use Rattle.holder_statements.specs.HouseholdLooks.{IsFoundInPart, part_in}
use Rattle.holder_statements.specs.OrderTraces.{IsFoundOn}
use Rattle.register_desk.specs.NamedAccounts.{HasAccount, IsOfHousehold}
use Rattle.forward_price.proofs.OrderlyFacts.{all_to}
use Rattle.fund_calendar.proofs.LookUpLemmas.{find_passes}
use Rattle.register_laws.proofs.NamesStand.{names_stand}
use Rattle.register_laws.proofs.Tests.{find-any}
use Rattle.register_laws.specs.Households.{is_of_household}
use Rattle.register_laws.specs.Identities.{has_number}
use Rattle.register_laws.specs.Lawful.{book_behind}
use Rattle.register_laws.specs.NamesStand.{is_placed_in}
use Rattle.register_machine.specs.journal.Journals.{Journal}
use Rattle.register_machine.specs.journal.Kinds.{accounts_of}
use Rattle.register_machine.specs.journal.Lawful.{IsLawful}
use Rattle.register_machine.specs.pricing.CorrectedOrders.{is_named, order_named, orders_of}

same-order : (first row : OrderRow) → Some first ≡ Some row → first ≡ row
same-order first row e = cc

-- what holds of all holds of the one that is found
found-holds : (P : OrderRow → Type 0) (p : OrderRow → Bool) (rows : List OrderRow) (row : OrderRow) → All P rows → find p rows ≡ Some row → P row
found-holds P p [] row all is = cc
found-holds P p (first ∷ rows) row all is = by_test (p first) (λ e. found-holds P p rows row (All-tail P first rows all) e) is
  where
    by_test : (b : Bool) → (find p rows ≡ Some row → P row) → cond b (Some first) (find p rows) ≡ Some row → P row
    by_test true later e = subst P (same-order first row e) (All-head P first rows all)
    by_test false later e = later e

-- the order that is found is the one that is named
pub named_row : (journal : Journal) (account ref_no : ℕ) (row : OrderRow) → order_named (orders_of journal) account ref_no ≡ Some row → (row.order.account ≡ account) × (row.order.ref_no ≡ ref_no)
named_row journal account ref_no row is =
    let both = and_parts (row.order.account == account) (row.order.ref_no == ref_no) (find_passes (λ (r : OrderRow). is_named account ref_no r.order) (orders_of journal) row is) in
    (eqb-true row.order.account account both.0, eqb-true row.order.ref_no ref_no both.1)

pub its_household : (journal : Journal) (household account ref_no : ℕ) (row : OrderRow) → order_named (orders_of journal) account ref_no ≡ Some row → IsOfHousehold journal household account → is_of_household (accounts_of journal) household row.order.account ≡ true
its_household journal household account ref_no row is of =
    subst (λ n. is_of_household (accounts_of journal) household n ≡ true) (sym (named_row journal account ref_no row is).0) of

pub found_on_its_sheet : (journal : Journal) (household account ref_no : ℕ) (row : OrderRow) → IsLawful journal → order_named (orders_of journal) account ref_no ≡ Some row → IsOfHousehold journal household account → 1 ≤ ref_no → row.struck ≡ false → IsFoundOn (book_behind journal).table.sheets (part_in (book_behind journal) household).trades row
found_on_its_sheet journal household account ref_no row lawful is of least standing =
    let named = named_row journal account ref_no row is in
    found-holds (IsFoundInPart (book_behind journal) household) (λ (r : OrderRow). is_named account ref_no r.order) (orders_of journal) row (fit_for_looks journal household lawful).found is
    (its_household journal household account ref_no row is of) (omega (arith, named.1, least)) standing

-- the account of an order of a lawful journal stands
pub account_stands : (journal : Journal) (row : OrderRow) → IsLawful journal → Contains (orders_of journal) row → HasAccount journal row.order.account
account_stands journal row lawful there =
    find-any (has_number row.order.account) (accounts_of journal)
    ∙ (and_parts (list_any (has_number row.order.account) (accounts_of journal)) _ (all_to (λ (other : OrderRow). is_placed_in journal other.order) (orders_of journal) row (names_stand journal lawful).orders there)).0

-- and an order has its trade on its sheet, however it is found
pub found_by_itself : (journal : Journal) (household : ℕ) (row : OrderRow) → IsLawful journal → Contains (orders_of journal) row → IsOfHousehold journal household row.order.account → 1 ≤ row.order.ref_no → row.struck ≡ false → IsFoundOn (book_behind journal).table.sheets (part_in (book_behind journal) household).trades row
found_by_itself journal household row lawful there of least standing =
    All-contains (IsFoundInPart (book_behind journal) household) (orders_of journal) row (fit_for_looks journal household lawful).found there
    of (omega (arith, least)) standing
