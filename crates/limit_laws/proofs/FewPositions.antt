-- A class has no more positions than there are accounts.
use Rattle.std.proofs.Common.{All, Bool, List, arith, cond, false, filter, get_or, length, refl, subst, sum_by, sym, take, true, ℕ, ◌*◌, ◌==◌, ◌≡◌, ◌≤◌}
use Rattle.std.proofs.lemmas.Bool.{and_from, and_parts, eqb-true}
use Rattle.std.proofs.lemmas.List.Elements.{All-filter, All-weaker}
use Rattle.std.proofs.lemmas.List.Sums.{sum_by-le}
use Rattle.std.specs.List.{list_all, list_any}
use Rattle.agent_events.specs.declared.order.OrderRow.{OrderRow}
use Rattle.agent_events.specs.declared.request.AccountForm.{AccountForm}
use Rattle.forward_price.proofs.OrderlyFacts.{any_from, found_in}
use Rattle.limit_laws.proofs.Counting.{sum-within}
use Rattle.limit_laws.proofs.FewThings.{has_few_things}
use Rattle.limit_laws.specs.Counts.{HasFewPositions, HasFewShares, most_accounts, most_outstanding, positions_in}
use Rattle.limit_laws.specs.Limited.{IsPlacedAmong, stands_among}
use Rattle.register_laws.proofs.Comparisons.{eq-yes}
use Rattle.register_laws.proofs.KnownAccounts.{known-replay}
use Rattle.register_laws.proofs.NamesStand.{names_stand}
use Rattle.register_laws.proofs.OrderlyBooks.{lawful_book_is_orderly}
use Rattle.register_laws.proofs.PositionsInOrder.{Once, at_place, once}
use Rattle.register_laws.proofs.RegistersKept.{at-last, keeps_registers}
use Rattle.register_laws.proofs.Sums.{passing, sums-exchange}
use Rattle.register_laws.specs.Identities.{has_number, is_class}
use Rattle.register_laws.specs.Lawful.{book_behind}
use Rattle.register_laws.specs.NamesStand.{is_placed_in}
use Rattle.register_laws.specs.ReplayKeeps.{AreInOrder, IsKeptPosition}
use Rattle.register_machine.proofs.ListItems.{all-of, any-counted}
use Rattle.register_machine.specs.corrections.Cash.{outstanding, outstanding_in}
use Rattle.register_machine.specs.journal.Journals.{Journal}
use Rattle.register_machine.specs.journal.Kinds.{accounts_of, classes_of}
use Rattle.register_machine.specs.journal.Lawful.{IsLawful}
use Rattle.register_machine.specs.pricing.CorrectedOrders.{orders_of, stands}
use Rattle.register_machine.specs.pricing.OrderClasses.{classes_in}
use Rattle.register_machine.specs.replay.Dividend.{is_of_class}
use Rattle.register_machine.specs.replay.Positions.{Position, Register, is_position, mils_of}
use Rattle.register_machine.specs.replay.Replay.{replay_to}
use Rattle.register_machine.specs.replay.Trades.{Day}
use Rattle.share_lots.specs.Lots.{most_mils}

abbrev pub PositionsStand : List AccountForm → Register → Type 0
PositionsStand accounts register = All (λ (x : Position). stands_among accounts x.account ≡ true) register

-- a position of the class is that of one of the accounts
one-account : (accounts : List AccountForm) (class : ℕ) (x : Position) → stands_among accounts x.account ≡ true → cond (is_of_class class x) 1 0 ≤ sum_by (λ (account : AccountForm). at_place account.account class x) accounts
one-account accounts class x known = by (x.class == class) refl
  where
    by : (of : Bool) → (x.class == class) ≡ of → cond of 1 0 ≤ sum_by (λ (account : AccountForm). at_place account.account class x) accounts
    by false e = omega arith
    by true e =
        let account = found_in (has_number x.account) accounts known in
        let here = and_from (x.account == account.0.account) (x.class == class) (eq-yes x.account account.0.account (sym (eqb-true account.0.account x.account account.2))) e in
        any-counted (λ (account : AccountForm). is_position account.account class x) accounts
        (any_from (λ (account : AccountForm). is_position account.account class x) accounts account.0 account.1 here)

pub few-in-class : (accounts : List AccountForm) (register : Register) (class : ℕ) → AreInOrder register → PositionsStand accounts register → positions_in register class ≤ length accounts
unfolding Once
few-in-class accounts register class ordered known =
    let each = sum-within (λ (x : Position). cond (is_of_class class x) 1 0) (λ (x : Position). sum_by (λ (account : AccountForm). at_place account.account class x) accounts) register
    (λ k d short. one-account accounts class (get_or register k d) (known k d short)) in
    let turned = sums-exchange (λ (x : Position) (account : AccountForm). at_place account.account class x) register accounts in
    let all = sum_by-le (λ (account : AccountForm). sum_by (λ (x : Position). at_place account.account class x) register) 1 accounts
    (λ k d short. once register ordered (get_or accounts k d).account class) in
    omega (arith, each, turned, all)

-- the orders of a lawful journal are of its accounts
pub orders-stand : (journal : Journal) → IsLawful journal → All (IsPlacedAmong (accounts_of journal)) (filter stands (orders_of journal))
orders-stand journal lawful =
    All-filter stands (IsPlacedAmong (accounts_of journal)) (orders_of journal)
    (All-weaker (λ (row : OrderRow). is_placed_in journal row.order ≡ true) (IsPlacedAmong (accounts_of journal))
    (λ row placed. (and_parts (stands_among (accounts_of journal) row.order.account) (list_all (λ class. list_any (is_class class) (classes_of journal)) (classes_in row.order.body)) placed).0)
    (orders_of journal) (all-of (λ (row : OrderRow). is_placed_in journal row.order) (orders_of journal) (names_stand journal lawful).orders))

few-up_to : (journal : Journal) → IsLawful journal → (number class : ℕ) → positions_in (replay_to (book_behind journal) number).register class ≤ most_accounts
few-up_to journal lawful number class =
    let book = book_behind journal in
    let kept = keeps_registers book (lawful_book_is_orderly journal lawful) in
    let known = (known-replay book (stands_among (accounts_of journal)) (orders-stand journal lawful) (take number book.table.sheets)).positions in
    omega (arith, (has_few_things journal lawful).accounts, few-in-class (accounts_of journal) (replay_to book number).register class (kept.up_to number).in_order known)

pub has_few_positions : (journal : Journal) → IsLawful journal → HasFewPositions journal
has_few_positions journal lawful =
    let book = book_behind journal in
    record {
      up_to = few-up_to journal lawful;
      at_last = λ class. subst (λ (day : Day). positions_in day.register class ≤ most_accounts) (at-last book) (few-up_to journal lawful (length book.table.sheets) class);
    }

-- ---- the shares of a class

one-position : (class : ℕ) (x : Position) → IsKeptPosition x → outstanding_in class x ≤ cond (is_of_class class x) most_mils 0
one-position class x kept = elim (x.class == class) as (λ b. cond b (mils_of x.holding) 0 ≤ cond b most_mils 0) [
  | true ↦ kept.few_mils
  | false ↦ omega arith
]

few-shares : (class positions : ℕ) (register : Register) → All IsKeptPosition register → positions_in register class ≤ positions → outstanding register class ≤ most_mils * positions
few-shares class positions register kept few =
    let each = sum-within (outstanding_in class) (λ (x : Position). cond (is_of_class class x) most_mils 0) register
    (λ k d short. one-position class (get_or register k d) (kept k d short)) in
    omega (arith, each, passing (is_of_class class) most_mils register, few)

shares-up_to : (journal : Journal) → IsLawful journal → (number class : ℕ) → outstanding (replay_to (book_behind journal) number).register class ≤ most_outstanding
shares-up_to journal lawful number class =
    let kept = keeps_registers (book_behind journal) (lawful_book_is_orderly journal lawful) in
    omega (arith, few-shares class most_accounts (replay_to (book_behind journal) number).register (kept.up_to number).positions (few-up_to journal lawful number class))

pub has_few_shares : (journal : Journal) → IsLawful journal → HasFewShares journal
has_few_shares journal lawful =
    let book = book_behind journal in
    record {
      up_to = shares-up_to journal lawful;
      at_last = λ class. subst (λ (day : Day). outstanding day.register class ≤ most_outstanding) (at-last book) (shares-up_to journal lawful (length book.table.sheets) class);
      fits = omega arith;
    }
