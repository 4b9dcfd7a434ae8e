-- The book of a lawful journal is orderly: its sheets are numbered in turn, and an account has only so many orders.
use Rattle.std.proofs.Common.{Bool, List, None, Option, Some, [], ap, arith, cond, count_by, false, filter, fold, length, option_to_list, refl, subst, sum_by, true, ℕ, ◌+◌, ◌<◌, ◌==◌, ◌∙◌, ◌∷◌, ◌≡◌, ◌≤◌}
use Rattle.std.proofs.lemmas.Bool.{and_parts, eqb-true}
use Rattle.std.proofs.lemmas.List.{get_or-map, length-map}
use Rattle.std.proofs.lemmas.List.Sums.{sum_by-append, sum_by-cons}
use Rattle.std.specs.Option.{option_map_or}
use Rattle.agent_events.specs.Events.{Event, order_request, request_of}
use Rattle.agent_events.specs.declared.event.EventKind.{EventKind}
use Rattle.agent_events.specs.declared.event.Source.{Source}
use Rattle.agent_events.specs.declared.order.Order.{Order}
use Rattle.agent_events.specs.declared.order.OrderRow.{OrderRow}
use Rattle.agent_events.specs.declared.request.EntryForm.{EntryForm}
use Rattle.forward_price.proofs.NumberFacts.{none_numbered, numbered_more}
use Rattle.forward_price.specs.PriceTables.{AreNumbered, Table, sheet_published}
use Rattle.forward_price.specs.declared.price_sheet.Sheet.{Sheet}
use Rattle.share_lots.proofs.LotLemmas.{sum_by-filter-le}
use Rattle.share_lots.specs.Lots.{lots_with}
use Rattle.register_laws.proofs.Sums.{sum-same}
use Rattle.register_laws.proofs.KeepsLimits.{keeps_its_limits}
use Rattle.register_laws.proofs.OrdersLeaveTheirClass.{orders_leave}
use Rattle.register_laws.proofs.Sums.{count-map}
use Rattle.register_laws.specs.Trades.{IsOrderly, is_order_of}
use Rattle.register_machine.specs.journal.Choices.{last_of}
use Rattle.register_machine.specs.journal.Journals.{Journal}
use Rattle.register_machine.specs.journal.Kinds.{each_in, price_fix_in, replacement_in}
use Rattle.register_machine.specs.journal.Lawful.{IsLawful}
use Rattle.register_machine.specs.pricing.CorrectedBook.{book_of}
use Rattle.register_machine.specs.pricing.CorrectedOrders.{order_begun, orders_begun, orders_of, replaces, row_as_corrected, stands, struck_in}
use Rattle.register_machine.specs.pricing.CorrectedPrices.{sheet_as_corrected, table_as_corrected}
use Rattle.register_machine.specs.pricing.PublishedTable.{empty_table, table_after, table_behind, table_by, table_of}
use Rattle.register_machine.specs.rules.Identities.{reference_of}
use Rattle.register_machine.specs.rules.Limits.{is_of_account}

-- ---- the orders of an account

-- what is brought to this account
abbrev is_to : ℕ → Option (ℕ × ℕ) → Bool
is_to account found = option_map_or (λ named. named.0 == account) found false

abbrev event_one : ℕ → Event → ℕ
event_one account event = cond (is_of_account account event) 1 0

ordered-one : (from : Source) (account receipt : ℕ) (order : Order) → cond (order.account == account) 1 0 ≤ cond (is_to account (reference_of (order_request from receipt order))) 1 0
ordered-one Source.Direct account receipt order = omega arith
ordered-one Source.Dealer account receipt order = omega arith

abbrev order_one : ℕ → OrderRow → ℕ
order_one account row = cond (is_order_of account row) 1 0

begun-one : (account place : ℕ) (kind : EventKind) → sum_by (order_one account) (option_to_list (order_begun place kind)) ≤ cond (is_to account (reference_of (request_of kind))) 1 0
begun-one account place (EventKind.Order lots_with) =
    omega (arith, ordered-one lots_with.source account lots_with.receipt lots_with.order, sum_by-cons (order_one account) (record { place = place; receipt = lots_with.receipt; struck = false; order = lots_with.order }) [])
begun-one account place (EventKind.Enter form) =
    omega (arith, sum_by-cons (order_one account) (record { place = place; receipt = form.receipt; struck = false; order = form.order }) [])
begun-one account place kind = omega arith

begun-few : (account place : ℕ) (journal : Journal) → count_by (is_order_of account) (orders_begun place journal) ≤ count_by (is_of_account account) journal
begun-few account place [] = omega arith
begun-few account place (event ∷ later) =
    omega (arith, begun-one account place event.kind, begun-few account (place + 1) later, sum_by-append (order_one account) (option_to_list (order_begun place event.kind)) (orders_begun (place + 1) later), sum_by-cons (event_one account) event later)

-- a replacement is of the account of its order
abbrev OfAccount : ℕ → Option EntryForm → Type 0
OfAccount account None = Unit {0}
OfAccount account (Some form) = form.order.account ≡ account

last-account : (order : Order) (forms : List EntryForm) (found : Option EntryForm) → OfAccount order.account found → OfAccount order.account (fold (λ found form. cond (replaces order form) (Some form) found) found forms)
last-account order [] found is = is
last-account order (form ∷ forms) found is =
    last-account order forms (cond (replaces order form) (Some form) found) (by_name (replaces order form) refl)
  where
    by_name : (b : Bool) → replaces order form ≡ b → OfAccount order.account (cond b (Some form) found)
    by_name true e = eqb-true form.order.account order.account (and_parts (form.order.account == order.account) (form.order.ref_no == order.ref_no) e).0
    by_name false e = is

same-account : (order : Order) (found : Option EntryForm) → OfAccount order.account found → (option_map_or (λ form. form.order) found order).account ≡ order.account
same-account order None is = refl
same-account order (Some form) is = is

orders-few : (account : ℕ) (journal : Journal) → count_by (is_order_of account) (filter stands (orders_of journal)) ≤ count_by (is_of_account account) journal
orders-few account journal =
    let row = row_as_corrected (each_in struck_in journal) (each_in replacement_in journal) in
    let begun = orders_begun 0 journal in
    omega (arith, sum_by-filter-le (order_one account) stands (orders_of journal), count-map (is_order_of account) row begun, sum-same (λ (x : OrderRow). order_one account (row x)) (order_one account) same begun, begun-few account 0 journal)
  where
    same : (x : OrderRow) → order_one account (row_as_corrected (each_in struck_in journal) (each_in replacement_in journal) x) ≡ order_one account x
    same x =
        ap (λ a. cond (a == account) 1 0)
        (same-account x.order (last_of (replaces x.order) (each_in replacement_in journal)) (last-account x.order (each_in replacement_in journal) None tt))

-- ---- the sheets of a table

event-numbered : (table : Table) (moment : ℕ) (kind : EventKind) → AreNumbered table.sheets → AreNumbered (table_by table moment kind).sheets
event-numbered table moment (EventKind.Sheet form) are = numbered_more table.sheets (sheet_published table form.calendar _ form.prices) are refl
event-numbered table moment kind are = are

pub events-numbered : (table : Table) (events : Journal) → AreNumbered table.sheets → AreNumbered (fold table_after table events).sheets
events-numbered table [] are = are
events-numbered table (event ∷ events) are =
    events-numbered (table_after table event) events (event-numbered table event.moment event.kind are)

corrected-numbered : (journal : Journal) (table : Table) → AreNumbered table.sheets → AreNumbered (table_as_corrected journal table).sheets
corrected-numbered journal table are = record {
  each = λ k d short.
      let within : k < length table.sheets = subst (λ n. k < n) (length-map table.sheets (sheet_as_corrected (each_in price_fix_in journal))) short in
      ap (λ (sheet : Sheet). sheet.number) (get_or-map (sheet_as_corrected (each_in price_fix_in journal)) table.sheets k d d within) ∙ are.each k d within;
}

pub sheets_are_numbered : (journal : Journal) → AreNumbered (book_of (table_of journal) journal).table.sheets
unfolding table_behind
sheets_are_numbered journal = corrected-numbered journal (table_of journal) (events-numbered empty_table journal none_numbered)

pub lawful_book_is_orderly : (journal : Journal) → IsLawful journal → IsOrderly (book_of (table_of journal) journal)
lawful_book_is_orderly journal lawful = record {
  numbered = sheets_are_numbered journal;
  elsewhere = orders_leave journal lawful;
  few_orders = λ account. omega (arith, orders-few account journal, (keeps_its_limits journal lawful).orders account);
}
