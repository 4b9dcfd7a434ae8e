-- The book of a correction that no rule before the last one refuses is sound.
use Rattle.std.proofs.Common.{All, Bool, List, None, Option, Some, [], ap, count_by, false, filter, is_some, length, nat_le, not, option_and_then, option_map, option_to_list, refl, subst, sym, true, ℕ, ◌++◌, ◌∙◌, ◌∷◌, ◌≡◌, ◌≤◌}
use Rattle.std.proofs.lemmas.Bool.{true≢false}
use Rattle.std.proofs.lemmas.List.Elements.{All-weaker}
use Rattle.std.specs.Option.{option_map_or}
use Rattle.std.specs.List.{list_all, list_any}
use Rattle.agent_events.specs.Events.{Event, request_of}
use Rattle.agent_events.specs.declared.event.EventKind.{EventKind}
use Rattle.agent_events.specs.declared.order.Order.{Order}
use Rattle.agent_events.specs.declared.order.OrderRow.{OrderRow}
use Rattle.agent_events.specs.declared.reply.Refusal.{Refusal}
use Rattle.agent_events.specs.declared.request.AccountForm.{AccountForm}
use Rattle.agent_events.specs.declared.request.ClassForm.{ClassForm}
use Rattle.agent_events.specs.declared.request.EntryForm.{EntryForm}
use Rattle.agent_events.specs.declared.request.Request.{Request}
use Rattle.agent_events.specs.declared.verdict.Caller.{Caller}
use Rattle.forward_price.specs.Orderly.{IsOrderly}
use Rattle.forward_price.specs.PriceTables.{Table}
use Rattle.ledger_laws.proofs.OrdersAfter.{few-after, standing-after}
use Rattle.ledger_laws.proofs.SoundBooks.{has_a_sound_book, sheets-listed}
use Rattle.ledger_laws.specs.SoundBooks.{IsSoundBook}
use Rattle.ledger_laws.specs.TrialBooks.{LawfulTrialIsSound}
use Rattle.register_laws.proofs.BookOrders.{SaidAs, order_said}
use Rattle.register_laws.proofs.Choosing.{not_when}
use Rattle.register_laws.proofs.CorrectedAgain.{book-again}
use Rattle.register_laws.proofs.CorrectionsLeaveFilled.{corrected-table}
use Rattle.register_laws.proofs.NothingBefore.{all-named, begins-by}
use Rattle.register_laws.proofs.OneEventMore.{gathers-on, rates_go_on, table_goes_on}
use Rattle.register_laws.proofs.OrderlyBooks.{sheets_are_numbered}
use Rattle.register_laws.proofs.OrdersGoOn.{orders_go_on}
use Rattle.register_laws.proofs.PricesAnew.{more-still}
use Rattle.register_laws.proofs.RulesByName.{not_broken}
use Rattle.register_laws.proofs.TablesAreOrderly.{kept, orderly-corrected}
use Rattle.register_laws.proofs.TablesGoOn.{corrected_table_goes_on}
use Rattle.register_laws.proofs.Tests.{all-kept}
use Rattle.register_laws.specs.Identities.{is_class}
use Rattle.register_laws.specs.Lawful.{book_behind, own_at}
use Rattle.register_laws.specs.OneEventMore.{book_after, corrected_table, corrected_table_by, is_unfixed, orders_after}
use Rattle.register_laws.specs.Trades.{LeavesItsClass, is_order_of, stays_in_class}
use Rattle.register_machine.specs.corrections.Payments.{bearer_in}
use Rattle.register_machine.specs.journal.Journals.{Journal, with_event}
use Rattle.register_machine.specs.journal.Kinds.{account_in, accounts_of, class_in, classes_of}
use Rattle.register_machine.specs.journal.Lawful.{IsLawful}
use Rattle.register_machine.specs.pricing.CorrectedBook.{Book, book_of}
use Rattle.register_machine.specs.pricing.CorrectedOrders.{order_named, orders_of, row_as_sent, stands}
use Rattle.register_machine.specs.pricing.DividendRates.{Rates, rates_of}
use Rattle.register_machine.specs.pricing.OrderClasses.{class_of, classes_in, target_of}
use Rattle.register_machine.specs.pricing.PublishedTable.{table_of}
use Rattle.register_machine.specs.rules.Identities.{reference_of}
use Rattle.register_machine.specs.rules.InOrder.{Rule, broken_rule}
use Rattle.register_machine.specs.rules.Limits.{is_of_account, most_orders}
use Rattle.register_machine.specs.rules.NamedThings.{none_such, things_named}
use Rattle.register_machine.specs.rules.Orders.{is_offered, not_offered, refused_order}
use Rattle.register_laws.proofs.KeepsLimits.{keeps_its_limits}
use Rattle.register_laws.proofs.NamesStand.{classes-named}
use Rattle.register_laws.proofs.OrdersLeaveTheirClass.{offered-leaves}

-- ---- the order that a correction says

-- its classes are the journal's
abbrev NamesIn : Journal → Order → Type 0
NamesIn journal order = list_all (λ class. list_any (is_class class) (classes_of journal)) (classes_in order.body) ≡ true

said-named : (journal : Journal) (now : ℕ) (caller : Caller) (kind : EventKind) → is_some (bearer_in kind) ≡ true → none_such (own_at journal now caller) (request_of kind) ≡ None → SaidAs (NamesIn journal) (order_said kind)
said-named journal now caller (EventKind.Order placed) corrects known = absurd (true≢false (sym corrects))
said-named journal now caller (EventKind.Enter form) corrects known =
    let each = all-named (things_named (own_at journal now caller) (Request.Enter form)) known in
    classes-named (own_at journal now caller) 5 (class_of form.order.body) (target_of form.order.body) each.1.1
said-named journal now caller (EventKind.Replace form) corrects known =
    let each = all-named (things_named (own_at journal now caller) (Request.Replace form)) known in
    classes-named (own_at journal now caller) 5 (class_of form.order.body) (target_of form.order.body) each.1.1.1
said-named journal now caller _ corrects known = tt

-- and it doesn't exchange a class into itself
abbrev LeavesClass : Order → Type 0
LeavesClass order = stays_in_class order.body ≡ false

is-true : (b : Bool) → not b ≡ false → b ≡ true
is-true true e = refl
is-true false e = absurd (true≢false e)

row-leaves : (book : Book) (row : OrderRow) → not_offered book row ≡ None → LeavesClass row.order
row-leaves book row clear =
    offered-leaves book row.order.body (is-true (is_offered book row.order.body) (not_when (not (is_offered book row.order.body)) Refusal.NotOffered clear))

replaced-leaves : (book : Book) (form : EntryForm) (found : Option OrderRow) → is_some found ≡ true → option_and_then (not_offered book) (option_map (λ row. row_as_sent row.place form.receipt form.order) found) ≡ None → LeavesClass form.order
replaced-leaves book form None there clear = absurd (true≢false (sym there))
replaced-leaves book form (Some row) there clear = row-leaves book (row_as_sent row.place form.receipt form.order) clear

said-leaves : (journal : Journal) (now : ℕ) (caller : Caller) (kind : EventKind) → is_some (bearer_in kind) ≡ true → none_such (own_at journal now caller) (request_of kind) ≡ None → refused_order not_offered (own_at journal now caller) (request_of kind) ≡ None → SaidAs LeavesClass (order_said kind)
said-leaves journal now caller (EventKind.Order placed) corrects known clear = absurd (true≢false (sym corrects))
said-leaves journal now caller (EventKind.Enter form) corrects known clear =
    row-leaves (book_behind journal) (row_as_sent (length journal) form.receipt form.order) clear
said-leaves journal now caller (EventKind.Replace form) corrects known clear =
    let each = all-named (things_named (own_at journal now caller) (Request.Replace form)) known in
    replaced-leaves (book_behind journal) form (order_named (orders_of journal) form.order.account form.order.ref_no) each.1.1.0 clear
said-leaves journal now caller _ corrects known clear = tt

-- ---- the tables

pub unfixed : (journal : Journal) (kind : EventKind) → is_some (bearer_in kind) ≡ true → is_unfixed journal kind ≡ true
unfixed journal (EventKind.Sheet form) corrects = absurd (true≢false (sym corrects))
unfixed journal _ corrects = refl

same-table : (journal : Journal) (event : Event) → is_some (bearer_in event.kind) ≡ true → table_of (with_event journal event) ≡ table_of journal
same-table journal event corrects =
    table_goes_on journal event ∙ corrected-table (table_of journal) event.moment event.kind corrects

-- ---- the book goes on

abbrev made : Table → List ClassForm → List AccountForm → List OrderRow → Rates → Book
made table classes accounts orders rates =
    record { table = table; classes = classes; accounts = accounts; orders = orders; rates = rates }

pub book-after : (journal : Journal) (event : Event) → is_unfixed journal event.kind ≡ true → orders_of (with_event journal event) ≡ orders_after (length journal) (orders_of journal) event.kind → book_behind (with_event journal event) ≡ book_after (length journal) (book_behind journal) event.moment event.kind
book-after journal event new orders =
    let later = with_event journal event in
    let table = corrected_table_by (corrected_table journal) event.moment event.kind in
    let classes = classes_of journal ++ option_to_list (class_in event.kind) in
    let accounts = accounts_of journal ++ option_to_list (account_in event.kind) in
    let rows = orders_after (length journal) (orders_of journal) event.kind in
    ap (λ t. made t (classes_of later) (accounts_of later) (orders_of later) (rates_of later)) (corrected_table_goes_on journal event new)
    ∙ (ap (λ c. made table c (accounts_of later) (orders_of later) (rates_of later)) (gathers-on class_in journal event)
    ∙ (ap (λ a. made table classes a (orders_of later) (rates_of later)) (gathers-on account_in journal event)
    ∙ (ap (λ o. made table classes accounts o (rates_of later)) orders
    ∙ ap (made table classes accounts rows) (rates_go_on journal event))))

-- ---- the trial

module _ (journal : Journal) (event : Event) (caller : Caller) (lawful : IsLawful journal) (corrects : is_some (bearer_in event.kind) ≡ true) (clear : broken_rule (own_at journal event.moment caller) (request_of event.kind) ≡ None) where
  pub orders-on : orders_of (with_event journal event) ≡ orders_after (length journal) (orders_of journal) event.kind
  orders-on =
      orders_go_on journal event (begins-by journal event.moment caller event.kind lawful (not_broken (own_at journal event.moment caller) (request_of event.kind) clear Rule.RefUsed))

  names-stand : All (λ (row : OrderRow). NamesIn (with_event journal event) row.order) (filter stands (orders_of (with_event journal event)))
  names-stand =
      let later = with_event journal event in
      let known = not_broken (own_at journal event.moment caller) (request_of event.kind) clear Rule.NoSuch in
      All-weaker (λ (row : OrderRow). NamesIn journal row.order) (λ (row : OrderRow). NamesIn later row.order)
      (λ row. all-kept (λ class. list_any (is_class class) (classes_of journal)) (λ class. list_any (is_class class) (classes_of later)) (classes_in row.order.body) (λ class. more-still class_in (is_class class) journal event))
      (filter stands (orders_of later))
      (subst (λ rows. All (λ (row : OrderRow). NamesIn journal row.order) (filter stands rows)) (sym orders-on)
      (standing-after (NamesIn journal) (length journal) (orders_of journal) event.kind (has_a_sound_book journal lawful).orders (said-named journal event.moment caller event.kind corrects known)))

  leave-classes : All LeavesItsClass (filter stands (orders_of (with_event journal event)))
  leave-classes =
      let situation = own_at journal event.moment caller in
      let known = not_broken situation (request_of event.kind) clear Rule.NoSuch in
      let offered = not_broken situation (request_of event.kind) clear Rule.NotOffered in
      let before = All-weaker LeavesItsClass (λ (row : OrderRow). LeavesClass row.order) (λ row is. is.elsewhere) (filter stands (orders_of journal)) (has_a_sound_book journal lawful).orderly.elsewhere in
      All-weaker (λ (row : OrderRow). LeavesClass row.order) LeavesItsClass (λ row is. record { elsewhere = is }) (filter stands (orders_of (with_event journal event)))
      (subst (λ rows. All (λ (row : OrderRow). LeavesClass row.order) (filter stands rows)) (sym orders-on)
      (standing-after LeavesClass (length journal) (orders_of journal) event.kind before (said-leaves journal event.moment caller event.kind corrects known offered)))

  few-orders : (account : ℕ) → count_by (is_order_of account) (filter stands (orders_of (with_event journal event))) ≤ most_orders
  few-orders account =
      let full = not_broken (own_at journal event.moment caller) (request_of event.kind) clear Rule.OrdersFull in
      let room = not_when (option_map_or (λ (named : ℕ × ℕ). nat_le most_orders (count_by (is_of_account named.0) journal)) (reference_of (request_of event.kind)) false) (Refusal.OrdersFull most_orders) full in
      subst (λ rows. count_by (is_order_of account) (filter stands rows) ≤ most_orders) (sym orders-on)
      (few-after journal (length journal) event.kind lawful ((keeps_its_limits journal lawful).orders) room account)

  tables-orderly : IsOrderly (book_behind (with_event journal event)).table
  tables-orderly =
      orderly-corrected (with_event journal event) (table_of (with_event journal event)) (subst IsOrderly (sym (same-table journal event corrects)) (kept journal lawful).orderly)

  pub sound-trial : IsSoundBook (book_behind (with_event journal event))
  sound-trial = record {
    orderly = record { numbered = sheets_are_numbered (with_event journal event); elsewhere = leave-classes; few_orders = few-orders };
    orders = names-stand;
    sheets = sheets-listed (with_event journal event) tables-orderly;
  }

  pub trial-anew : book_of (book_behind journal).table (with_event journal event) ≡ book_behind (with_event journal event)
  trial-anew =
      book-again (table_of journal) journal (event ∷ [])
      ∙ ap (λ table. book_of table (with_event journal event)) (sym (same-table journal event corrects))

pub trial_is_sound : (journal : Journal) (event : Event) (caller : Caller) → LawfulTrialIsSound journal event caller
trial_is_sound journal event caller lawful corrects clear = record {
  sound = sound-trial journal event caller lawful corrects clear;
  goes_on = book-after journal event (unfixed journal event.kind corrects) (orders-on journal event caller lawful corrects clear);
  on_trial = trial-anew journal event caller lawful corrects clear;
}
