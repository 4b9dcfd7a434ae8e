-- What a lawful journal names stands in it: each event names what stood before it, and nothing goes.
use Rattle.register_machine.specs.pricing.CorrectedOrders.{is_named}
use Rattle.std.proofs.Common.{Bool, List, None, Option, Some, [], ap, cond, false, length, map, option_to_list, refl, sym, true, ℕ, ◌&&◌, ◌++◌, ◌+◌, ◌==◌, ◌||◌, ◌∙◌, ◌∷◌, ◌≡◌}
use Rattle.std.proofs.lemmas.Bool.{and_parts}
use Rattle.std.proofs.lemmas.List.Folds.{list_all-append}
use Rattle.std.specs.List.{AllByRecursion, list_all, list_any}
use Rattle.agent_events.specs.Events.{Event, order_request, request_of}
use Rattle.agent_events.specs.declared.event.EventKind.{EventKind}
use Rattle.agent_events.specs.declared.event.Source.{Source}
use Rattle.agent_events.specs.declared.order.Order.{Order}
use Rattle.agent_events.specs.declared.order.OrderRow.{OrderRow}
use Rattle.agent_events.specs.declared.request.EntryForm.{EntryForm}
use Rattle.agent_events.specs.declared.request.Request.{Request}
use Rattle.fund_calendar.specs.PricingDays.{Listing}
use Rattle.register_laws.proofs.LawfulJournals.{brought, lawful-keeps}
use Rattle.register_laws.proofs.NoPricingTwice.{calendars-seen}
use Rattle.register_laws.proofs.NothingBefore.{all-named, begins-by}
use Rattle.register_laws.proofs.OneEventMore.{gathers-on}
use Rattle.register_laws.proofs.OrdersGoOn.{orders_go_on}
use Rattle.register_laws.proofs.PricesAnew.{more-still}
use Rattle.register_laws.proofs.RulesByName.{not_broken}
use Rattle.register_laws.proofs.Tests.{all-kept, all-mapped, find-any}
use Rattle.register_laws.specs.Identities.{has_number, is_calendar, is_class, is_dealer, is_household}
use Rattle.register_laws.specs.Lawful.{IsBrought, own_at}
use Rattle.register_laws.specs.NamesStand.{NamesStand, has_its_calendar, has_its_dealer, has_its_household, is_placed_in}
use Rattle.register_laws.specs.OneEventMore.{orders_after, replaced_by, struck_by}
use Rattle.register_machine.specs.journal.Journals.{Journal, with_event}
use Rattle.register_machine.specs.journal.Kinds.{account_in, accounts_of, calendar_in, class_in, classes_of, dealer_in, dealers_of, each_in, household_in}
use Rattle.register_machine.specs.journal.Lawful.{IsLawful}
use Rattle.register_machine.specs.pricing.CorrectedOrders.{orders_of, replaces, row_as_sent}
use Rattle.register_machine.specs.pricing.OrderClasses.{class_of, classes_in, target_of}
use Rattle.register_machine.specs.pricing.PublishedTable.{table_of}
use Rattle.agent_events.specs.declared.verdict.Caller.{Caller}
use Rattle.register_machine.specs.rules.InOrder.{Rule, broken_by}
use Rattle.register_machine.specs.rules.NamedThings.{has_account, has_class, none_such, things_named}
use Rattle.register_machine.specs.rules.Sheets.{sheet_fault}
use Rattle.register_machine.specs.rules.Situations.{Situation}

-- ---- lists

both-kept : (a b c d : Bool) → (a ≡ true → c ≡ true) → (b ≡ true → d ≡ true) → (a && b) ≡ true → (c && d) ≡ true
both-kept a b c d first second e =
    let parts = and_parts a b e in ap (λ x. x && d) (first parts.0) ∙ second parts.1

either-kept : (a b c : Bool) → (b ≡ true → c ≡ true) → (a || b) ≡ true → (a || c) ≡ true
either-kept true b c keeps e = refl
either-kept false b c keeps e = keeps e

-- ---- one event more keeps what stands

placed-kept : (journal : Journal) (event : Event) (order : Order) → is_placed_in journal order ≡ true → is_placed_in (with_event journal event) order ≡ true
placed-kept journal event order =
    both-kept (list_any (has_number order.account) (accounts_of journal)) (list_all (λ class. list_any (is_class class) (classes_of journal)) (classes_in order.body))
    (list_any (has_number order.account) (accounts_of (with_event journal event))) (list_all (λ class. list_any (is_class class) (classes_of (with_event journal event))) (classes_in order.body))
    (more-still account_in (has_number order.account) journal event)
    (all-kept (λ class. list_any (is_class class) (classes_of journal)) (λ class. list_any (is_class class) (classes_of (with_event journal event))) (classes_in order.body)
    (λ class. more-still class_in (is_class class) journal event))

-- ---- what an event names

household-named : (journal : Journal) (now : ℕ) (caller : Caller) (kind : EventKind) → none_such (own_at journal now caller) (request_of kind) ≡ None → list_all (has_its_household journal) (option_to_list (account_in kind)) ≡ true
household-named journal now caller (EventKind.Account form) named =
    ap (λ b. b && true) (all-named (things_named (own_at journal now caller) (Request.Account form)) named).0
household-named journal now caller _ named = refl

dealer-named : (journal : Journal) (now : ℕ) (caller : Caller) (kind : EventKind) → none_such (own_at journal now caller) (request_of kind) ≡ None → list_all (has_its_dealer journal) (option_to_list (account_in kind)) ≡ true
dealer-named journal now caller (EventKind.Account form) named =
    ap (λ b. (form.dealer == 0 || b) && true) (sym (find-any (is_dealer form.dealer) (dealers_of journal)))
    ∙ ap (λ b. b && true) (all-named (things_named (own_at journal now caller) (Request.Account form)) named).1.0
dealer-named journal now caller _ named = refl

calendar-named : (journal : Journal) (now : ℕ) (caller : Caller) (kind : EventKind) → none_such (own_at journal now caller) (request_of kind) ≡ None → list_all (has_its_calendar journal) (option_to_list (class_in kind)) ≡ true
calendar-named journal now caller (EventKind.Class form) named =
    ap (λ b. b && true)
    (sym (calendars-seen form.calendar journal)
    ∙ (sym (find-any (λ (c : Listing). c.number == form.calendar) (table_of journal).calendars)
    ∙ (all-named (things_named (own_at journal now caller) (Request.Class form)) named).0))
calendar-named journal now caller _ named = refl

-- the classes of an order
pub classes-named : (situation : Situation) (place class : ℕ) (target : Option ℕ) → AllByRecursion (λ (field : ℕ × Bool). field.1 ≡ true) ((place + 2, has_class situation class) ∷ map (λ to. (place + 3, has_class situation to)) (option_to_list target)) → list_all (λ c. list_any (is_class c) situation.book.classes) (class ∷ option_to_list target) ≡ true
classes-named situation place class None all =
    ap (λ b. b && true) (sym (find-any (is_class class) situation.book.classes) ∙ all.0)
classes-named situation place class (Some to) all =
    ap (λ b. b && (list_any (is_class to) situation.book.classes && true)) (sym (find-any (is_class class) situation.book.classes) ∙ all.0)
    ∙ ap (λ b. b && true) (sym (find-any (is_class to) situation.book.classes) ∙ all.1.0)

placed-named : (journal : Journal) (now : ℕ) (caller : Caller) (place : ℕ) (order : Order) → has_account (own_at journal now caller) order.account ≡ true → AllByRecursion (λ (field : ℕ × Bool). field.1 ≡ true) ((place + 2, has_class (own_at journal now caller) (class_of order.body)) ∷ map (λ to. (place + 3, has_class (own_at journal now caller) to)) (option_to_list (target_of order.body))) → is_placed_in journal order ≡ true
placed-named journal now caller place order account classes =
    ap (λ b. b && list_all (λ class. list_any (is_class class) (classes_of journal)) (classes_in order.body)) (sym (find-any (has_number order.account) (accounts_of journal)) ∙ account)
    ∙ classes-named (own_at journal now caller) place (class_of order.body) (target_of order.body) classes

-- ---- orders

-- a struck order keeps its names, and a replaced one has those of its replacement
struck-placed : (journal : Journal) (named : ℕ × ℕ) (row : OrderRow) → is_placed_in journal row.order ≡ true → is_placed_in journal (struck_by named row).order ≡ true
struck-placed journal named row placed = by_name (is_named named.0 named.1 row.order)
  where
    by_name : (is : Bool) → is_placed_in journal (cond is (record { place = row.place; receipt = row.receipt; struck = true; order = row.order }) row).order ≡ true
    by_name true = placed
    by_name false = placed

replaced-placed : (journal : Journal) (form : EntryForm) (row : OrderRow) → is_placed_in journal form.order ≡ true → is_placed_in journal row.order ≡ true → is_placed_in journal (replaced_by form row).order ≡ true
replaced-placed journal form row new old = by_name (replaces row.order form)
  where
    by_name : (is : Bool) → is_placed_in journal (cond is (record { place = row.place; receipt = form.receipt; struck = row.struck; order = form.order }) row).order ≡ true
    by_name true = new
    by_name false = old

-- the orders of the journal before, and that of the event, all placed in one journal
orders-placed : (known journal : Journal) (now : ℕ) (caller : Caller) (place : ℕ) (rows : List OrderRow) (kind : EventKind) → ((order : Order) → is_placed_in journal order ≡ true → is_placed_in known order ≡ true) → none_such (own_at journal now caller) (request_of kind) ≡ None → list_all (λ row. is_placed_in known row.order) rows ≡ true → list_all (λ row. is_placed_in known row.order) (orders_after place rows kind) ≡ true
orders-placed known journal now caller place rows (EventKind.Order placed) keeps named all = by_source placed.source named
  where
    one_more : is_placed_in journal placed.order ≡ true → list_all (λ row. is_placed_in known row.order) (rows ++ row_as_sent place placed.receipt placed.order ∷ []) ≡ true
    one_more is =
        list_all-append (λ (row : OrderRow). is_placed_in known row.order) rows (row_as_sent place placed.receipt placed.order ∷ [])
        ∙ (ap (λ b. b && (is_placed_in known placed.order && true)) all ∙ ap (λ b. b && true) (keeps placed.order is))

    by_source : (from : Source) → none_such (own_at journal now caller) (order_request from placed.receipt placed.order) ≡ None → list_all (λ row. is_placed_in known row.order) (rows ++ row_as_sent place placed.receipt placed.order ∷ []) ≡ true
    by_source Source.Direct h =
        let each = all-named (things_named (own_at journal now caller) (Request.Order placed.order)) h in
        one_more (placed-named journal now caller 1 placed.order each.0 each.1)
    by_source Source.Dealer h =
        let each = all-named (things_named (own_at journal now caller) (Request.Line (record { receipt = placed.receipt; order = placed.order }))) h in
        one_more (placed-named journal now caller 3 placed.order each.0 each.1)
orders-placed known journal now caller place rows (EventKind.Enter form) keeps named all =
    let each = all-named (things_named (own_at journal now caller) (Request.Enter form)) named in
    list_all-append (λ (row : OrderRow). is_placed_in known row.order) rows (row_as_sent place form.receipt form.order ∷ [])
    ∙ (ap (λ b. b && (is_placed_in known form.order && true)) all
    ∙ ap (λ b. b && true) (keeps form.order (placed-named journal now caller 5 form.order each.1.0 each.1.1)))
orders-placed known journal now caller place rows (EventKind.Replace form) keeps named all =
    let each = all-named (things_named (own_at journal now caller) (Request.Replace form)) named in
    all-mapped (λ (row : OrderRow). is_placed_in known row.order) (replaced_by form) rows
    (λ row. replaced-placed known form row (keeps form.order (placed-named journal now caller 5 form.order each.1.0 each.1.1.1))) all
orders-placed known journal now caller place rows (EventKind.Cancel form) keeps named all =
    all-mapped (λ (row : OrderRow). is_placed_in known row.order) (struck_by (form.account, form.target)) rows (struck-placed known (form.account, form.target)) all
orders-placed known journal now caller place rows (EventKind.Void form) keeps named all =
    all-mapped (λ (row : OrderRow). is_placed_in known row.order) (struck_by (form.account, form.ref_no)) rows (struck-placed known (form.account, form.ref_no)) all
orders-placed known journal now caller place rows _ keeps named all = all

-- ---- all of them

-- what is gathered has what it names, where what is new does and the rest keeps it
gathered-named : {X : Type 0} (chosen : EventKind → Option X) (old new : X → Bool) (journal : Journal) (event : Event) → ((x : X) → old x ≡ true → new x ≡ true) → list_all old (each_in chosen journal) ≡ true → list_all old (option_to_list (chosen event.kind)) ≡ true → list_all new (each_in chosen (with_event journal event)) ≡ true
gathered-named chosen old new journal event keeps before more =
    ap (list_all new) (gathers-on chosen journal event)
    ∙ all-kept old new (each_in chosen journal ++ option_to_list (chosen event.kind)) keeps
    (list_all-append old (each_in chosen journal) (option_to_list (chosen event.kind))
    ∙ (ap (λ b. b && list_all old (option_to_list (chosen event.kind))) before ∙ more))

stand-more : (journal : Journal) (event : Event) → IsLawful journal → IsBrought journal event → NamesStand journal → NamesStand (with_event journal event)
stand-more journal event lawful brought stand = record {
  households = gathered-named account_in (has_its_household journal) (has_its_household (with_event journal event)) journal event
      (λ account. more-still household_in (is_household account.household) journal event) stand.households
      (household-named journal event.moment brought.caller event.kind (rule Rule.NoSuch));
  dealers = gathered-named account_in (has_its_dealer journal) (has_its_dealer (with_event journal event)) journal event
      (λ account. either-kept (account.dealer == 0) (list_any (is_dealer account.dealer) (dealers_of journal)) (list_any (is_dealer account.dealer) (dealers_of (with_event journal event)))
      (more-still dealer_in (is_dealer account.dealer) journal event)) stand.dealers
      (dealer-named journal event.moment brought.caller event.kind (rule Rule.NoSuch));
  calendars = gathered-named class_in (has_its_calendar journal) (has_its_calendar (with_event journal event)) journal event
      (λ class. more-still calendar_in (is_calendar class.calendar) journal event) stand.calendars
      (calendar-named journal event.moment brought.caller event.kind (rule Rule.NoSuch));
  orders = ap (list_all (λ (row : OrderRow). is_placed_in (with_event journal event) row.order))
      (orders_go_on journal event (begins-by journal event.moment brought.caller event.kind lawful (rule Rule.RefUsed)))
      ∙ orders-placed (with_event journal event) journal event.moment brought.caller (length journal) (orders_of journal) event.kind
      (placed-kept journal event) (rule Rule.NoSuch)
      (all-kept (λ (row : OrderRow). is_placed_in journal row.order) (λ (row : OrderRow). is_placed_in (with_event journal event) row.order) (orders_of journal)
      (λ row. placed-kept journal event row.order) stand.orders);
}
  where
    rule : (rule : Rule) → broken_by (own_at journal event.moment brought.caller) (request_of event.kind) (sheet_fault (own_at journal event.moment brought.caller) (request_of event.kind)) rule ≡ None
    rule = not_broken (own_at journal event.moment brought.caller) (request_of event.kind) brought.clear

pub names_stand : (journal : Journal) → IsLawful journal → NamesStand journal
names_stand journal lawful =
    lawful-keeps NamesStand stand-more (record { households = refl; dealers = refl; calendars = refl; orders = refl }) journal lawful
