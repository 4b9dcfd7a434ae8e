-- No order of a lawful journal exchanges a class into itself.
use Rattle.std.proofs.Common.{All, Bool, None, Option, Some, drop, false, filter, find, get_or, inl, inr, is_some, length, not, option_and_then, option_map, refl, subst, sym, true, ℕ, ◌&&◌, ◌==◌, ◌∙◌, ◌∷◌, ◌≡◌}
use Rattle.std.proofs.lemmas.Bool.{and_parts, true≢false}
use Rattle.std.proofs.lemmas.Bool.Decides.{eqb_tells}
use Rattle.std.proofs.lemmas.List.Elements.{All-filter, All-nil, All-push}
use Rattle.std.specs.Option.{option_map_or}
use Rattle.agent_events.specs.Events.{event_of, request_of}
use Rattle.agent_events.specs.Fields.{quantity}
use Rattle.agent_events.specs.declared.event.EventKind.{EventKind}
use Rattle.agent_events.specs.declared.order.Body.{Body}
use Rattle.agent_events.specs.declared.order.Order.{Order}
use Rattle.agent_events.specs.declared.order.OrderRow.{OrderRow}
use Rattle.agent_events.specs.declared.reply.Refusal.{Refusal}
use Rattle.agent_events.specs.declared.request.EntryForm.{EntryForm}
use Rattle.agent_events.specs.declared.request.Request.{Request}
use Rattle.forward_price.proofs.OrderFacts.{none_parts}
use Rattle.share_lots.specs.Lots.{lots_with}
use Rattle.register_laws.proofs.BookOrders.{SaidAs, SaysAs, order_said, orders-as}
use Rattle.register_laws.proofs.Choosing.{not_mapped, not_when}
use Rattle.register_laws.proofs.LawfulJournals.{lawful-keeps}
use Rattle.register_laws.proofs.RulesByName.{not_broken}
use Rattle.register_laws.specs.Lawful.{own_at}
use Rattle.register_laws.specs.Trades.{LeavesItsClass, stays_in_class}
use Rattle.register_machine.specs.journal.Journals.{Journal}
use Rattle.register_machine.specs.journal.Lawful.{IsLawful}
use Rattle.register_machine.specs.pricing.CorrectedBook.{Book}
use Rattle.register_machine.specs.pricing.CorrectedOrders.{order_named, orders_of, row_as_sent, stands}
use Rattle.register_machine.specs.rules.InOrder.{Rule}
use Rattle.register_machine.specs.rules.NamedThings.{has_account, has_bearer, has_order, named_in_order, named_in_replacement, none_such, things_named}
use Rattle.register_machine.specs.rules.Orders.{family_of, is_exchangeable, is_offered, not_offered, refused_order}
use Rattle.register_machine.specs.rules.Situations.{Situation}
use Rattle.register_machine.specs.run.Verdicts.{due_now}

abbrev stays_in : EventKind → Bool
stays_in (EventKind.Order lots_with) = stays_in_class lots_with.order.body
stays_in (EventKind.Enter form) = stays_in_class form.order.body
stays_in (EventKind.Replace form) = stays_in_class form.order.body
stays_in _ = false

Elsewhere : Journal → Type 0
Elsewhere journal = All (λ event. stays_in event.kind ≡ false) journal

not-true : (b : Bool) → not b ≡ true → b ≡ false
not-true true e = absurd (true≢false (sym e))
not-true false e = refl

not-false : (b : Bool) → not b ≡ false → b ≡ true
not-false true e = refl
not-false false e = absurd (true≢false e)

-- ---- what is offered

apart : (book : Book) (class to : ℕ) → is_exchangeable book class to ≡ true → (to == class) ≡ false
apart book class to e =
    let other = not-true (class == to) (and_parts (not (class == to)) (not (family_of book class == 0) && family_of book class == family_of book to) e).0 in
    elim (eqb_tells to class) [
      | inl (t, same) ↦ absurd (true≢false (sym (itself class) ∙ subst (λ n. (class == n) ≡ false) same other))
      | inr (t, _) ↦ t
    ]
  where
    itself : (n : ℕ) → (n == n) ≡ true
    itself n = elim (eqb_tells n n) [
      | inl (t, _) ↦ t
      | inr (t, differs) ↦ absurd (differs refl)
    ]

pub offered-leaves : (book : Book) (body : Body) → is_offered book body ≡ true → stays_in_class body ≡ false
offered-leaves book (Body.Exchange class to quantity) e = apart book class to e
offered-leaves book (Body.ExchangeAll class to) e = apart book class to e
offered-leaves book body e = refl

row-leaves : (book : Book) (row : OrderRow) → not_offered book row ≡ None → stays_in_class row.order.body ≡ false
row-leaves book row clear =
    offered-leaves book row.order.body (not-false (is_offered book row.order.body) (not_when (not (is_offered book row.order.body)) Refusal.NotOffered clear))

-- ---- what a request brings

replaced-leaves : (situation : Situation) (form : EntryForm) (found : Option OrderRow) → is_some found ≡ true → option_and_then (not_offered situation.book) (option_map (λ row. row_as_sent row.place form.receipt form.order) found) ≡ None → stays_in_class form.order.body ≡ false
replaced-leaves situation form None there clear = absurd (true≢false (sym there))
replaced-leaves situation form (Some row) there clear = row-leaves situation.book (row_as_sent row.place form.receipt form.order) clear

brings-leaving : (situation : Situation) (request : Request) (now due : ℕ) → none_such situation request ≡ None → refused_order not_offered situation request ≡ None → option_map_or stays_in (event_of request now due) false ≡ false
brings-leaving situation (Request.Order order) now due known clear =
    row-leaves situation.book (row_as_sent (length situation.journal) situation.now order) clear
brings-leaving situation (Request.Line line) now due known clear =
    row-leaves situation.book (row_as_sent (length situation.journal) line.receipt line.order) clear
brings-leaving situation (Request.Enter form) now due known clear =
    row-leaves situation.book (row_as_sent (length situation.journal) form.receipt form.order) clear
brings-leaving situation (Request.Replace form) now due known clear =
    let none = not_mapped (λ (field : ℕ × Bool). Refusal.NoSuch field.0) (find (λ (field : ℕ × Bool). not field.1) (things_named situation (Request.Replace form))) known in
    let first = none_parts (λ (field : ℕ × Bool). not field.1) (2, has_bearer situation form.bearer) (named_in_replacement situation form) none in
    let second = none_parts (λ (field : ℕ × Bool). not field.1) (5, has_account situation form.order.account) ((6, has_order situation form.order.account form.order.ref_no) ∷ drop 1 (named_in_order situation 5 form.order)) first.1 in
    let third = none_parts (λ (field : ℕ × Bool). not field.1) (6, has_order situation form.order.account form.order.ref_no) (drop 1 (named_in_order situation 5 form.order)) second.1 in
    replaced-leaves situation form (order_named situation.book.orders form.order.account form.order.ref_no)
    (not-false (has_order situation form.order.account form.order.ref_no) third.0) clear
brings-leaving situation request now due known clear = refl

elsewhere : (journal : Journal) → IsLawful journal → Elsewhere journal
unfolding Elsewhere
elsewhere journal lawful =
    lawful-keeps Elsewhere
    (λ known event lawful_known brought before.
    let situation = own_at known event.moment brought.caller in
    let rules = not_broken situation (request_of event.kind) brought.clear in
    All-push (λ e. stays_in e.kind ≡ false) known event before
    (subst (λ o. option_map_or stays_in o false ≡ false) brought.brings (brings-leaving situation (request_of event.kind) event.moment (due_now situation (request_of event.kind)) (rules Rule.NoSuch) (rules Rule.NotOffered))))
    (All-nil (λ e. stays_in e.kind ≡ false)) journal lawful

-- ---- the orders of the book

abbrev LeavesClass : Order → Type 0
LeavesClass order = stays_in_class order.body ≡ false

said-leaves : (kind : EventKind) → stays_in kind ≡ false → SaidAs LeavesClass (order_said kind)
said-leaves (EventKind.Order lots_with) e = e
said-leaves (EventKind.Enter form) e = e
said-leaves (EventKind.Replace form) e = e
said-leaves _ e = tt

orders-leave : (journal : Journal) → Elsewhere journal → All LeavesItsClass (orders_of journal)
unfolding Elsewhere SaysAs
orders-leave journal all =
    let rows = orders-as LeavesClass journal (λ k d short. said-leaves (get_or journal k d).kind (all k d short)) in
    λ k d short. record { elsewhere = rows k d short }

pub orders_leave : (journal : Journal) → IsLawful journal → All LeavesItsClass (filter stands (orders_of journal))
orders_leave journal lawful =
    All-filter stands LeavesItsClass (orders_of journal) (orders-leave journal (elsewhere journal lawful))
