-- The households listed under classes, behind an event.
use Rattle.std.proofs.Common.{Bool, List, Some, [], ap, arith, cond, false, length, map, refl, subst, sym, true, ℕ, ◌++◌, ◌==◌, ◌∙◌, ◌∷◌, ◌≡◌}
use Rattle.std.proofs.lemmas.Bool.{and_parts, eqb-true}
use Rattle.std.proofs.lemmas.List.{length-map}
use Rattle.agent_events.specs.Events.{Event}
use Rattle.agent_events.specs.declared.event.EventKind.{EventKind}
use Rattle.agent_events.specs.declared.order.Order.{Order}
use Rattle.agent_events.specs.declared.order.OrderRow.{OrderRow}
use Rattle.agent_events.specs.declared.request.AccountForm.{AccountForm}
use Rattle.agent_events.specs.declared.request.EntryForm.{EntryForm}
use Rattle.desk_books.specs.NotedClasses.{IsOrderNoted, NotesOrder}
use Rattle.desk_books.specs.OrderChanges.{ChangesOrders, owners_after}
use Rattle.desk_books.specs.declared.change.OrderChange.{OrderChange}
use Rattle.register_laws.proofs.NothingBefore.{begins_anew}
use Rattle.register_laws.specs.OneEventMore.{orders_after, replaced_by, struck_by}
use Rattle.register_machine.specs.journal.Journals.{Journal, with_event}
use Rattle.register_machine.specs.journal.Kinds.{accounts_of, household_of}
use Rattle.register_machine.specs.journal.Lawful.{IsLawful}
use Rattle.register_machine.specs.pricing.CorrectedOrders.{is_named, orders_of, replaces, row_as_sent}
use Rattle.standing_orders.proofs.InTurn.{head-same, tail-same}
use Rattle.standing_orders.specs.ClassHouseholds.{AreNoted, ClassLists, IsNoted, is_listed}
use Rattle.standing_orders.specs.Rows.{AreOwners}

-- what is listed leaves rows noted where more is listed
pub noted_kept : (before after : ClassLists) → ((class household : ℕ) → is_listed before class household ≡ true → is_listed after class household ≡ true)
    → (rows : List OrderRow) (owners : List ℕ) → AreNoted before rows owners → AreNoted after rows owners
noted_kept before after kept [] owners noted = tt
noted_kept before after kept (row ∷ rows) [] noted = tt
noted_kept before after kept (row ∷ rows) (owner ∷ owners) noted =
    (λ class names. kept class owner (noted.0 class names), noted_kept before after kept rows owners noted.1)

module _ (classes : ClassLists) where
  -- an order behind the others
  noted-more : (rows : List OrderRow) (owners : List ℕ) (row : OrderRow) (owner : ℕ) → length rows ≡ length owners
      → AreNoted classes rows owners → IsNoted classes row owner → AreNoted classes (rows ++ row ∷ []) (owners ++ owner ∷ [])
  noted-more [] [] row owner as_many noted more = (more, tt)
  noted-more [] (own ∷ owners) row owner as_many noted more = absurd (omega (arith, as_many))
  noted-more (first ∷ rows) [] row owner as_many noted more = absurd (omega (arith, as_many))
  noted-more (first ∷ rows) (own ∷ owners) row owner as_many noted more =
      (noted.0, noted-more rows owners row owner (omega (arith, as_many)) noted.1 more)

  -- a strike leaves what an order names
  noted-struck : (named : ℕ × ℕ) (rows : List OrderRow) (owners : List ℕ) → AreNoted classes rows owners → AreNoted classes (map (struck_by named) rows) owners
  noted-struck named [] owners noted = tt
  noted-struck named (row ∷ rows) [] noted = tt
  noted-struck named (row ∷ rows) (owner ∷ owners) noted =
      (by (is_named named.0 named.1 row.order), noted-struck named rows owners noted.1)
    where
      by : (is : Bool) → IsNoted classes (cond is (record { place = row.place; receipt = row.receipt; struck = true; order = row.order }) row) owner
      by true = noted.0
      by false = noted.0

  -- a replacement is noted for the household of its account, which is that of the order that it replaces
  noted-replaced : (accounts : List AccountForm) (form : EntryForm) (rows : List OrderRow) (owners : List ℕ) → AreOwners accounts rows owners
      → IsOrderNoted classes accounts form.order → AreNoted classes rows owners → AreNoted classes (map (replaced_by form) rows) owners
  noted-replaced accounts form [] owners are new noted = tt
  noted-replaced accounts form (row ∷ rows) [] are new noted = tt
  noted-replaced accounts form (row ∷ rows) (owner ∷ owners) are new noted =
      (by (replaces row.order form) refl, noted-replaced accounts form rows owners (tail-same are) new noted.1)
    where
      by : (is : Bool) → replaces row.order form ≡ is
          → IsNoted classes (cond is (record { place = row.place; receipt = form.receipt; struck = row.struck; order = form.order }) row) owner
      by true at = λ class.
          new owner class
          (ap (household_of accounts) (eqb-true form.order.account row.order.account (and_parts (form.order.account == row.order.account) (form.order.ref_no == row.order.ref_no) at).0)
          ∙ head-same are)
      by false at = noted.0

module _ (classes : ClassLists) (journal : Journal) (event : Event) (owners : List ℕ) (lawful : IsLawful (with_event journal event)) (are : AreOwners (accounts_of journal) (orders_of journal) owners) (noted : AreNoted classes (orders_of journal) owners) where
  as_many : length (orders_of journal) ≡ length owners
  as_many =
      sym (length-map (orders_of journal) (λ (row : OrderRow). household_of (accounts_of journal) row.order.account))
      ∙ (ap length are ∙ length-map owners Some)

  -- the orders behind the event, by its kind
  abbrev After : EventKind → OrderChange → Type 0
  After kind change = AreNoted classes (orders_after (length journal) (orders_of journal) kind) (owners_after change owners)

  same : (kind : EventKind) (change : OrderChange) → change ≡ OrderChange.Nothing → AreNoted classes (orders_after (length journal) (orders_of journal) kind) owners → After kind change
  same kind change nothing left = subst (After kind) (sym nothing) left

  begun : (order : Order) (receipt household : ℕ) → household_of (accounts_of journal) order.account ≡ Some household → IsOrderNoted classes (accounts_of journal) order
      → AreNoted classes (orders_of journal ++ row_as_sent (length journal) receipt order ∷ []) (owners ++ household ∷ [])
  begun order receipt household found new =
      noted-more classes (orders_of journal) owners (row_as_sent (length journal) receipt order) household as_many noted (λ class names. new household class found names)

  by-kind : (kind : EventKind) (change : OrderChange) → ChangesOrders journal kind change → NotesOrder classes (accounts_of journal) kind → After kind change
  by-kind (EventKind.Order placed) change c new =
      subst (After (EventKind.Order placed)) (sym c.2) (begun placed.order placed.receipt c.0 c.1 new)
  by-kind (EventKind.Enter form) change c new =
      subst (After (EventKind.Enter form)) (sym c.2) (begun form.order form.receipt c.0 c.1 new)
  by-kind (EventKind.Replace form) change c new =
      subst (After (EventKind.Replace form)) (sym c.4) (noted-replaced classes (accounts_of journal) form (orders_of journal) owners are new noted)
  by-kind (EventKind.Sheet form) change c new = subst (After (EventKind.Sheet form)) (sym c) noted
  by-kind (EventKind.Cancel form) change c new = same (EventKind.Cancel form) change c (noted-struck classes (form.account, form.target) (orders_of journal) owners noted)
  by-kind (EventKind.Void form) change c new = same (EventKind.Void form) change c (noted-struck classes (form.account, form.ref_no) (orders_of journal) owners noted)
  by-kind (EventKind.Calendar form) change c new = same (EventKind.Calendar form) change c noted
  by-kind (EventKind.Close form) change c new = same (EventKind.Close form) change c noted
  by-kind (EventKind.Class form) change c new = same (EventKind.Class form) change c noted
  by-kind (EventKind.Dealer form) change c new = same (EventKind.Dealer form) change c noted
  by-kind (EventKind.Household form) change c new = same (EventKind.Household form) change c noted
  by-kind (EventKind.Account form) change c new = same (EventKind.Account form) change c noted
  by-kind (EventKind.Dividend form) change c new = same (EventKind.Dividend form) change c noted
  by-kind (EventKind.FixPrice form) change c new = same (EventKind.FixPrice form) change c noted
  by-kind (EventKind.FixRate form) change c new = same (EventKind.FixRate form) change c noted

  -- The households of the journal's orders with the event are listed under their classes.
  pub noted_after : (change : OrderChange) → ChangesOrders journal event.kind change → NotesOrder classes (accounts_of journal) event.kind
      → AreNoted classes (orders_of (with_event journal event)) (owners_after change owners)
  noted_after change c new =
      subst (λ rows. AreNoted classes rows (owners_after change owners)) (sym (begins_anew journal event lawful).orders) (by-kind event.kind change c new)
