-- The index of orders behind an event.
use Rattle.std.proofs.Common.{List, Some, [], ap, arith, length, refl, slice_get, subst, sym, true, ℕ, ◌++◌, ◌-◌, ◌<◌, ◌∙◌, ◌∷◌, ◌≡◌}
use Rattle.std.proofs.lemmas.List.{length-append, length-map}
use Rattle.std.proofs.lemmas.Option.{slice_get_within}
use Rattle.std.specs.Option.{option_map_or}
use Rattle.agent_events.specs.Events.{Event}
use Rattle.agent_events.specs.declared.event.EventKind.{EventKind}
use Rattle.agent_events.specs.declared.order.OrderRow.{OrderRow}
use Rattle.desk_books.specs.OrderChanges.{ChangesOrders, IsWithin, last_number, owners_after, waiting_after}
use Rattle.desk_books.specs.declared.change.OrderChange.{OrderChange}
use Rattle.register_laws.proofs.EventReplays.{adds_sheet}
use Rattle.register_laws.specs.EventReplays.{sheet_behind}
use Rattle.forward_price.specs.declared.price_sheet.Sheet.{Sheet}
use Rattle.order_book.proofs.Places.{got-behind}
use Rattle.register_machine.specs.journal.Journals.{Journal, with_event}
use Rattle.register_machine.specs.journal.Kinds.{accounts_of, household_of}
use Rattle.register_machine.specs.journal.Lawful.{IsLawful}
use Rattle.register_machine.specs.pricing.CorrectedOrders.{orders_of}
use Rattle.standing_orders.specs.Places.{passes_at}
use Rattle.standing_orders.specs.Rows.{stays}
use Rattle.std.specs.Prelude.{filter}
use Rattle.standing_orders.proofs.IndexSteps.{begins_order, enters_order, leaves_the_index, replaces_order, sheet_takes}
use Rattle.standing_orders.specs.IndexOfJournals.{IsIndexOf, leaves_index, sheets_of}

-- the last of some sheets
last-of : (sheets : List Sheet) (sheet : Sheet) → last_number (sheets ++ sheet ∷ []) ≡ sheet.number
last-of sheets sheet =
    let at : length (sheets ++ sheet ∷ []) - 1 ≡ length sheets = omega (arith, length-append sheets (sheet ∷ [])) in
    ap (λ n. option_map_or (λ (s : Sheet). s.number) (slice_get (sheets ++ sheet ∷ []) n) 0) at
    ∙ ap (λ o. option_map_or (λ (s : Sheet). s.number) o 0) (got-behind sheets sheet [])

module _ (journal : Journal) (event : Event) (owners waiting : List ℕ) (lawful : IsLawful (with_event journal event)) (is : IsIndexOf journal owners waiting) where
  -- the index behind the event
  abbrev Behind : OrderChange → Type 0
  Behind change =
      IsIndexOf (with_event journal event) (owners_after change owners)
      (waiting_after change (sheets_of (with_event journal event)) (orders_of (with_event journal event)) owners waiting)

  left : leaves_index event.kind ≡ true → (change : OrderChange) → change ≡ OrderChange.Nothing → Behind change
  left leaves change nothing =
      subst Behind (sym nothing) (leaves_the_index journal event owners waiting lawful leaves is)

  index-by : (kind : EventKind) → event.kind ≡ kind → (change : OrderChange) → ChangesOrders journal kind change → Behind change
  index-by (EventKind.Order placed) e change c =
      subst Behind (sym c.2) (begins_order journal event placed c.0 owners waiting lawful e c.1 is)
  index-by (EventKind.Enter form) e change c =
      subst Behind (sym c.2) (enters_order journal event form c.0 owners waiting lawful e c.1 is)
  index-by (EventKind.Replace form) e change c =
      subst Behind (sym c.4) (replaces_order journal event form c.0 owners waiting lawful e c.1 c.2 c.3 is)
  index-by (EventKind.Sheet form) e change c =
      let sheets = adds_sheet journal event lawful form e in
      let number : last_number (sheets_of (with_event journal event)) ≡ (sheet_behind journal form).number =
      ap last_number sheets.sheets ∙ last-of (sheets_of journal) (sheet_behind journal form) in
      subst Behind (sym c)
      (subst (λ n. IsIndexOf (with_event journal event) owners (filter (passes_at (stays n (sheets_of (with_event journal event))) (orders_of (with_event journal event))) waiting))
      (sym number) (sheet_takes journal event form owners waiting lawful e is))
  index-by (EventKind.Calendar form) e change c = left (ap leaves_index e) change c
  index-by (EventKind.Close form) e change c = left (ap leaves_index e) change c
  index-by (EventKind.Class form) e change c = left (ap leaves_index e) change c
  index-by (EventKind.Dealer form) e change c = left (ap leaves_index e) change c
  index-by (EventKind.Household form) e change c = left (ap leaves_index e) change c
  index-by (EventKind.Account form) e change c = left (ap leaves_index e) change c
  index-by (EventKind.Cancel form) e change c = left (ap leaves_index e) change c
  index-by (EventKind.Dividend form) e change c = left (ap leaves_index e) change c
  index-by (EventKind.FixPrice form) e change c = left (ap leaves_index e) change c
  index-by (EventKind.FixRate form) e change c = left (ap leaves_index e) change c
  index-by (EventKind.Void form) e change c = left (ap leaves_index e) change c

  -- The changed index is that of the journal with the event.
  pub index_after : (change : OrderChange) → ChangesOrders journal event.kind change → Behind change
  index_after change c = index-by event.kind refl change c

-- There are as many households as orders, so an order that is replaced has a place among them.
pub is_within : (journal : Journal) (owners waiting : List ℕ) (kind : EventKind) (change : OrderChange) → IsIndexOf journal owners waiting → ChangesOrders journal kind change → IsWithin change (length owners)
is_within journal owners waiting kind change is c = by_kind kind c
  where
    rows : List OrderRow
    rows = orders_of journal

    as_many : length rows ≡ length owners
    as_many =
        sym (length-map rows (λ (row : OrderRow). household_of (accounts_of journal) row.order.account))
        ∙ (ap length is.owned ∙ length-map owners Some)

    plain : (none : OrderChange) → IsWithin none (length owners) → change ≡ none → IsWithin change (length owners)
    plain none within e = subst (λ x. IsWithin x (length owners)) (sym e) within

    by_kind : (kind : EventKind) → ChangesOrders journal kind change → IsWithin change (length owners)
    by_kind (EventKind.Order placed) c = plain (OrderChange.Begins c.0) tt c.2
    by_kind (EventKind.Enter form) c = plain (OrderChange.Enters c.0) tt c.2
    by_kind (EventKind.Replace form) c =
        plain (OrderChange.Replaces c.0) (subst (λ n. c.0 < n) as_many (slice_get_within rows c.0 c.1 c.2)) c.4
    by_kind (EventKind.Sheet form) c = plain OrderChange.Priced tt c
    by_kind (EventKind.Calendar form) c = plain OrderChange.Nothing tt c
    by_kind (EventKind.Close form) c = plain OrderChange.Nothing tt c
    by_kind (EventKind.Class form) c = plain OrderChange.Nothing tt c
    by_kind (EventKind.Dealer form) c = plain OrderChange.Nothing tt c
    by_kind (EventKind.Household form) c = plain OrderChange.Nothing tt c
    by_kind (EventKind.Account form) c = plain OrderChange.Nothing tt c
    by_kind (EventKind.Cancel form) c = plain OrderChange.Nothing tt c
    by_kind (EventKind.Dividend form) c = plain OrderChange.Nothing tt c
    by_kind (EventKind.FixPrice form) c = plain OrderChange.Nothing tt c
    by_kind (EventKind.FixRate form) c = plain OrderChange.Nothing tt c
    by_kind (EventKind.Void form) c = plain OrderChange.Nothing tt c
