-- The index of the orders by name and account, over the list of their names.
use Rattle.std.specs.HashMap.{get, spare}
use Rattle.std.specs.Prelude.{All, Bool, List, None, Option, Some, [], filter, length, map, nat_eq, position, suc, true, vec_capacity, vec_len, zero, ℕ, ◌&&◌, ◌++◌, ◌+◌, ◌==◌, ◌<◌, ◌∷◌, ◌≡◌, ◌≤◌}
use Rattle.agent_events.specs.declared.order.OrderRow.{OrderRow}
use Rattle.agent_events.specs.declared.request.EntryForm.{EntryForm}
use Rattle.order_book.specs.LastPlaces.{last_place}
use Rattle.order_book.specs.declared.order_index.OrderIndex.{OrderIndex}
use Rattle.order_book.specs.declared.order_index.OrderName.{OrderName}
use Rattle.order_book.specs.declared.orders.Orders.{Orders}
use Rattle.register_machine.specs.journal.Journals.{Journal}
use Rattle.register_machine.specs.pricing.CorrectedOrders.{orders_of}

-- two names are the same, and two names are of one account
abbrev pub same_name : OrderName → OrderName → Bool
same_name a b = a.account == b.account && a.ref_no == b.ref_no

abbrev pub is_named_for : ℕ → OrderName → Bool
is_named_for account name = name.account == account

abbrev pub name_of : OrderRow → OrderName
name_of row = record { account = row.order.account; ref_no = row.order.ref_no }

abbrev pub names_of : List OrderRow → List OrderName
names_of rows = map name_of rows

-- the last place before each name at which its account is named
abbrev pub earlier_from : List OrderName → List OrderName → List (Option ℕ)
earlier_from before [] = []
earlier_from before (name ∷ later) =
    last_place (is_named_for name.account) before ∷ earlier_from (before ++ name ∷ []) later

-- what the index keeps of the names
pub record KeepsNames (index : OrderIndex) (names : List OrderName) : Type 0 where
  pub places : (q : OrderName) → get same_name index.places q ≡ position (λ name. same_name name q) names
  pub last : (account : ℕ) → get nat_eq index.last account ≡ last_place (is_named_for account) names
  pub earlier : index.earlier.items ≡ earlier_from [] names

-- so many names more can be taken in
pub record HasNameRoom (index : OrderIndex) (names : ℕ) : Type 0 where
  pub places : names ≤ spare index.places
  pub last : names ≤ spare index.last
  pub earlier : vec_len index.earlier + names ≤ vec_capacity index.earlier

-- What the orders keep of a journal: its orders as corrected, each of a name of its own, whose reference is above 0.
pub record KeepsOrders (orders : Orders) (journal : Journal) : Type 0 where
  pub rows : orders.rows.items ≡ orders_of journal
  pub names : KeepsNames orders.index (names_of orders.rows.items)
  pub once : (q : OrderName) → length (filter (λ name. same_name name q) (names_of orders.rows.items)) ≤ 1
  pub references : All (λ name. 0 < name.ref_no) (names_of orders.rows.items)

pub record HasOrderRoom (orders : Orders) (events : ℕ) : Type 0 where
  pub rows : vec_len orders.rows + events ≤ vec_capacity orders.rows
  pub names : HasNameRoom orders.index events

-- an item changed at a place
abbrev pub changed_at : {X : Type 0} → (X → X) → ℕ → List X → List X
changed_at change place [] = []
changed_at change zero (x ∷ xs) = change x ∷ xs
changed_at change (suc place) (x ∷ xs) = x ∷ changed_at change place xs

-- an order that is struck, and one with another receipt and content
abbrev pub as_struck : OrderRow → OrderRow
as_struck row = record { place = row.place; receipt = row.receipt; struck = true; order = row.order }

abbrev pub as_replaced : EntryForm → OrderRow → OrderRow
as_replaced form row = record { place = row.place; receipt = form.receipt; struck = row.struck; order = form.order }

-- an item changed at a place, where there is one
abbrev pub changed_where : {X : Type 0} → (X → X) → Option ℕ → List X → List X
changed_where change None xs = xs
changed_where change (Some place) xs = changed_at change place xs
