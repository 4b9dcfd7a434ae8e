-- The book of orders as its readers see it, and which event may be noted in it.
use Rattle.std.specs.Prelude.{Bool, is_none, true, ℕ, ◌≡◌}
use Rattle.agent_events.specs.Events.{Event}
use Rattle.agent_events.specs.declared.event.EventKind.{EventKind}
use Rattle.agent_events.specs.declared.order.Order.{Order}
use Rattle.register_laws.specs.OneEventMore.{begins_untouched}
use Rattle.register_machine.specs.journal.Journals.{Journal}
use Rattle.register_machine.specs.pricing.CorrectedOrders.{order_named, orders_of}

-- the events noted so far, and how many more of any kind can be noted without more memory
pub record NotedJournal : Type 0 where
  pub journal : Journal
  pub spare : ℕ

-- no order of that name was begun before
abbrev pub is_new_order : Journal → Order → Bool
is_new_order journal order = is_none (order_named (orders_of journal) order.account order.ref_no)

abbrev pub begins_new_name : Journal → EventKind → Bool
begins_new_name journal (EventKind.Order placed) = is_new_order journal placed.order
begins_new_name journal (EventKind.Enter form) = is_new_order journal form.order
begins_new_name journal _ = true

-- The event can be noted behind the journal: the order that it begins has a name of its own, which no cancel, replacement or
-- void before has. Each event of a lawful journal is such.
pub record Fits (journal : Journal) (event : Event) : Type 0 where
  pub new : begins_new_name journal event.kind ≡ true
  pub untouched : begins_untouched journal event.kind ≡ true
