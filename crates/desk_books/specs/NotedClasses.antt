-- When the households of orders are listed under the classes that the orders name.
use Rattle.std.specs.Prelude.{List, Some, true, ℕ, ◌==◌, ◌≡◌}
use Rattle.std.specs.List.{list_any}
use Rattle.agent_events.specs.declared.event.EventKind.{EventKind}
use Rattle.agent_events.specs.declared.order.Order.{Order}
use Rattle.agent_events.specs.declared.request.AccountForm.{AccountForm}
use Rattle.register_machine.specs.journal.Kinds.{household_of}
use Rattle.register_machine.specs.pricing.OrderClasses.{classes_in}
use Rattle.standing_orders.specs.ClassHouseholds.{ClassLists, is_listed}

-- the household of an order's account, where it is known, is listed under the order's classes
abbrev pub IsOrderNoted : ClassLists → List AccountForm → Order → Type 0
IsOrderNoted classes accounts order =
    (household class : ℕ) → household_of accounts order.account ≡ Some household
    → list_any (λ own. own == class) (classes_in order.body) ≡ true → is_listed classes class household ≡ true

-- so it is for the order that an event places, enters or brings as a replacement
abbrev pub NotesOrder : ClassLists → List AccountForm → EventKind → Type 0
NotesOrder classes accounts (EventKind.Order placed) = IsOrderNoted classes accounts placed.order
NotesOrder classes accounts (EventKind.Enter form) = IsOrderNoted classes accounts form.order
NotesOrder classes accounts (EventKind.Replace form) = IsOrderNoted classes accounts form.order
NotesOrder classes accounts _ = Unit {0}
