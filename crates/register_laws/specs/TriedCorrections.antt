-- A correction on trial behind a lawful journal, before it is known whether it breaks an order: its book is as orderly as that of
-- a lawful journal.
use Rattle.std.specs.Prelude.{AllPairs, None, length, true, ◌≡◌}
use Rattle.agent_events.specs.Events.{Event}
use Rattle.agent_events.specs.declared.event.EventKind.{EventKind}
use Rattle.agent_events.specs.declared.request.EntryForm.{EntryForm}
use Rattle.register_laws.specs.EventReplays.{is_correction}
use Rattle.register_laws.specs.TradesInTurn.{NamesOnce}
use Rattle.forward_price.specs.PriceTables.{AreNumbered}
use Rattle.forward_price.specs.declared.price_sheet.Sheet.{Sheet}
use Rattle.register_laws.specs.Lawful.{book_behind}
use Rattle.register_laws.specs.OneEventMore.{TouchesNothing}
use Rattle.register_laws.specs.Priced.{GoesBefore}
use Rattle.register_machine.specs.journal.Journals.{Journal, with_event}
use Rattle.register_machine.specs.journal.Lawful.{IsLawful}
use Rattle.register_machine.specs.pricing.CorrectedOrders.{order_named, orders_of}
use Rattle.register_machine.specs.replay.Replay.{orders_on, priced_orders}

-- a correction that touches nothing changed before, and an order that it enters has a name of its own
pub record IsTried (journal : Journal) (event : Event) : Type 0 where
  pub correction : is_correction event.kind ≡ true
  pub touches : TouchesNothing journal event
  pub new : (form : EntryForm) → event.kind ≡ EventKind.Enter form
      → order_named (orders_of journal) form.order.account form.order.ref_no ≡ None

-- The sheets of its book have their numbers, and as many; its orders have one name each and go in turn.
pub record HasABookOnTrial (journal : Journal) (event : Event) : Type 0 where
  pub numbered : AreNumbered (book_behind (with_event journal event)).table.sheets
  pub as_many : length (book_behind (with_event journal event)).table.sheets
      ≡ length (book_behind journal).table.sheets
  pub names : NamesOnce (book_behind (with_event journal event)).orders
  pub turns : (sheet : Sheet)
      → AllPairs GoesBefore (orders_on (priced_orders (book_behind (with_event journal event))) sheet)

abbrev pub TriedHasABook : Journal → Event → Type 0
TriedHasABook journal event = IsLawful journal → IsTried journal event → HasABookOnTrial journal event
