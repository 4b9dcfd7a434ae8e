-- The due moment that the event of a request keeps, and the lists that its forms have.
use Rattle.std.specs.Prelude.{unwrap_or, ℕ}
use Rattle.agent_events.specs.declared.request.Request.{Request}
use Rattle.register_machine.specs.pricing.CorrectedBook.{due_at}
use Rattle.register_machine.specs.rules.Situations.{Situation}

-- only an order and a dealer's line keep a due moment; 0 for all else
abbrev pub due_asked : Situation → Request → ℕ
due_asked situation (Request.Order order) = unwrap_or (due_at situation.book order.body situation.now) 0
due_asked situation (Request.Line line) = unwrap_or (due_at situation.book line.order.body line.receipt) 0
due_asked situation _ = 0
