-- That `OrderBook::reserve` keeps its contract.
use Rattle.std.proofs.Common.{List, ap, arith, subst, sym, ◌∙◌}
use Rattle.agent_events.specs.Events.{Event}
use Rattle.order_book.specs.AllIndexes.{KeepsAll}
use Rattle.register_machine.specs.journal.Journals.{last_moment}
use Rattle.order_book.proofs.book.OrderBook.reserve.Goals as goal

pub invariant_of-self-in_err-reserve-2 : goal.invariant_of-self-in_err-reserve-2
invariant_of-self-in_err-reserve-2 c = record {
  last = c.self.invariant.last ∙ ap last_moment (sym c.reserve.ensures.items);
  indexes = subst (λ (es : List Event). KeepsAll c.reserve-2.new.self es) (sym c.reserve.ensures.items) (c.reserve-2.ensures.same c.self.inside.events.items c.self.invariant.indexes);
  events = omega (arith, c.reserve.ensures.len, c.reserve.ensures.capacity, c.self.invariant.events);
  room = c.reserve-2.ensures.kept c.self.inside.spare c.self.invariant.room;
}
