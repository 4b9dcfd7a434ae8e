-- That `OrderBook::note` keeps its contract.
use Rattle.std.proofs.Common.{ap, arith, length, subst, sym, ℕ, ◌+◌, ◌-◌, ◌<◌, ◌∙◌, ◌≡◌}
use Rattle.order_book.proofs.BookNoted.{indexes-noted, last-with}
use Rattle.order_book.proofs.IndexesTogether.{counts-are-low}
use Rattle.order_book.specs.AllIndexes.{HasAllRoom}
use Rattle.order_book.specs.Books.{NotedJournal}
use Rattle.register_machine.specs.journal.Journals.{last_moment}
use Rattle.order_book.proofs.book.OrderBook.note.Goals as goal

pub take-requires-clause-low : goal.take-requires-clause-low
take-requires-clause-low c =
    let same : length c.self.inside.events.items ≡ length c.args.self.now.journal = ap (λ (book : NotedJournal). length book.journal) c.self.view_is in
    let short : length c.self.inside.events.items < 100000000 = omega (arith, same, c.requires.next, c.requires.few) in
    counts-are-low c.self.inside.indexes c.self.inside.events.items short c.self.invariant.indexes

pub invariant_of-self : goal.invariant_of-self
invariant_of-self c =
    let spare_is : c.self.inside.spare ≡ c.args.self.now.spare = ap (λ (book : NotedJournal). book.spare) c.self.view_is in
    let one : c.self.inside.spare ≡ c.self.inside.spare - 1 + 1 = omega (arith, spare_is, c.requires.room) in
    record {
      last = c.moment-moment.ensures ∙ (sym (last-with c.self.inside.events.items c.args.event) ∙ ap last_moment (sym c.push_event.ensures.items));
      indexes = indexes-noted c.self.inside.events.items c.push_event.new.events.items c.args.self.now.journal c.self.inside.indexes c.take.new.self c.args.event c.kind.result.now c.args.seq
          c.kind.ensures.kind c.requires.next (ap (λ (book : NotedJournal). book.journal) c.self.view_is) c.push_event.ensures.items c.self.invariant.indexes c.requires.fits c.take.ensures.kept;
      events = omega (arith, one, c.push_event.ensures.len, c.push_event.ensures.capacity, c.self.invariant.events);
      room = c.take.ensures.room (c.self.inside.spare - 1) (subst (λ (n : ℕ). HasAllRoom c.self.inside.indexes n) one c.self.invariant.room);
    }
