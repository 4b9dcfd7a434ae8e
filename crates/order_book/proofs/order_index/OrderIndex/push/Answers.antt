-- That `OrderIndex::push` keeps its contract.
use Rattle.order_book.proofs.Names.{name-pushed}
use Rattle.order_book.proofs.order_index.OrderIndex.push.Goals as goal

pub returns-clause-kept : goal.returns-clause-kept
returns-clause-kept c = λ names at kept.
    name-pushed c.args.self.now (record { places = c.put_first.new.places; last = c.put_last-before.new.last; earlier = c.push_within.new.items })
    names c.args.name c.args.place c.put_last-before.result at kept c.put_last-before.ensures.before
    c.put_first.ensures.places c.put_last-before.ensures.places c.push_within.ensures.items
