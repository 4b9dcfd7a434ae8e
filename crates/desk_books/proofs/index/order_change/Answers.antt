-- That `order_change` keeps its contract.
use Rattle.std.proofs.Common.{subst, sym}
use Rattle.desk_books.proofs.NamedOrders.{changes_replaced}
use Rattle.desk_books.proofs.index.order_change.Goals as goal
use Rattle.desk_books.specs.OrderChanges.{ChangesOrders, NamesItsOrder}
use Rattle.desk_books.specs.declared.change.OrderChange.{OrderChange}

pub returns-in-Replace : goal.returns-in-Replace
returns-in-Replace c =
    let journal = c.args.book.now.journal in
    subst (λ kind. ChangesOrders journal kind (OrderChange.Replaces c.place_of.result)) (sym c.in-Replace.is)
    (changes_replaced journal c.in-Replace.form c.number-in-Replace.result c.number-in-Replace-2.result c.place_of.result c.number-in-Replace.ensures.value c.number-in-Replace-2.ensures.value (subst (NamesItsOrder journal) c.in-Replace.is c.requires) c.place_of.ensures)
