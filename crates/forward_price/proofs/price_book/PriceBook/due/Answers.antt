-- That `PriceBook::due` keeps its contract.
use Rattle.std.proofs.Common.{◌≡◌, ◌∙◌, ap}
use Rattle.forward_price.specs.Turns.{due_in, due_of}
use Rattle.forward_price.proofs.TurnFacts.{if_due, if_none_due}
use Rattle.forward_price.proofs.price_book.PriceBook.due.Goals as goal

is : (c : goal.After-due) → c.due.result ≡ due_of c.args.self.now.table c.args.classes.now c.args.receipt
is c =
    c.due.ensures
    ∙ ap (λ calendars. due_in calendars c.deref-2.result.now c.args.classes.now c.args.receipt) (c.deref.ensures.value ∙ ap (λ b. b.table.calendars) c.self.view_is)
    ∙ ap (λ classes. due_in c.args.self.now.table.calendars classes c.args.classes.now c.args.receipt) (c.deref-2.ensures.value ∙ ap (λ b. b.table.classes) c.self.view_is)

pub returns-clause-computed : goal.returns-clause-computed
returns-clause-computed c = is c

pub returns-clause-least : goal.returns-clause-least
returns-clause-least c = if_due c.args.self.now.table c.args.classes.now c.args.receipt c.due.result (is c)

pub returns-clause-none : goal.returns-clause-none
returns-clause-none c = if_none_due c.args.self.now.table c.args.classes.now c.args.receipt c.due.result (is c)
