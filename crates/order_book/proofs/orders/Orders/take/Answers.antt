-- That `Orders::take` keeps its contract.
use Rattle.order_book.proofs.OrdersTaken.{cancel-taken, entry-taken, fewer-rows, left-by, order-taken, orders-left, replacement-taken, void-taken}
use Rattle.order_book.proofs.orders.Orders.take.Goals as goal

pub returns-in-Order-clause-kept : goal.returns-in-Order-clause-kept
returns-in-Order-clause-kept c = λ journal moment at kept fits.
    order-taken c.args.self.now c.begin.new.self journal moment c.args.place c.args.kind.now c.in-Order.placed c.row_as_sent.result
    c.in-Order.is c.row_as_sent.ensures at c.begin.ensures.rows c.begin.ensures.names kept c.begin.ensures.above fits

pub returns-in-Enter-clause-kept : goal.returns-in-Enter-clause-kept
returns-in-Enter-clause-kept c = λ journal moment at kept fits.
    entry-taken c.args.self.now c.begin-in-Enter.new.self journal moment c.args.place c.args.kind.now c.in-Enter.form c.row_as_sent-in-Enter.result
    c.in-Enter.is c.row_as_sent-in-Enter.ensures at c.begin-in-Enter.ensures.rows c.begin-in-Enter.ensures.names kept c.begin-in-Enter.ensures.above fits

pub returns-in-Cancel-clause-kept : goal.returns-in-Cancel-clause-kept
returns-in-Cancel-clause-kept c = λ journal moment at kept fits.
    cancel-taken c.args.self.now c.strike.new.self journal moment c.args.kind.now c.in-Cancel.form c.name_by.result
    c.in-Cancel.is c.name_by.ensures.same c.strike.ensures.rows c.strike.ensures.index kept

pub returns-in-Cancel-clause-room : goal.returns-in-Cancel-clause-room
returns-in-Cancel-clause-room c = λ n room. c.strike.ensures.room n (fewer-rows c.args.self.now n room)

pub returns-in-Void-clause-kept : goal.returns-in-Void-clause-kept
returns-in-Void-clause-kept c = λ journal moment at kept fits.
    void-taken c.args.self.now c.strike-in-Void.new.self journal moment c.args.kind.now c.in-Void.form c.name_by-in-Void.result
    c.in-Void.is c.name_by-in-Void.ensures.same c.strike-in-Void.ensures.rows c.strike-in-Void.ensures.index kept

pub returns-in-Void-clause-room : goal.returns-in-Void-clause-room
returns-in-Void-clause-room c = λ n room. c.strike-in-Void.ensures.room n (fewer-rows c.args.self.now n room)

pub returns-in-Replace-clause-kept : goal.returns-in-Replace-clause-kept
returns-in-Replace-clause-kept c = λ journal moment at kept fits.
    replacement-taken c.args.self.now c.replace.new.self journal moment c.args.kind.now c.in-Replace.form
    c.in-Replace.is c.replace.ensures.rows c.replace.ensures.index kept

pub returns-in-Replace-clause-room : goal.returns-in-Replace-clause-room
returns-in-Replace-clause-room c = λ n room. c.replace.ensures.room n (fewer-rows c.args.self.now n room)

pub returns-in_default : goal.returns-in_default
returns-in_default c =
    let d = c.in_default in
    record {
      kept = λ journal moment at kept fits. orders-left c.args.self.now journal (record { moment = moment; kind = c.args.kind.now })
          (left-by c.args.kind.now d.not-Order d.not-Cancel d.not-Enter d.not-Replace d.not-Void) kept;
      room = λ n room. fewer-rows c.args.self.now n room;
    }
