-- That `reply_by_verb` keeps its contract.
use Rattle.register_desk.proofs.looks.reply_by_verb.Goals as goal

pub returns-in-Show : goal.returns-in-Show
returns-in-Show c = rw c.in-Show.is c.show_reply.ensures

pub returns-in-Trace : goal.returns-in-Trace
returns-in-Trace c = rw c.in-Trace.is c.trace_reply.ensures

pub returns-in-Statement : goal.returns-in-Statement
returns-in-Statement c = rw c.in-Statement.is c.statement_reply.ensures

pub returns-in-Books : goal.returns-in-Books
returns-in-Books c = rw c.in-Books.is c.books_reply.ensures
