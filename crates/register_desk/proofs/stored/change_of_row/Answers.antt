-- That `change_of_row` keeps its contract.
use Rattle.std.proofs.Common.{arith, inl}
use Rattle.register_desk.proofs.BoundsGoOn.{found_few, none_few}
use Rattle.register_desk.proofs.stored.change_of_row.Goals as goal

pub returns-in_default-clause-bad_steps : goal.returns-in_default-clause-bad_steps
returns-in_default-clause-bad_steps g c = λ none. inl (omega arith)

pub returns-clause-steps : goal.returns-clause-steps
returns-clause-steps g c =
    found_few c.args.books.now.book.journal c.in-Some.event c.follows.new.books c.args.steps.now _ c.follows.result
    c.follows.ensures.some c.follows.ensures.few

pub returns-clause-bad_steps : goal.returns-clause-bad_steps
returns-clause-bad_steps g c =
    let read = rw c.in-Some.is at c.in_ok-event.ensures.found in
    none_few c.args.books.now.book.journal c.in-Some.event c.args.row.now c.args.steps.now _ c.follows.result read.0 read.1
    c.follows.ensures.few
