-- That `Desk::prepare` keeps its contract.
use Rattle.register_desk.proofs.DesksGoOn.{desk_same}
use Rattle.register_desk.proofs.LoadsOfClasses.{noted_loads}
use Rattle.register_desk.proofs.desk.Desk.prepare.Goals as goal

-- A class that is to be noted has its loads.
pub batch_of-requires : goal.batch_of-requires
batch_of-requires g c =
    noted_loads c.answer_request.new.books c.in_ok-answered.answered.change c.in_ok-answered.ensures.ready

-- The books show what they showed before.
pub invariant_of-self-2 : goal.invariant_of-self-2
invariant_of-self-2 g c =
    desk_same c.self.inside.books c.answer_request.new.books c.self.invariant c.answer_request.ensures.same c.answer_request.ensures.journal
