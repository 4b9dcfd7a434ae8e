-- That `look` keeps its contract.
use Rattle.load_runs.proofs.LooksShown.{look_is}
use Rattle.load_runs.proofs.looks.look.Goals as goal

pub returns-clause-reply : goal.returns-clause-reply
returns-clause-reply g c =
    look_is c.args.desk.now.book.journal c.args.request.now c.last_moment-moment.result _ _
    c.last_moment-moment.ensures c.in_ok-prepared.ensures.answer
