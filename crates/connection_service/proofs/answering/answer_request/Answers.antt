-- That `answer_request` keeps its contract.
use Rattle.std.proofs.Common.{Result, List, subst, sym, ℕ}
use Rattle.connection_service.proofs.AnswerFacts.{gets-by, grown-by}
use Rattle.connection_service.proofs.answering.answer_request.Goals as goal
use Rattle.connection_service.specs.Answers.{Gets, kept_at, said_to_request, text_of}
use Rattle.http_stream.specs.declared.fault.HttpFault.{HttpFault}
use Rattle.register_laws.specs.Lawful.{own_at}
use Rattle.register_machine.specs.run.Answers.{answer}

pub returns-clause-gets : goal.returns-clause-gets
returns-clause-gets g c =
    let said = said_to_request c.args.last c.args.request.now (own_at c.args.desk.now.book.journal c.args.moment c.args.caller) in
    subst (λ (text : Result (List ℕ) HttpFault). Gets c.args.last said (kept_at c.args.desk.now.book.journal (g.K.Keeper.faults c.args.keeper.now)) (text_of c.args.last text) (kept_at c.kept_reply.new.desk.book.journal (g.K.Keeper.faults c.kept_reply.new.keeper)))
    (sym c.kept_text.ensures)
    (gets-by c.args.last said c.args.desk.now.book.journal c.kept_reply.new.desk.book.journal (g.K.Keeper.faults c.args.keeper.now) (g.K.Keeper.faults c.kept_reply.new.keeper) c.kept_reply.result
    c.kept_reply.ensures.bytes c.kept_reply.ensures.journal c.kept_reply.ensures.err c.kept_reply.ensures.failed c.kept_reply.ensures.counted)

pub returns-clause-grown : goal.returns-clause-grown
returns-clause-grown g c =
    grown-by c.args.desk.now.book.journal c.kept_reply.new.desk.book.journal (answer (own_at c.args.desk.now.book.journal c.args.moment c.args.caller) c.args.request.now).events
    c.kept_reply.result c.kept_reply.ensures.journal c.kept_reply.ensures.err
