-- That `answer_lines` keeps its contract.
use Rattle.std.proofs.Common.{List, Result, subst, sym, ℕ}
use Rattle.connection_service.proofs.AnswerFacts.{gets-by, grown-by}
use Rattle.connection_service.proofs.batches.answer_lines.Goals as goal
use Rattle.connection_service.specs.Answers.{Gets, kept_at, said_to_batch, text_of}
use Rattle.http_stream.specs.declared.fault.HttpFault.{HttpFault}
use Rattle.register_laws.specs.Lawful.{own_at}

pub returns-clause-gets : goal.returns-clause-gets
returns-clause-gets g c =
    let said = said_to_batch c.args.last c.args.lines.now (own_at c.args.desk.now.book.journal c.args.moment c.args.caller) in
    subst (λ (text : Result (List ℕ) HttpFault). Gets c.args.last said (kept_at c.args.desk.now.book.journal (g.K.Keeper.faults c.args.keeper.now)) (text_of c.args.last text) (kept_at c.kept_lines.new.desk.book.journal (g.K.Keeper.faults c.kept_lines.new.keeper)))
    (sym c.kept_text.ensures)
    (gets-by c.args.last said c.args.desk.now.book.journal c.kept_lines.new.desk.book.journal (g.K.Keeper.faults c.args.keeper.now) (g.K.Keeper.faults c.kept_lines.new.keeper) c.kept_lines.result
    c.kept_lines.ensures.bytes c.kept_lines.ensures.journal c.kept_lines.ensures.err c.kept_lines.ensures.failed c.kept_lines.ensures.counted)

pub returns-clause-grown : goal.returns-clause-grown
returns-clause-grown g c =
    grown-by c.args.desk.now.book.journal c.kept_lines.new.desk.book.journal (said_to_batch c.args.last c.args.lines.now (own_at c.args.desk.now.book.journal c.args.moment c.args.caller)).events
    c.kept_lines.result c.kept_lines.ensures.journal c.kept_lines.ensures.err
