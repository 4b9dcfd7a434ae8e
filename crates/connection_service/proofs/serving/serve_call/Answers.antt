-- That `serve_call` keeps its contract.
use Rattle.std.proofs.Common.{sym, subst}
use Rattle.connection_service.proofs.CountFacts.{counts-on}
use Rattle.connection_service.proofs.serving.serve_call.Goals as goal
use Rattle.connection_service.specs.Answers.{text_of}
use Rattle.connection_service.specs.Serving.{CountsGoing}
use Rattle.connection_service.specs.declared.serving.Going.{Going}

pub returns-clause-replied : goal.returns-clause-replied
returns-clause-replied g c = record {
  text = text_of c.args.call.now.last c.answer_call-text.result;
  answers = c.answer_call-text.ensures.answers;
  written = c.write_text.result;
  writes = c.write_text.ensures.written;
  goes = c.going_on.ensures;
}

pub returns-clause-link : goal.returns-clause-link
returns-clause-link g c =
    subst (λ (going : Going). CountsGoing going (g.D.Door.link_faults c.args.door.now) (g.D.Door.link_faults c.write_text.new.door)) (sym c.going_on.ensures)
    (counts-on c.write_text.result (g.D.Door.link_faults c.args.door.now) (g.D.Door.link_faults c.write_text.new.door) c.write_text.ensures.fault c.write_text.ensures.no_fault)
