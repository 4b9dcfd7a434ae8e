-- That `answer_line` keeps its contract.
use Rattle.std.proofs.Common.{subst, ◌≡◌}
use Rattle.std.specs.Prelude.{OnOk}
use Rattle.dealer_lines.proofs.LineByLine.{line_taken}
use Rattle.dealer_lines.proofs.answering.answer_line.Goals as goal
use Rattle.dealer_lines.specs.Answers.{lines_given}
use Rattle.register_machine.specs.run.Batches.{BatchAnswer}

-- What is said of the line is the machine's answer to it behind the lines before it.
pub returns-clause-given : goal.returns-clause-given
returns-clause-given c =
    subst (λ (given : BatchAnswer). OnOk c.take_in.result (lines_given c.take_in.new.answered ≡ given))
    (line_taken c.args.book.now.journal c.args.inquiry.now.now c.args.inquiry.now.caller c.in-Line.line c.args.answered.now.replies c.args.answered.now.placed c.args.inquiry.now c.as_slice-earlier.result.now c.args.answered.now.moment c.args.request.now c.said_of_line-said.result
    c.requires.own c.as_slice-earlier.ensures c.requires.moment c.in-Line.is c.requires.lawful c.said_of_line-said.ensures)
    c.take_in.ensures.given
