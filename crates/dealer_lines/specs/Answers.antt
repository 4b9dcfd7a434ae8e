-- What is said of a line, the answer that it makes, and the answers of a whole batch.
use Rattle.std.specs.Prelude.{None, Option, Some, [], unwrap_or, ℕ, ◌++◌, ◌∷◌}
use Rattle.agent_events.specs.Events.{placed_by_dealer}
use Rattle.agent_events.specs.declared.event.Placed.{Placed}
use Rattle.agent_events.specs.declared.reply.Refusal.{Refusal}
use Rattle.agent_events.specs.declared.request.LineForm.{LineForm}
use Rattle.dealer_lines.specs.Lines.{line_event, line_events}
use Rattle.dealer_lines.specs.declared.answering.LinesAnswered.{LinesAnswered}
use Rattle.dealer_lines.specs.declared.verdicts.LineVerdict.{LineVerdict}
use Rattle.register_machine.specs.pricing.CorrectedBook.{due_at}
use Rattle.register_machine.specs.rules.Situations.{Situation}
use Rattle.register_machine.specs.run.Answers.{Answer, refuses, says}
use Rattle.register_machine.specs.run.Batches.{BatchAnswer}
use Rattle.register_machine.specs.run.Replies.{order_reply}

-- a new line is refused by the first rule that it breaks; else it places its order, which keeps the moment at which it is due now
abbrev pub said_by_rule : Situation → LineForm → Option Refusal → LineVerdict
said_by_rule situation line (Some refusal) = LineVerdict.Refused refusal
said_by_rule situation line None =
    LineVerdict.Places (placed_by_dealer line (unwrap_or (due_at situation.book line.order.body line.receipt) 0))

-- an equal line is a repeat, whatever rules it would break by now
abbrev pub said_by_order : Situation → LineForm → Option Refusal → Option Placed → LineVerdict
said_by_order situation line broken (Some placed) = LineVerdict.Again placed
said_by_order situation line broken None = said_by_rule situation line broken

-- and without the right to it nothing else is asked
abbrev pub said_by_right : Situation → LineForm → Option Refusal → Option Placed → Option Refusal → LineVerdict
said_by_right situation line broken before (Some refusal) = LineVerdict.Refused refusal
said_by_right situation line broken before None = said_by_order situation line broken before

-- an order that the line places is appended; one that an equal line placed before has its reply again
abbrev pub line_answer : ℕ → LineVerdict → Answer
line_answer now (LineVerdict.Places placed) =
    record { reply = order_reply placed; events = line_event now placed ∷ [] }
line_answer now (LineVerdict.Again placed) = says (order_reply placed)
line_answer now (LineVerdict.Refused refusal) = refuses refusal

-- ---- a batch

abbrev pub lines_given : LinesAnswered → BatchAnswer
lines_given answered =
    record { replies = answered.replies; events = line_events answered.moment answered.placed }

-- with the answer to one line more
abbrev pub with_answer : BatchAnswer → Answer → BatchAnswer
with_answer so_far said = record { replies = so_far.replies ++ said.reply ∷ []; events = so_far.events ++ said.events }
