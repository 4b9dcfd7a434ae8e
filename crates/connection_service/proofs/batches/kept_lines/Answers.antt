-- That `kept_lines` keeps its contract.
use Rattle.std.proofs.Common.{List, ap, sym, ◌∙◌}
use Rattle.agent_events.specs.declared.reply.Reply.{Reply}
use Rattle.connection_service.proofs.BatchFacts.{batch-bytes}
use Rattle.connection_service.proofs.batches.kept_lines.Goals as goal
use Rattle.connection_service.specs.Answers.{batch_text}
use Rattle.register_desk.specs.PreparedBatches.{batch_prepared}
use Rattle.register_laws.specs.Lawful.{own_at}

-- The text of the replies that were prepared is what the machine says.
pub returns-clause-bytes : goal.returns-clause-bytes
returns-clause-bytes g c =
    c.in-Ok-batch_text.ensures
    ∙ ap (λ (replies : List Reply). batch_text c.args.caller replies c.args.last) c.replies.ensures
    ∙ sym (batch-bytes c.args.last c.args.lines.now (own_at c.args.desk.now.book.journal c.args.moment c.args.caller) (batch_prepared c.in-Ok.prepared) c.in-Ok.ensures.answer)
