-- That `event_reply` keeps its contract.
use Rattle.std.proofs.Common.{ap, ◌∙◌}
use Rattle.std.specs.Option.{option_copied}
use Rattle.register_desk.proofs.EventsAnswered.{gains_given}
use Rattle.register_machine.specs.pricing.PublishedTable.{table_of}
use Rattle.register_machine.specs.run.Replies.{reply_of}
use Rattle.agent_events.specs.declared.event.EventKind.{EventKind}
use Rattle.register_desk.proofs.events.event_reply.Goals as goal

pub returns : goal.returns
returns c =
    let journal = c.args.books.now.book.journal in
    let event = c.args.event.now in
    c.event_reply.ensures (table_of journal) journal event.moment
    (λ sheet. c.next_number-number.ensures)
    (rw c.kind.ensures.kind (gains_given journal event (option_copied c.args.correction) c.in_ok-gains.gains c.requires.gains c.in_ok-gains.ensures))
    ∙ ap (λ (kind : EventKind). reply_of (table_of journal) journal (record { moment = event.moment; kind = kind })) c.kind.ensures.kind
