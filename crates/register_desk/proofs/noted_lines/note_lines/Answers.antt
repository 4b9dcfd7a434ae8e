-- That `note_lines` keeps its contract.
use Rattle.std.proofs.Common.{subst, sym, take, ◌++◌}
use Rattle.agent_events.specs.declared.event.Placed.{Placed}
use Rattle.dealer_lines.specs.Lines.{line_event, line_events}
use Rattle.register_desk.proofs.OneByOne.{next_follows}
use Rattle.register_desk.proofs.noted_lines.note_lines.Goals as goal
use Rattle.register_machine.specs.journal.Journals.{Journal, with_event}
use Rattle.register_machine.specs.journal.Lawful.{IsLawful}

-- The next order follows the journal with those before it.
pub note_line-requires-clause-follows : goal.note_line-requires-clause-follows
note_line-requires-clause-follows c =
    let journal = c.args.books.now.book.journal in
    let order = c.order-item.result in
    subst (λ (known : Journal). IsLawful (with_event known (line_event c.args.moment order))) (sym c.loop-order.invariant.noted.noted)
    (subst (λ (placed : Placed). IsLawful (with_event (journal ++ line_events c.args.moment (take c.loop-order.order-index c.args.placed.now)) (line_event c.args.moment placed))) (sym c.order-item.is)
    (next_follows journal c.args.moment c.args.placed.now c.loop-order.order-index order c.loop-order-test.true c.requires.ready.follow))
