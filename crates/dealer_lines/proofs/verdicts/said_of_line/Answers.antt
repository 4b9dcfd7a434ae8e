-- That `said_of_line` keeps its contract.
use Rattle.dealer_lines.proofs.verdicts.said_of_line.Goals as goal
use Rattle.dealer_lines.specs.Lines.{line_events}
use Rattle.register_laws.proofs.HasNoIdentityTwice.{no_identity_twice}
use Rattle.register_laws.proofs.LawfulJournals.{lawful-before}

pub placed_before-requires-clause-once : goal.placed_before-requires-clause-once
placed_before-requires-clause-once c =
    no_identity_twice c.args.book.now.journal
    (lawful-before c.args.book.now.journal (line_events c.args.inquiry.now.now c.args.earlier.now) c.requires.lawful)
