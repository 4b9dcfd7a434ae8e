-- The proof of the law `sheets_advance_ledgers`.
use Rattle.register_laws.proofs.EventReplays.{sheet-behind-all}
use Rattle.register_laws.specs.EventReplays.{sheet_behind}
use Rattle.ledger_laws.proofs.SoundBooks.{has_a_sound_book}
use Rattle.ledger_laws.proofs.SheetAdvances.{advances, shown-before}
use Rattle.ledger_laws.proofs.sheet_laws.sheets_advance_ledgers.Goals as goal
use Rattle.register_laws.specs.Lawful.{book_behind}
use Rattle.register_machine.specs.journal.Journals.{with_event}

pub returns : goal.returns
returns c known rows journal event form parts lawful is serves are ledger =
    advances known rows (book_behind (with_event journal event)) (book_behind journal).table.sheets (sheet_behind journal form)
    (sheet-behind-all journal event lawful form is) serves are parts (has_a_sound_book (with_event journal event) lawful)
    (shown-before journal event form parts lawful is ledger)
