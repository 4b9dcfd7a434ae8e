-- The statements of a lawful journal: its sheets are dated near their moments, so that its trades are found by their dates, and
-- a statement is told by the household's view of the journal.
use Rattle.std.specs.Prelude.{All, List, Some, ℕ, ◌≡◌, ◌≤◌}
use Rattle.agent_events.specs.declared.request.StatementForm.{StatementForm}
use Rattle.holder_statements.specs.Periods.{AreDated, AreSheetsDated}
use Rattle.household_positions.specs.Register.{AreInOrder}
use Rattle.register_laws.specs.Lawful.{book_behind}
use Rattle.register_machine.specs.journal.Journals.{Journal}
use Rattle.register_machine.specs.journal.Kinds.{accounts_of, calendars_of, household_of}
use Rattle.register_machine.specs.journal.Lawful.{IsLawful}
use Rattle.register_machine.specs.journal.Views.{view}
use Rattle.register_machine.specs.queries.Statement.{statement_text}
use Rattle.register_machine.specs.replay.Replay.{replay}

-- each calendar has a time of day, in minutes after midnight
abbrev pub IsTimely : Journal → Type 0
IsTimely journal = All (λ form. form.minute ≤ 1439) (calendars_of journal)

-- the sheets are in order and dated near their moments, and so are the trades, all of them and those of a household
abbrev pub LawfulSheetsAreDated : Journal → Type 0
LawfulSheetsAreDated journal =
    IsLawful journal → IsTimely journal → AreSheetsDated (book_behind journal).table.sheets

abbrev pub LawfulTradesAreDated : Journal → Type 0
LawfulTradesAreDated journal =
    IsLawful journal → IsTimely journal → AreDated (replay (book_behind journal)).trades

abbrev pub LawfulViewIsDated : Journal → ℕ → Type 0
LawfulViewIsDated journal household =
    IsLawful journal → IsTimely journal → AreDated (replay (book_behind (view household journal))).trades

-- the statement of an account is told by the replay of its household's view
abbrev pub StatedInView : Journal → ℕ → StatementForm → List ℕ → Type 0
StatedInView journal household form name =
    IsLawful journal → household_of (accounts_of journal) form.account ≡ Some household
    → statement_text (book_behind journal) form name (replay (book_behind (view household journal)))
    ≡ statement_text (book_behind journal) form name (replay (book_behind journal))

-- the positions of a household's view stand by account and then class, each once
abbrev pub LawfulViewInOrder : Journal → ℕ → Type 0
LawfulViewInOrder journal household =
    IsLawful journal → AreInOrder (replay (book_behind (view household journal))).register
