-- The parts of the households with one event more: an account that is opened is of nobody's part yet.
use Rattle.std.specs.Prelude.{false, ℕ, ◌≡◌}
use Rattle.agent_events.specs.Events.{Event}
use Rattle.register_laws.specs.EventReplays.{is_correction, is_sheet}
use Rattle.register_laws.specs.Households.{part_of}
use Rattle.register_laws.specs.Lawful.{book_behind}
use Rattle.register_machine.specs.journal.Journals.{Journal, with_event}
use Rattle.register_machine.specs.journal.Kinds.{accounts_of}
use Rattle.register_machine.specs.journal.Lawful.{IsLawful}
use Rattle.register_machine.specs.replay.Replay.{replay}
use Rattle.register_machine.specs.replay.Trades.{Day}

-- the part of a household in the whole replay of a journal
abbrev pub part_behind : Journal → ℕ → Day
part_behind journal household = part_of (accounts_of journal) household (replay (book_behind journal))

-- An event that is no correction and no sheet leaves each household's part as it was.
abbrev pub LawfulPartsStay : Journal → Event → Type 0
LawfulPartsStay journal event =
    IsLawful (with_event journal event) → is_correction event.kind ≡ false → is_sheet event.kind ≡ false
    → (household : ℕ) → part_behind (with_event journal event) household ≡ part_behind journal household

-- A day of known accounts has the same parts with more accounts.
abbrev pub SameParts : Journal → Event → Day → Type 0
SameParts journal event day =
    (household : ℕ)
    → part_of (accounts_of (with_event journal event)) household day ≡ part_of (accounts_of journal) household day
