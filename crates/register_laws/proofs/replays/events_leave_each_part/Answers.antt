-- That `events_leave_each_part` keeps its contract.
use Rattle.std.proofs.Common.{ap, ◌∙◌}
use Rattle.register_laws.proofs.EventReplays.{leaves_replay}
use Rattle.register_laws.proofs.PartsStay.{same_parts}
use Rattle.register_laws.proofs.replays.events_leave_each_part.Goals as goal
use Rattle.register_laws.proofs.NothingBefore.{last-brought}
use Rattle.register_laws.specs.Households.{part_of}
use Rattle.register_laws.specs.Lawful.{book_behind}
use Rattle.register_machine.specs.journal.Journals.{with_event}
use Rattle.register_machine.specs.journal.Kinds.{accounts_of}
use Rattle.register_machine.specs.replay.Replay.{replay}

pub returns : goal.returns
unfolding replay
returns c journal event lawful plain other household =
    ap (part_of (accounts_of (with_event journal event)) household) (leaves_replay journal event lawful plain other).1
    ∙ same_parts journal event (last-brought journal event lawful).0 (book_behind journal).table.sheets household
