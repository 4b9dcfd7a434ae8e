-- That `parts_stay_with_one_account_more` keeps its contract.
use Rattle.register_laws.proofs.PartsStay.{known-day, part-same}
use Rattle.register_laws.proofs.replays.parts_stay_with_one_account_more.Goals as goal
use Rattle.register_laws.specs.Lawful.{book_behind}
use Rattle.register_machine.specs.replay.Replay.{replay_over}

pub returns : goal.returns
returns c journal event sheets lawful household =
    part-same journal event household (replay_over (book_behind journal) sheets) (known-day journal lawful sheets)
