-- That `books_replay_alike` keeps its contract.
use Rattle.register_laws.proofs.ReadsAlike.{first-same, sheets-same}
use Rattle.register_laws.proofs.replays.books_replay_alike.Goals as goal
use Rattle.register_machine.specs.replay.Replay.{first_day}

pub returns : goal.returns
returns c book other known named sheets terms reads rows =
    (sheets-same book other known named terms rows sheets reads first_day first_day (first-same known named)).same
