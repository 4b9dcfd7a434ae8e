-- The proof of the law `trades_of_replays_are_dated`.
use Rattle.std.proofs.lemmas.List.Elements.{All-nil}
use Rattle.holder_statements.proofs.DatedReplays.{IsBefore, dated_on, none_dated}
use Rattle.holder_statements.proofs.laws.trades_of_replays_are_dated.Goals as goal
use Rattle.register_machine.specs.replay.Replay.{first_day, priced_orders}

pub returns : goal.returns
returns c book sheets those =
    dated_on book (priced_orders book) sheets first_day those none_dated (All-nil (IsBefore sheets))
