-- The proof of the law `trades_of_households_are_dated`.
use Rattle.std.proofs.Common.{subst}
use Rattle.holder_statements.proofs.DatedReplays.{part_is_dated}
use Rattle.holder_statements.specs.Periods.{AreDated}
use Rattle.register_laws.proofs.ViewBooks.{whole_in_view}
use Rattle.register_laws.specs.Households.{is_of_household, is_own_trade}
use Rattle.register_laws.specs.Lawful.{book_behind}
use Rattle.register_machine.specs.journal.Kinds.{accounts_of}
use Rattle.register_machine.specs.replay.Replay.{replay}
use Rattle.register_machine.specs.replay.Trades.{Day}
use Rattle.holder_statements.proofs.LawfulTrades.{trades_dated}
use Rattle.holder_statements.proofs.lawful_statements.trades_of_households_are_dated.Goals as goal

pub returns : goal.returns
returns c journal household lawful timely =
    subst (λ (day : Day). AreDated day.trades) (whole_in_view journal household lawful)
    (part_is_dated (is_own_trade (is_of_household (accounts_of journal) household)) (replay (book_behind journal)).trades (trades_dated journal lawful timely))
