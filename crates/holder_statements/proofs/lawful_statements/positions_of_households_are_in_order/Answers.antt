-- The proof of the law `positions_of_households_are_in_order`.
use Rattle.std.proofs.Common.{subst, true, ◌≡◌}
use Rattle.std.proofs.lemmas.List.Kept.{AllPairs-filter}
use Rattle.household_positions.specs.Register.{AreInOrder}
use Rattle.register_laws.proofs.LawfulReplaysKept.{keeps_its_replay}
use Rattle.register_laws.proofs.ViewBooks.{whole_in_view}
use Rattle.register_laws.specs.Households.{is_of_household, is_own_position}
use Rattle.register_laws.specs.Lawful.{book_behind}
use Rattle.register_machine.specs.journal.Kinds.{accounts_of}
use Rattle.register_machine.specs.replay.Positions.{Position, stands_before}
use Rattle.register_machine.specs.replay.Replay.{replay}
use Rattle.register_machine.specs.replay.Trades.{Day}
use Rattle.holder_statements.proofs.lawful_statements.positions_of_households_are_in_order.Goals as goal

pub returns : goal.returns
returns c journal household lawful =
    subst (λ (day : Day). AreInOrder day.register) (whole_in_view journal household lawful)
    (AllPairs-filter (λ (a : Position) (b : Position). stands_before a b ≡ true) (is_own_position (is_of_household (accounts_of journal) household)) (replay (book_behind journal)).register (keeps_its_replay journal lawful).registers.at_last.in_order)
