-- The rows of the numbers so far.
use Rattle.std.proofs.Common.{map, take, ◌≡◌}
use Rattle.register_desk.specs.GatheredNumbers.{shares_in}
use Rattle.register_laws.specs.Lawful.{book_behind}
use Rattle.register_machine.specs.replay.Replay.{replay}
use Rattle.register_desk.proofs.balances.class_shares.Given as goal

abbrev pub invariant-loop-number : goal.invariant-loop-number
invariant-loop-number l =
    l.rows.items ≡ map (shares_in (replay (book_behind l.books.book.journal)).register) (take l.number-index l.numbers)
