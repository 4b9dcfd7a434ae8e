-- What holds at each turn of the loop of `send_all`, and what falls.
use Rattle.std.proofs.Common.{IsTrue, length}
use Rattle.register_desk.specs.Rows.{TellsRowsOf}
use Rattle.figures.proofs.sheets.send_all.Given as goal

abbrev pub decreases-loop-sent : goal.decreases-loop-sent
decreases-loop-sent g l = length l.requests

abbrev pub invariant-loop-sent : goal.invariant-loop-sent
invariant-loop-sent g l = record {
  attached : IsTrue (g.K.Keeper.is_attached l.keeper);
  told : TellsRowsOf (g.K.Keeper.tells l.keeper) l.desk.book.journal;
}
