-- The names so far are those of the trades before this one that are filled.
use Rattle.std.proofs.Common.{take, ◌≡◌}
use Rattle.std.specs.HashSet.{contains}
use Rattle.desk_books.specs.Filled.{named_filled, same_name}
use Rattle.desk_books.specs.declared.filled.TradeName.{TradeName}
use Rattle.desk_books.proofs.filled.filled_names.Given as goal

abbrev pub invariant-loop-trade : goal.invariant-loop-trade
invariant-loop-trade l = (q : TradeName) → contains same_name l.names q ≡ named_filled (take l.trade-index l.trades) q
