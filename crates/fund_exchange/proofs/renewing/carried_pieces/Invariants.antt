-- What holds at each turn of the loops of `carried_pieces`.
use Rattle.std.proofs.Common.{◌≡◌, ◌++◌, take, drop, filter}
use Rattle.fund_exchange.specs.Exchange.{mils_total, has_mils, renewed_behind, carried_pieces}
use Rattle.fund_exchange.proofs.renewing.carried_pieces.Given as goal

abbrev pub invariant-loop-piece : goal.invariant-loop-piece
invariant-loop-piece l = record {
  passed : l.before ≡ mils_total (take l.piece-index l.pieces);
  told : l.carried ++ filter has_mils (renewed_behind l.from l.to l.before (drop l.piece-index l.pieces)) ≡ carried_pieces l.from l.to l.pieces;
}
