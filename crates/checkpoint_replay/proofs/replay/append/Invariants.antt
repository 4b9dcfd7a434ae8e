-- What holds at each turn of the loops of `append`.
use Rattle.std.proofs.Common.{take, ◌++◌, ◌≡◌}
use Rattle.checkpoint_replay.proofs.replay.append.Given as goal

-- the trades so far
abbrev pub invariant-loop-trade : goal.invariant-loop-trade
invariant-loop-trade l = l.trades ≡ l.initial.trades ++ take l.trade-index l.made
