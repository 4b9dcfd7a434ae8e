-- What holds at each turn of the loops of `copy_puts`.
use Rattle.std.proofs.Common.{◌≡◌, take}
use Rattle.agent_keeper.proofs.copies.copy_puts.Given as goal

abbrev pub invariant-loop-put : goal.invariant-loop-put
invariant-loop-put l = l.copy ≡ take l.put-index l.puts
