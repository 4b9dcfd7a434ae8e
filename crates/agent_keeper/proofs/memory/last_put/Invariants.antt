-- What holds at each turn of the loops of `last_put`.
use Rattle.std.proofs.Common.{◌≡◌, take}
use Rattle.std.specs.Option.{option_copied}
use Rattle.agent_keeper.specs.Content.{after_puts}
use Rattle.agent_keeper.proofs.memory.last_put.Given as goal

abbrev pub invariant-loop-put : goal.invariant-loop-put
invariant-loop-put l = option_copied l.there ≡ after_puts (take l.put-index l.puts) (option_copied l.before) l.household l.sheet
