-- That `MemoryKeeper::over` keeps its contract.
use Rattle.agent_keeper.proofs.Contents.{after_nothing}
use Rattle.agent_keeper.proofs.memory.MemoryKeeper.over.Goals as goal

pub returns-clause-kept : goal.returns-clause-kept
returns-clause-kept c = after_nothing _ _ c.new.ensures.rows c.new.ensures.puts c.new.ensures.removes

pub returns-clause-after : goal.returns-clause-after
returns-clause-after c = after_nothing _ _ c.new.ensures.rows c.new.ensures.puts c.new.ensures.removes
