-- That `Ledger::new` keeps its contract.
use Rattle.checkpoint_replay.proofs.TalliedLaw.{empty-tallied}
use Rattle.std.specs.HashMap.{spare}
use Rattle.checkpoint_replay.proofs.ledger.Ledger.new.Goals as goal

pub returns-clause-tallied : goal.returns-clause-tallied
returns-clause-tallied c =
    empty-tallied (record { parts = c.number_map.result.entries; room = spare c.number_map.result; totals = c.new.result }) c.number_map.ensures.empty c.new.ensures.cash c.new.ensures.mils
