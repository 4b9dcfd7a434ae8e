-- The proof of the law `households_can_step_over_each_sheet`.
use Rattle.std.proofs.Common.{◌+◌}
use Rattle.ledger_laws.proofs.EachStep.{facts-fit, lots-behind-step}
use Rattle.ledger_laws.proofs.OwnedParts.{owned_by_accounts}
use Rattle.ledger_laws.proofs.part_laws.households_can_step_over_each_sheet.Goals as goal
use Rattle.register_laws.specs.Households.{part_of}
use Rattle.register_machine.specs.replay.Replay.{replay_to}
use Rattle.checkpoint_replay.proofs.PremiseFacts.{owned_on}

pub returns : goal.returns
returns c known book household sound facts have stand place d short =
    let owned = owned_by_accounts known book household sound facts have in
    record {
      facts = facts-fit known book sound facts have stand place d short;
      owned = owned_on known (place + 1) household (part_of book.accounts household (replay_to book place)).register (owned.positions place);
      orders_owned = owned.orders place d short;
      lots = lots-behind-step known book household sound facts place d short;
    }
