-- That `place_of` keeps its contract.
use Rattle.std.proofs.Common.{rules}
use Rattle.std.proofs.lemmas.List.Sorted.{IsPartitionPoint-from_clause}
use Rattle.register_machine.specs.replay.Positions.{fresh_position, stands_before}
use Rattle.household_positions.proofs.PlaceFacts.{parted}
use Rattle.household_positions.proofs.places.place_of.Goals as goal

pub returns-clause-point : goal.returns-clause-point
returns-clause-point c =
    let positions = c.args.positions.now in
    IsPartitionPoint-from_clause (λ other. stands_before other (fresh_position c.args.account c.args.class)) positions _ c.partition_point.ensures.partitioned (parted c.args.account c.args.class positions c.requires) (λ a r q k. search rules)
