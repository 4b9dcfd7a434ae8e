-- That `put` keeps its contract.
use Rattle.std.proofs.Common.{ap, ◌∙◌}
use Rattle.register_machine.specs.replay.Positions.{is_position}
use Rattle.register_machine.specs.replay.Positions as positions
use Rattle.household_positions.proofs.ListParts.{find-not}
use Rattle.household_positions.proofs.PlaceFacts.{put-without}
use Rattle.household_positions.proofs.places.put.Goals as goal

pub insert_kept-requires-clause-absent : goal.insert_kept-requires-clause-absent
insert_kept-requires-clause-absent c =
    rw c.clear_place.ensures.rest (find-not (is_position c.args.position.account c.args.position.class) c.args.positions.now.items)

pub returns-clause-ok : goal.returns-clause-ok
returns-clause-ok c =
    c.in_ok-insert_kept.ensures.ok
    ∙ (ap (positions.put c.args.position) c.clear_place.ensures.rest ∙ put-without c.args.position c.args.positions.now.items)
