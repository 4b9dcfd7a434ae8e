-- That `serve_connections` keeps its contract.
use Rattle.std.proofs.Common.{[], append-nil, subst, sym, ◌∙◌}
use Rattle.std.specs.Prelude.{Bool}
use Rattle.connection_service.proofs.AnswerFacts.{goes-then, grown-then}
use Rattle.connection_service.proofs.in_turn.serve_connections.Goals as goal
use Rattle.connection_service.specs.InTurn.{InTurn, ServesNext, door_at}
use Rattle.connection_service.specs.Serving.{at_of}
use Rattle.register_desk.proofs.RowByRow.{goes_none}

pub loop-init : goal.loop-init
loop-init g c = record {
  in_turn = InTurn.none;
  grown = ([], sym (append-nil c.args.desk.now.book.journal));
  lawful = c.journal_is_lawful.ensures;
  told = c.requires.told;
  attached = c.requires.attached;
  was_honest = λ honest. honest;
  goes_on = goes_none g.K.Keeper.moment g.K.Keeper.gave c.args.keeper.now;
  door = λ _. g.D.Door.door_faults c.args.door.now;
}

pub loop-preserved : goal.loop-preserved
loop-preserved g c =
    let at = at_of c.loop.desk.book.journal (g.K.Keeper.faults c.loop.keeper) (g.C.Clock.last c.loop.clock) (g.C.Clock.coming c.loop.clock) in
    let after = at_of c.serve_next_connection.new.desk.book.journal (g.K.Keeper.faults c.serve_next_connection.new.keeper) (g.C.Clock.last c.serve_next_connection.new.clock) (g.C.Clock.coming c.serve_next_connection.new.clock) in
    let mid = door_at (g.D.Door.is_connected c.loop.door) (g.D.Door.told c.loop.door) (g.D.Door.link_faults c.loop.door) in
    let now = door_at (g.D.Door.is_connected c.serve_next_connection.new.door) (g.D.Door.told c.serve_next_connection.new.door) (g.D.Door.link_faults c.serve_next_connection.new.door) in
    record {
      in_turn = InTurn.next c.loop.counter mid now at after c.loop.invariant.in_turn
          (subst (λ (more : Bool). ServesNext c.args.operator.now at after mid now more) c.if-not-branch.false c.in_ok-serve_next_connection.ensures.served);
      grown = grown-then c.args.desk.now.book.journal c.loop.desk.book.journal c.serve_next_connection.new.desk.book.journal c.loop.invariant.grown c.serve_next_connection.ensures.grown;
      lawful = c.serve_next_connection.ensures.lawful;
      told = c.serve_next_connection.ensures.told;
      attached = c.serve_next_connection.ensures.attached;
      was_honest = λ honest. c.loop.invariant.was_honest (c.serve_next_connection.ensures.was_honest honest);
      goes_on = goes-then g.K.Keeper.moment g.K.Keeper.gave c.args.keeper.now c.loop.keeper c.serve_next_connection.new.keeper c.loop.invariant.goes_on c.serve_next_connection.ensures.goes_on;
      door = c.in_ok-serve_next_connection.ensures.no_fault ∙ c.loop.invariant.door;
    }
