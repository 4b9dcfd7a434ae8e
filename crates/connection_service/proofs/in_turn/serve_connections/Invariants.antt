-- So many connections were served as the loop has gone round.
use Rattle.std.proofs.Common.{IsTrue, ◌++◌, ◌≡◌}
use Rattle.agent_keeper.specs.Calls.{GoesOn}
use Rattle.connection_service.specs.InTurn.{InTurn, door_at}
use Rattle.connection_service.specs.Serving.{at_of}
use Rattle.connection_service.proofs.in_turn.serve_connections.Given as goal
use Rattle.register_desk.specs.Rows.{TellsRowsOf}
use Rattle.register_machine.specs.journal.Journals.{Journal}
use Rattle.register_machine.specs.journal.Lawful.{IsLawful}

abbrev pub invariant-loop : goal.invariant-loop
invariant-loop g l = record {
  in_turn : InTurn l.operator
      (at_of l.initial.desk.book.journal (g.K.Keeper.faults l.initial.keeper) (g.C.Clock.last l.initial.clock) (g.C.Clock.coming l.initial.clock))
      (door_at (g.D.Door.is_connected l.initial.door) (g.D.Door.told l.initial.door) (g.D.Door.link_faults l.initial.door))
      l.counter
      (door_at (g.D.Door.is_connected l.door) (g.D.Door.told l.door) (g.D.Door.link_faults l.door))
      (at_of l.desk.book.journal (g.K.Keeper.faults l.keeper) (g.C.Clock.last l.clock) (g.C.Clock.coming l.clock));
  grown : (more : Journal) × (l.desk.book.journal ≡ l.initial.desk.book.journal ++ more);
  lawful : IsLawful l.desk.book.journal;
  told : TellsRowsOf (g.K.Keeper.tells l.keeper) l.desk.book.journal;
  attached : IsTrue (g.K.Keeper.is_attached l.keeper);
  was_honest : g.K.Keeper.is_honest l.keeper → g.K.Keeper.is_honest l.initial.keeper;
  goes_on : GoesOn g.K.Keeper.moment g.K.Keeper.gave l.initial.keeper l.keeper;
  door : g.D.Door.door_faults l.door ≡ g.D.Door.door_faults l.initial.door;
}
