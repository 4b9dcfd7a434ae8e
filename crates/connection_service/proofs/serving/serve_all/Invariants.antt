-- What holds at each turn of the loops of `serve_all`.
use Rattle.std.proofs.Common.{IsTrue, ◌++◌, ◌≡◌}
use Rattle.agent_keeper.specs.Calls.{GoesOn}
use Rattle.connection_service.specs.Serving.{IsServing, IsWithin, ahead, at_of}
use Rattle.connection_service.proofs.serving.serve_all.Given as goal
use Rattle.register_desk.specs.Rows.{TellsRowsOf}
use Rattle.register_machine.specs.journal.Journals.{Journal}

abbrev pub invariant-loop-served : goal.invariant-loop-served
invariant-loop-served g l = record {
  serving : IsServing l.operator
      (at_of l.initial.desk.book.journal (g.K.Keeper.faults l.initial.keeper) (g.C.Clock.last l.initial.clock) (g.C.Clock.coming l.initial.clock))
      (g.D.Door.told l.initial.door) (g.D.Door.told l.door) l.feed
      (at_of l.desk.book.journal (g.K.Keeper.faults l.keeper) (g.C.Clock.last l.clock) (g.C.Clock.coming l.clock));
  within : IsWithin l.feed;
  grown : (more : Journal) × (l.desk.book.journal ≡ l.initial.desk.book.journal ++ more);
  told : TellsRowsOf (g.K.Keeper.tells l.keeper) l.desk.book.journal;
  attached : IsTrue (g.K.Keeper.is_attached l.keeper);
  was_honest : g.K.Keeper.is_honest l.keeper → g.K.Keeper.is_honest l.initial.keeper;
  goes_on : GoesOn g.K.Keeper.moment g.K.Keeper.gave l.initial.keeper l.keeper;
  connected : IsTrue (g.D.Door.is_connected l.door);
  link : g.D.Door.link_faults l.door ≡ g.D.Door.link_faults l.initial.door;
  door : g.D.Door.door_faults l.door ≡ g.D.Door.door_faults l.initial.door;
}

abbrev pub decreases-loop-served : goal.decreases-loop-served
decreases-loop-served g l = ahead l.feed
