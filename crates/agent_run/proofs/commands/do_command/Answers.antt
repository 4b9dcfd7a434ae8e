-- That `do_command` keeps its contract.
use Rattle.std.proofs.Common.{ap, refl, subst, sym}
use Rattle.std.specs.Prelude.{Some}
use Rattle.agent_run.proofs.EndsOfLoads.{load-ends}
use Rattle.agent_run.proofs.EndsOfServing.{serve-ends}
use Rattle.agent_run.specs.Ends.{Ends, Sides, sides_of}
use Rattle.agent_run.specs.Views.{command_view}
use Rattle.agent_run.specs.declared.command.Command.{Command}
use Rattle.connection_service.specs.Answers.{clock_at}
use Rattle.connection_service.specs.InTurn.{door_at}
use Rattle.agent_run.proofs.commands.do_command.Goals as goal

pub returns-in-Load : goal.returns-in-Load
returns-in-Load g c =
    let door = door_at (g.D.Door.is_connected c.args.door.now) (g.D.Door.told c.args.door.now) (g.D.Door.link_faults c.args.door.now) in
    let clock = clock_at (g.C.Clock.last c.args.clock.now) (g.C.Clock.coming c.args.clock.now) in
    let before : Sides = sides_of (g.K.Keeper.tells c.args.keeper.now, g.K.Keeper.faults c.args.keeper.now) (door, g.D.Door.door_faults c.args.door.now) clock
    (g.S.Source.left c.args.input.now, g.S.Source.faults c.args.input.now) (g.O.Sink.contents c.args.out.now, g.O.Sink.faults c.args.out.now) in
    let after : Sides = sides_of (g.K.Keeper.tells c.args.keeper.now, g.K.Keeper.faults c.args.keeper.now) (door, g.D.Door.door_faults c.args.door.now) clock
    (g.S.Source.left c.args.input.now, g.S.Source.faults c.args.input.now) (g.O.Sink.contents c.load.new.out, g.O.Sink.faults c.load.new.out) in
    subst (λ (command : Command). Ends (Some (command_view command)) c.load.result.0 before after) (sym c.in-Load.is)
    (load-ends (record { number = c.in-Load.number; households = c.in-Load.households; days = c.in-Load.days }) c.load.result.0 before after
    (record {
      known = c.load.ensures.known;
      whole = c.load.ensures.whole;
      no_fault = c.load.ensures.no_fault;
      front = c.load.ensures.front;
      fault = c.load.ensures.fault;
      no_memory = c.load.ensures.no_memory;
      told = λ first last was is. g.met.K.Keeper.one_content c.args.keeper.now last first is was;
      kept_count = refl;
      left = refl;
      read_count = refl;
      door = (refl, refl, refl);
    }))

pub returns-in-Serve : goal.returns-in-Serve
returns-in-Serve g c =
    let before : Sides = sides_of (g.K.Keeper.tells c.args.keeper.now, g.K.Keeper.faults c.args.keeper.now)
    (door_at (g.D.Door.is_connected c.args.door.now) (g.D.Door.told c.args.door.now) (g.D.Door.link_faults c.args.door.now), g.D.Door.door_faults c.args.door.now)
    (clock_at (g.C.Clock.last c.args.clock.now) (g.C.Clock.coming c.args.clock.now))
    (g.S.Source.left c.args.input.now, g.S.Source.faults c.args.input.now) (g.O.Sink.contents c.args.out.now, g.O.Sink.faults c.args.out.now) in
    let after : Sides = sides_of (g.K.Keeper.tells c.serve.new.keeper, g.K.Keeper.faults c.serve.new.keeper)
    (door_at (g.D.Door.is_connected c.serve.new.door) (g.D.Door.told c.serve.new.door) (g.D.Door.link_faults c.serve.new.door), g.D.Door.door_faults c.serve.new.door)
    (clock_at (g.C.Clock.last c.serve.new.clock) (g.C.Clock.coming c.serve.new.clock))
    (g.S.Source.left c.args.input.now, g.S.Source.faults c.args.input.now) (g.O.Sink.contents c.serve.new.out, g.O.Sink.faults c.serve.new.out) in
    subst (λ (command : Command). Ends (Some (command_view command)) c.serve.result.0 before after) (sym c.in-Serve.is)
    (serve-ends (record { store = c.in-Serve.store.now; port = c.in-Serve.port; key = c.in-Serve.key.now; connections = c.in-Serve.connections }) c.serve.result.0 before after
    (record {
      known = c.serve.ensures.known;
      served = c.serve.ensures.served;
      silent = c.serve.ensures.silent;
      no_write_fault = c.serve.ensures.no_write_fault;
      keeper_fault = c.serve.ensures.keeper_fault;
      failed = c.serve.ensures.failed;
      damaged = c.serve.ensures.damaged;
      not_damaged = c.serve.ensures.not_damaged;
      no_memory = c.serve.ensures.no_memory;
      unopened = λ status. (
        ap (λ door. door_at (g.D.Door.is_connected door) (g.D.Door.told door) (g.D.Door.link_faults door)) (c.serve.ensures.unopened status).0,
        ap g.D.Door.door_faults (c.serve.ensures.unopened status).0,
        ap (λ clock. clock_at (g.C.Clock.last clock) (g.C.Clock.coming clock)) (c.serve.ensures.unopened status).1,
      );
      served_before = c.serve.ensures.served_before;
      door_line = c.serve.ensures.door_line;
      door_fault = c.serve.ensures.door_fault;
      no_door_fault = c.serve.ensures.no_door_fault;
      kept = c.serve.ensures.kept;
      left = refl;
      read_count = refl;
    }))
