-- That `run` keeps its contract.
use Rattle.std.proofs.Common.{ap, map, refl, sym, ◌∙◌}
use Rattle.std.specs.Prelude.{option_map}
use Rattle.std.specs.String.{string_bytes}
use Rattle.agent_run.proofs.CommandBounds.{found-in-range}
use Rattle.agent_run.proofs.EndsOfLoads.{ends-at-once}
use Rattle.agent_run.specs.Ends.{Sides, sides_of}
use Rattle.agent_run.specs.Commands.{command_of}
use Rattle.agent_run.specs.Views.{command_view}
use Rattle.connection_service.specs.Answers.{clock_at}
use Rattle.connection_service.specs.InTurn.{door_at}
use Rattle.agent_run.proofs.commands.run.Goals as goal

pub do_command-requires : goal.do_command-requires
do_command-requires g c =
    found-in-range c.in-Some.command (map string_bytes c.args.words.now)
    (sym (ap (option_map command_view) (c.in-Some.is)) ∙ c.in-Ok.ensures)

pub returns-in-Err : goal.returns-in-Err
returns-in-Err g c =
    let door = door_at (g.D.Door.is_connected c.args.door.now) (g.D.Door.told c.args.door.now) (g.D.Door.link_faults c.args.door.now) in
    let clock = clock_at (g.C.Clock.last c.args.clock.now) (g.C.Clock.coming c.args.clock.now) in
    let before : Sides = sides_of (g.K.Keeper.tells c.args.keeper.now, g.K.Keeper.faults c.args.keeper.now) (door, g.D.Door.door_faults c.args.door.now) clock
    (g.S.Source.left c.args.input.now, g.S.Source.faults c.args.input.now) (g.O.Sink.contents c.args.out.now, g.O.Sink.faults c.args.out.now) in
    let after : Sides = sides_of (g.K.Keeper.tells c.args.keeper.now, g.K.Keeper.faults c.args.keeper.now) (door, g.D.Door.door_faults c.args.door.now) clock
    (g.S.Source.left c.args.input.now, g.S.Source.faults c.args.input.now) (g.O.Sink.contents c.no_memory.new.out, g.O.Sink.faults c.no_memory.new.out) in
    record {
      ends = ends-at-once (command_of (map string_bytes c.args.words.now)) c.no_memory.result.0 before after
          (record {
            status_is = c.no_memory.ensures.status;
            line = c.no_memory.ensures.line;
            told = λ first last was is. g.met.K.Keeper.one_content c.args.keeper.now last first is was;
            kept_count = refl;
            left = refl;
            read_count = refl;
            door = (refl, refl, refl);
          });
    }
