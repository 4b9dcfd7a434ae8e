-- A command as contracts see it, without where its texts lie in memory.
use Rattle.agent_run.specs.Commands.{Command, apply, load, serve}
use Rattle.agent_run.specs.declared.command.Command.{Command as CommandHere}
use Rattle.agent_run.specs.declared.command.Command.TheVariants as here

abbrev pub command_view : CommandHere → Command
command_view (here.Apply store key) = apply (record { store = store.now; key = key.now })
command_view (here.Load number households days) =
    load (record { number = number; households = households; days = days })
command_view (here.Serve store port key connections) =
    serve (record { store = store.now; port = port; key = key.now; connections = connections })
