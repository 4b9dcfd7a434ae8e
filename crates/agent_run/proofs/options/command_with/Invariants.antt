-- The command has the options so far.
use Rattle.std.proofs.Common.{◌≡◌, map, take}
use Rattle.clap.specs.Words.{app_of}
use Rattle.agent_run.specs.Parser.{app_with}
use Rattle.agent_run.proofs.options.command_with.Given as goal

abbrev pub invariant-loop-option : goal.invariant-loop-option
invariant-loop-option l = app_of l.command ≡ app_with l.name (map (λ option. option.now) (take l.option-index l.options))
