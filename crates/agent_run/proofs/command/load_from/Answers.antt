-- That `load_from` keeps its contract.
use Rattle.std.proofs.Common.{rules, ◌≡◌, ◌∙◌, ap, map}
use Rattle.std.specs.String.{string_bytes}
use Rattle.agent_run.specs.Commands.{load_of, load_options}
use Rattle.agent_run.specs.Options.{values_of}
use Rattle.agent_run.proofs.ClapLaws.{built_from, not_built}
use Rattle.agent_run.proofs.command.load_from.Goals as goal

pub returns-in-Some : goal.returns-in-Some
returns-in-Some c =
    let options : map (λ option. option.now) c.as_slice.result.now ≡ load_options = search rules in
    built_from load_of c.in_ok-given.field-0 c.in-Some.given _ _ c.in-Some.is
    (c.in_ok-given.ensures ∙ ap (λ names. values_of names (map string_bytes c.args.words.now)) options) c.load_of.ensures

pub returns-in-None : goal.returns-in-None
returns-in-None c =
    let options : map (λ option. option.now) c.as_slice.result.now ≡ load_options = search rules in
    not_built load_of c.in_ok-given.field-0 _ c.in-None.is
    (c.in_ok-given.ensures ∙ ap (λ names. values_of names (map string_bytes c.args.words.now)) options)
