-- That `values_in` keeps its contract.
use Rattle.std.proofs.Common.{◌≡◌, ◌∙◌, sym, true, map}
use Rattle.std.specs.List.{list_all}
use Rattle.std.specs.String.{string_bytes}
use Rattle.clap.specs.Words.{app_of}
use Rattle.agent_run.specs.Parser.{is_word}
use Rattle.agent_run.proofs.ClapLaws.{failed, no_values, none_of, passed}
use Rattle.agent_run.proofs.options.values_in.Goals as goal

pub returns-then-not-are_words : goal.returns-then-not-are_words
returns-then-not-are_words c =
    sym (no_values (map (λ option. option.now) c.args.options.now) (map string_bytes c.args.words.now) (sym c.if-not-are_words.ensures))

pub returns-in-Ok : goal.returns-in-Ok
returns-in-Ok c =
    let words = map string_bytes c.args.words.now in
    let ok : list_all is_word words ≡ true = sym c.are_words.ensures ∙ c.if-not-are_words.false in
    passed c.args.name.now _ words (app_of c.in_ok-command.command) c.in_ok-command.ensures ok c.in-Ok.given c.in-Ok.ensures.kinds c.in-Ok.ensures.matches

pub returns-in-Err : goal.returns-in-Err
returns-in-Err c =
    let words = map string_bytes c.args.words.now in
    let ok : list_all is_word words ≡ true = sym c.are_words.ensures ∙ c.if-not-are_words.false in
    none_of c.without.result _ (c.kind.result) c.without.ensures.none c.without.ensures.refused
    (failed c.args.name.now _ words (app_of c.in_ok-command.command) c.in_ok-command.ensures ok c.kind.result
    (λ free. rw c.kind.ensures (c.in-Err.ensures.kinds free)))
