-- The words so far stand, so all stand where the rest do.
use Rattle.std.proofs.Common.{◌≡◌, map, drop}
use Rattle.std.specs.List.{list_all}
use Rattle.std.specs.String.{string_bytes}
use Rattle.agent_run.specs.Parser.{is_word}
use Rattle.agent_run.proofs.options.are_words.Given as goal

abbrev pub invariant-loop-word : goal.invariant-loop-word
invariant-loop-word l =
    list_all is_word (map string_bytes l.words) ≡ list_all is_word (map string_bytes (drop l.word-index l.words))
