-- The command that is handed to clap: options that take one value each, none of which may be left out.
use Rattle.std.specs.Prelude.{Bool, true, not, ◌||◌, List, map, Some}
use Rattle.clap.specs.Words.{App, Rule, new_app, new_rule}
use Rattle.clap.specs.Simple.{on_top}
use Rattle.clap.specs.declared.builder.action.ArgAction.TheVariants.{Set}
use Rattle.agent_run.specs.Options.{Text, is_dashed, is_option}

-- a word that clap reads as the rule does: what begins with `-` is an option
abbrev pub is_word : Text → Bool
is_word word = not (is_dashed word) || is_option word

abbrev pub option_rule : Text → Rule
option_rule name = record (new_rule name) { long = Some name; required = true; action = Some Set }

abbrev pub app_with : Text → List Text → App
app_with name names = on_top (λ top. record top {
  no_binary_name = true;
  disable_help_flag = true;
  disable_version_flag = true;
  rules = map option_rule names;
}) (new_app name)
