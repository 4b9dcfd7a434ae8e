-- The worked rows of `printing_examples`, reckoned.
use Rattle.std.proofs.Common.{refl}
use Rattle.csv.specs.Writing.{escaped, fields_text, is_blank}
use Rattle.script_text.proofs.worked.printing_examples.Goals as goal

pub returns : goal.returns
unfolding escaped fields_text is_blank
returns c = record {
  reply = refl;
  empty_field = refl;
  one_empty_field = refl;
  quotes = refl;
}
