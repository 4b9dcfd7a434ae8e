-- The worked rows of `reading_examples`, reckoned.
use Rattle.std.proofs.Common.{refl}
use Rattle.csv.specs.Machine.{next_record}
use Rattle.csv.specs.Reading.{records_from, strip_bom}
use Rattle.script_text.proofs.worked.reading_examples.Goals as goal

pub returns : goal.returns
unfolding next_record records_from strip_bom
returns c = record {
  items = refl;
  nothing = refl;
  lines_without_fields = refl;
  ends_of_lines = refl;
  byte_order_mark = refl;
  quotes = refl;
  quote_left_open = refl;
}
