-- The worked rows of `rows_of_kinds`, reckoned.
use Rattle.std.proofs.Common.{refl}
use Rattle.event_rows.specs.Spelling.{two_bytes, four_bytes, eight_bytes, flag, text, list_bytes, bearer}
use Rattle.event_rows.specs.Rows.{body, calendar, close, class_loads, class, dealer, household, account, accepted_order, cancel, sheet, dividend, fix_price, fix_rate, entry, void, event_row}
use Rattle.event_rows.proofs.worked.rows_of_kinds.Goals as goal

pub returns : goal.returns
unfolding two_bytes four_bytes eight_bytes flag text list_bytes bearer body calendar close class_loads class dealer household account accepted_order cancel sheet dividend fix_price fix_rate entry void event_row
returns c = record {
  calendar = refl;
  close = refl;
  class = refl;
  dealer = refl;
  household = refl;
  account = refl;
  cancel = refl;
  sheet = refl;
  dividend = refl;
  fix_price = refl;
  fix_rate = refl;
  enter = refl;
  replace = refl;
  void = refl;
}
