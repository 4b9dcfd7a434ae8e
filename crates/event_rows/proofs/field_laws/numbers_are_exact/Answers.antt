-- The proof of the law `numbers_are_exact`.
use Rattle.event_rows.proofs.EachField.{identifier_field, identifier_or_none_field, reference_field, moment_field, day_field, amount_field, minimum_field, nav_field, quantity_field, dividend_rate_field, corrected_rate_field, time_of_day_field, window_field, rate_field, sixteen_field}
use Rattle.event_rows.proofs.field_laws.numbers_are_exact.Goals as goal

pub returns : goal.returns
returns c = record {
  identifier = identifier_field;
  identifier_or_none = identifier_or_none_field;
  reference = reference_field;
  moment = moment_field;
  day = day_field;
  amount = amount_field;
  minimum = minimum_field;
  nav = nav_field;
  quantity = quantity_field;
  dividend_rate = dividend_rate_field;
  corrected_rate = corrected_rate_field;
  time_of_day = time_of_day_field;
  window = window_field;
  rate = rate_field;
  sixteen = sixteen_field;
}
