-- The proof of the law `texts_are_exact`.
use Rattle.event_rows.proofs.EachField.{flag_field, text_field, name_field, zone_field, household_key_field, dealer_key_field, bearer_field}
use Rattle.event_rows.proofs.field_laws.texts_are_exact.Goals as goal

pub returns : goal.returns
returns c = record {
  flag = flag_field;
  text = text_field;
  name = name_field;
  zone = zone_field;
  household_key = household_key_field;
  dealer_key = dealer_key_field;
  bearer = bearer_field;
}
