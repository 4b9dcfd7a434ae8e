-- The proof of the law `lawful_events_change_prices`.
use Rattle.std.proofs.Common.{refl, sym}
use Rattle.reference_tables.proofs.LawfulChanges.{fits-by, good-by}
use Rattle.reference_tables.proofs.price_laws.lawful_events_change_prices.Goals as goal
use Rattle.register_laws.proofs.PricesAnew.{prices_anew}

pub returns : goal.returns
returns c journal event all = record {
  good = good-by journal event all event.kind refl;
  fits = fits-by journal event all event.kind refl;
  leaves = sym (prices_anew journal event all).table;
}
