-- The proof of the law `fixed_prices_have_a_patch`.
use Rattle.reference_tables.proofs.PricedSheets.{is-listed, listed-patch}
use Rattle.reference_tables.proofs.table_laws.fixed_prices_have_a_patch.Goals as goal

pub returns : goal.returns
returns c journal event form lawful is = listed-patch journal form (is-listed journal event lawful form is)
