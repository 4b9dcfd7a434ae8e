-- The proof of the law `prices_are_of_one_sheet`.
use Rattle.ledger_laws.proofs.fact_laws.prices_are_of_one_sheet.Goals as goal
use Rattle.register_laws.proofs.FixesOnePrice.{fixes-it-alone}

pub returns : goal.returns
returns c journal form number lawful priced = record {
  listed = priced;
  table = fixes-it-alone journal form number lawful priced;
}
