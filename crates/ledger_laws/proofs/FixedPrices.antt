-- A corrected price is that of one sheet, before it is known whether the correction is lawful.
use Rattle.std.proofs.Common.{ℕ}
use Rattle.agent_events.specs.declared.request.FixPriceForm.{FixPriceForm}
use Rattle.ledger_laws.specs.TableFacts.{LawfulPriceIsOfOneSheet}
use Rattle.register_laws.proofs.FixesOnePrice.{fixes-it-alone}
use Rattle.register_machine.specs.journal.Journals.{Journal}

pub price_of_one_sheet : (journal : Journal) (form : FixPriceForm) (number : ℕ) → LawfulPriceIsOfOneSheet journal form number
price_of_one_sheet journal form number lawful priced = record {
  listed = priced;
  table = fixes-it-alone journal form number lawful priced;
}
