-- The proof of the law `printed_number_reads_back`.
use Rattle.money_units.proofs.NumeralFacts.{number-number_text}
use Rattle.money_units.proofs.laws.printed_number_reads_back.Goals as goal

pub returns : goal.returns
returns c = number-number_text c.args.value c.requires
