-- The proof of the law `printed_cents_read_back`.
use Rattle.money_units.proofs.NumeralFacts.{money-money_text}
use Rattle.money_units.proofs.laws.printed_cents_read_back.Goals as goal

pub returns : goal.returns
returns c = money-money_text c.args.cents c.requires
