-- The proof of the law `printed_mils_read_back`.
use Rattle.money_units.proofs.NumeralFacts.{shares-shares_text}
use Rattle.money_units.proofs.laws.printed_mils_read_back.Goals as goal

pub returns : goal.returns
returns c = shares-shares_text c.args.mils c.requires
