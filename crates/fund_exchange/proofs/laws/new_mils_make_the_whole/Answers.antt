-- The proof of the law `new_mils_make_the_whole`.
use Rattle.std.proofs.Common.{sym, ◌∙◌}
use Rattle.fund_exchange.specs.Exchange.{renewed_all}
use Rattle.fund_exchange.proofs.ExchangeFacts.{mils-filter, carried-whole}
use Rattle.fund_exchange.proofs.laws.new_mils_make_the_whole.Goals as goal

pub returns-clause-all : goal.returns-clause-all
returns-clause-all c =
    sym (mils-filter (renewed_all c.args.from c.args.to c.args.pieces.now)) ∙ carried-whole c.args.from c.args.to c.args.pieces.now c.requires

pub returns-clause-carried : goal.returns-clause-carried
returns-clause-carried c = carried-whole c.args.from c.args.to c.args.pieces.now c.requires
