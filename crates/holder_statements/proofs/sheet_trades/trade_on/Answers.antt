-- That `trade_on` keeps its contract.
use Rattle.std.proofs.Common.{ap, find, ◌∙◌}
use Rattle.holder_statements.proofs.TradesFromSheet.{found-from}
use Rattle.register_machine.specs.rules.Breaks.{is_trade_of}
use Rattle.holder_statements.proofs.sheet_trades.trade_on.Goals as goal

pub returns : goal.returns
returns c =
    c.first_of.ensures
    ∙ (ap (find (is_trade_of c.args.account c.args.ref_no)) c.trades_from.ensures
    ∙ found-from c.args.sheet c.args.account c.args.ref_no c.args.trades.now c.place_of-place.result c.place_of-place.ensures.point c.requires.sheet)
