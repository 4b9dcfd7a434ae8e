-- That `place_of` keeps its contract.
use Rattle.std.proofs.Common.{sym, ◌∙◌}
use Rattle.holder_statements.proofs.TradesFromSheet.{place-fits, place-is}
use Rattle.holder_statements.proofs.sheet_trades.place_of.Goals as goal

pub returns-then-parts_at-clause-point : goal.returns-then-parts_at-clause-point
returns-then-parts_at-clause-point c =
    place-is c.args.sheet c.args.trades.now c.likely_place-likely.result c.requires (sym c.parts_at.ensures ∙ c.if-parts_at.true)

pub returns-then-parts_at-clause-bound : goal.returns-then-parts_at-clause-bound
returns-then-parts_at-clause-bound c =
    place-fits c.args.sheet c.args.trades.now c.likely_place-likely.result (sym c.parts_at.ensures ∙ c.if-parts_at.true)
