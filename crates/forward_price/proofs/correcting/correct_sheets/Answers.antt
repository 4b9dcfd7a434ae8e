-- That `correct_sheets` keeps its contract.
use Rattle.std.proofs.Common.{sym, ap, ◌∙◌}
use Rattle.forward_price.specs.PriceTables.{corrected_sheet}
use Rattle.forward_price.proofs.correcting.correct_sheets.Goals as goal
use Rattle.fund_calendar.proofs.ListFacts.{mapped-all, mapped-more}

pub loop-sheet-preserved : goal.loop-sheet-preserved
loop-sheet-preserved c =
    let f = corrected_sheet c.args.class c.args.number c.args.nav in
    mapped-more f c.args.sheets.now c.loop-sheet.sheets c.loop-sheet.sheet-index c.sheet-item.result c.correct_sheet.new.sheet c.loop-sheet-test.true c.loop-sheet.invariant c.sheet-item.is (c.correct_sheet.ensures ∙ ap f (sym c.sheet-item.is))

pub returns : goal.returns
returns c = mapped-all (corrected_sheet c.args.class c.args.number c.args.nav) c.args.sheets.now c.loop-sheet.sheets c.loop-sheet.sheet-index c.loop-sheet-test.false c.loop-sheet.invariant
