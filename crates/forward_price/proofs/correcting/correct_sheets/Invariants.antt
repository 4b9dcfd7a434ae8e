-- What holds at each turn of the loops of `correct_sheets`.
use Rattle.std.proofs.Common.{◌≡◌, ◌++◌, map, take, drop}
use Rattle.forward_price.specs.PriceTables.{corrected_sheet}
use Rattle.forward_price.proofs.correcting.correct_sheets.Given as goal

abbrev pub invariant-loop-sheet : goal.invariant-loop-sheet
invariant-loop-sheet l =
    l.sheets ≡ map (corrected_sheet l.class l.number l.nav) (take l.sheet-index l.initial.sheets) ++ drop l.sheet-index l.initial.sheets
