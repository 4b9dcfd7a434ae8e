-- That `orders_stand_sheet_by_sheet` keeps its contract.
use Rattle.ledger_laws.specs.PartsByFacts.{orders_of_part}
use Rattle.ledger_laws.proofs.replay_parts.orders_stand_sheet_by_sheet.Goals as goal
use Rattle.ledger_laws.proofs.SheetBySheet.{found-under, numbers-rise}

pub returns : goal.returns
returns c book household are = record {
  are = record { on_sheet = λ place d short. found-under (orders_of_part book household) 1 book.table.sheets are.each place d short };
  rise = numbers-rise (orders_of_part book household) 1 book.table.sheets are.each;
}
