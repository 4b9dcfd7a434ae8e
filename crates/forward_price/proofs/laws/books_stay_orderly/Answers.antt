-- The proof of the law `books_stay_orderly`.
use Rattle.forward_price.proofs.OrderFacts.{orderly_at_first, orderly_calendar, orderly_class, orderly_closure, orderly_sheet, orderly_withdrawal, orderly_correction}
use Rattle.forward_price.proofs.laws.books_stay_orderly.Goals as goal

pub returns-clause-empty : goal.returns-clause-empty
returns-clause-empty c = orderly_at_first

pub returns-clause-calendar : goal.returns-clause-calendar
returns-clause-calendar c = orderly_calendar

pub returns-clause-class : goal.returns-clause-class
returns-clause-class c = orderly_class

pub returns-clause-closure : goal.returns-clause-closure
returns-clause-closure c = orderly_closure

pub returns-clause-sheet : goal.returns-clause-sheet
returns-clause-sheet c = orderly_sheet

pub returns-clause-withdrawal : goal.returns-clause-withdrawal
returns-clause-withdrawal c = orderly_withdrawal

pub returns-clause-correction : goal.returns-clause-correction
returns-clause-correction c = orderly_correction
