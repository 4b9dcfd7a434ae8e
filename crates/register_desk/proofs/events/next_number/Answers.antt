-- That `next_number` keeps its contract.
use Rattle.std.proofs.Common.{List, ap, arith, length, ◌∙◌}
use Rattle.holder_statements.proofs.SheetNumbers.{counts_its_sheets}
use Rattle.register_desk.proofs.EventsAnswered.{few_sheets}
use Rattle.forward_price.specs.PriceTables.{Table}
use Rattle.forward_price.specs.declared.price_sheet.Sheet.{Sheet}
use Rattle.register_desk.proofs.events.next_number.Goals as goal

pub overflow_cast-result : goal.overflow_cast-result
overflow_cast-result c =
    let journal = c.args.books.now.book.journal in
    let counted = ap (λ (sheets : List Sheet). length sheets) (c.sheets.ensures.sheets ∙ ap (λ (t : Table). t.sheets) c.requires.books.prices) in
    omega (arith, counted, few_sheets journal c.requires.books.lawful)

pub overflow_add-result : goal.overflow_add-result
overflow_add-result c =
    let journal = c.args.books.now.book.journal in
    let counted = ap (λ (sheets : List Sheet). length sheets) (c.sheets.ensures.sheets ∙ ap (λ (t : Table). t.sheets) c.requires.books.prices) in
    omega (arith, counted, few_sheets journal c.requires.books.lawful)

pub returns : goal.returns
returns c =
    let journal = c.args.books.now.book.journal in
    let counted = ap (λ (sheets : List Sheet). length sheets) (c.sheets.ensures.sheets ∙ ap (λ (t : Table). t.sheets) c.requires.books.prices) in
    omega (arith, counted, counts_its_sheets journal)
