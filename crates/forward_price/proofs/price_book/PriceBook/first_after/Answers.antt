-- That `PriceBook::first_after` keeps its contract.
use Rattle.std.proofs.Common.{◌≡◌, Some, None, option_map, refl, sym, ◌∙◌, ap}
use Rattle.forward_price.specs.PriceTables.{next_sheet}
use Rattle.forward_price.proofs.PricingFacts.{next_sheet-next, next_sheet-pending}
use Rattle.forward_price.proofs.price_book.PriceBook.first_after.Goals as goal

found : (c : goal.In-Some) → next_sheet c.args.self.now.table.sheets c.args.classes.now c.args.receipt ≡ Some c.in-Some.sheet.now
found c =
    let sheets_are : c.deref.result.now ≡ c.args.self.now.table.sheets = c.deref.ensures.value ∙ ap (λ b. b.table.sheets) c.self.view_is in
    ap (λ sheets. next_sheet sheets c.args.classes.now c.args.receipt) (sym sheets_are)
    ∙ sym c.in-Some.ensures

none : (c : goal.In-None) → next_sheet c.args.self.now.table.sheets c.args.classes.now c.args.receipt ≡ None
none c =
    let sheets_are : c.deref.result.now ≡ c.args.self.now.table.sheets = c.deref.ensures.value ∙ ap (λ b. b.table.sheets) c.self.view_is in
    ap (λ sheets. next_sheet sheets c.args.classes.now c.args.receipt) (sym sheets_are)
    ∙ sym c.in-None.ensures

pub returns-in-Some-clause-computed : goal.returns-in-Some-clause-computed
returns-in-Some-clause-computed c = ap (option_map (λ sheet. sheet.number)) (sym (found c))

pub returns-in-Some-clause-next : goal.returns-in-Some-clause-next
returns-in-Some-clause-next c =
    (c.in-Some.sheet.now, refl, next_sheet-next c.args.self.now.table.sheets c.args.classes.now c.args.receipt c.in-Some.sheet.now (found c))

pub returns-in-None-clause-computed : goal.returns-in-None-clause-computed
returns-in-None-clause-computed c = ap (option_map (λ sheet. sheet.number)) (sym (none c))

pub returns-in-None-clause-pending : goal.returns-in-None-clause-pending
returns-in-None-clause-pending c =
    next_sheet-pending c.args.self.now.table.sheets c.args.classes.now c.args.receipt (none c)
