-- That `latest_nav` keeps its contract.
use Rattle.std.proofs.Common.{None, Option, Some, ap, sym, unwrap_or, ℕ, ◌∙◌, ◌≡◌}
use Rattle.forward_price.specs.Sheets.{lists_class}
use Rattle.forward_price.specs.declared.price_sheet.Sheet.{Sheet}
use Rattle.gain_loss_book.proofs.LatestNav.{nav-by_number, nav-on_none}
use Rattle.register_machine.specs.journal.Choices.{last_of}
use Rattle.gain_loss_book.proofs.latest_price.latest_nav.Goals as goal

pub returns-in_default-clause-nav : goal.returns-in_default-clause-nav
returns-in_default-clause-nav c =
    let found : last_of (λ sheet. lists_class sheet.prices c.args.class) c.args.prices.now.table.sheets ≡ None =
    sym (c.in_default.ensures ∙ ap (last_of (λ (sheet : Sheet). lists_class sheet.prices c.args.class)) c.sheets.ensures.sheets) in
    sym (nav-on_none c.args.patch c.args.prices.now.table.sheets c.args.class found)

pub returns-in-Some-price-clause-nav : goal.returns-in-Some-price-clause-nav
returns-in-Some-price-clause-nav c =
    let found : last_of (λ sheet. lists_class sheet.prices c.args.class) c.args.prices.now.table.sheets ≡ Some c.in-Some.sheet.now =
    sym (c.in-Some.ensures ∙ ap (last_of (λ (sheet : Sheet). lists_class sheet.prices c.args.class)) c.sheets.ensures.sheets) in
    c.cents.ensures.value
    ∙ (ap (λ (o : Option ℕ). unwrap_or o 0) c.in-Some-price.ensures
    ∙ sym (nav-by_number c.args.patch c.args.prices.now.table.sheets c.args.class c.sheets.ensures.numbered c.in-Some.sheet.now found))

pub returns-in-None-clause-nav : goal.returns-in-None-clause-nav
returns-in-None-clause-nav c =
    let found : last_of (λ sheet. lists_class sheet.prices c.args.class) c.args.prices.now.table.sheets ≡ Some c.in-Some.sheet.now =
    sym (c.in-Some.ensures ∙ ap (last_of (λ (sheet : Sheet). lists_class sheet.prices c.args.class)) c.sheets.ensures.sheets) in
    ap (λ (o : Option ℕ). unwrap_or o 0) c.in-None.ensures
    ∙ sym (nav-by_number c.args.patch c.args.prices.now.table.sheets c.args.class c.sheets.ensures.numbered c.in-Some.sheet.now found)
