-- That `add_holdings` keeps its contract.
use Rattle.std.proofs.Common.{List, ap, ℕ, ◌++◌, ◌∙◌}
use Rattle.std.specs.List.{flat_map}
use Rattle.class_terms.specs.declared.form.TermsForm.{TermsForm}
use Rattle.forward_price.specs.declared.price_sheet.Sheet.{Sheet}
use Rattle.holder_statements.specs.Holdings.{holding_in, line_of_class}
use Rattle.holder_statements.proofs.HoldingFacts.{lines_of_holdings}
use Rattle.holder_statements.proofs.holdings.add_holdings.Goals as goal

pub returns : goal.returns
returns c =
    let account = c.args.account in
    let register = c.args.state.now.register in
    let out = c.args.out.now.items in
    c.in_ok-add_classes.ensures
    ∙ (ap (λ (sheets : List Sheet). out ++ flat_map (λ (row : TermsForm). line_of_class sheets row (holding_in register account row.class)) c.as_slice.result.now) c.sheets.ensures.sheets
    ∙ (ap (λ (terms : List TermsForm). out ++ flat_map (λ (row : TermsForm). line_of_class c.args.prices.now.table.sheets row (holding_in register account row.class)) terms) c.as_slice.ensures
    ∙ ap (λ (lines : List ℕ). out ++ lines) (lines_of_holdings c.args.prices.now.table c.args.terms.now account register c.requires)))
