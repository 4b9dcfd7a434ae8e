-- That `class_numbers` keeps its contract.
use Rattle.std.proofs.Common.{List, ap, filter_map, ◌∙◌}
use Rattle.class_terms.specs.declared.form.TermsForm.{TermsForm}
use Rattle.register_desk.proofs.ClassNumbers.{classes_gathered}
use Rattle.register_desk.specs.GatheredNumbers.{class_number}
use Rattle.order_book.specs.Books.{NotedJournal}
use Rattle.register_desk.proofs.balances.class_numbers.Goals as goal

pub returns : goal.returns
returns c =
    let books = c.args.books.now in
    c.in_ok-numbers.ensures
    ∙ (ap (λ (noted : NotedJournal). filter_map (class_number noted.journal) c.as_slice.result.now) c.orders.ensures
    ∙ (ap (λ (terms : List TermsForm). filter_map (class_number books.book.journal) terms) (c.as_slice.ensures ∙ c.terms.ensures.value)
    ∙ classes_gathered books.book.journal books.tables c.requires.books.tables))
