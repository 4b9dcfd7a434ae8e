-- That `PriceBook::expected` keeps its contract.
use Rattle.std.proofs.Common.{◌≡◌, ◌∙◌, ap}
use Rattle.forward_price.specs.Turns.{expected_in, expected_of}
use Rattle.forward_price.proofs.TurnFacts.{if_expected, if_none_expected}
use Rattle.forward_price.proofs.price_book.PriceBook.expected.Goals as goal

is : (c : goal.After-expected) → c.expected.result ≡ expected_of c.args.self.now.table
is c =
    c.expected.ensures
    ∙ ap (λ calendars. expected_in calendars c.deref-2.result.now c.deref-3.result.now) (c.deref.ensures.value ∙ ap (λ b. b.table.calendars) c.self.view_is)
    ∙ ap (λ classes. expected_in c.args.self.now.table.calendars classes c.deref-3.result.now) (c.deref-2.ensures.value ∙ ap (λ b. b.table.classes) c.self.view_is)
    ∙ ap (λ sheets. expected_in c.args.self.now.table.calendars c.args.self.now.table.classes sheets) (c.deref-3.ensures.value ∙ ap (λ b. b.table.sheets) c.self.view_is)

pub returns-clause-least : goal.returns-clause-least
returns-clause-least c = if_expected c.args.self.now.table c.expected.result (is c)

pub returns-clause-none : goal.returns-clause-none
returns-clause-none c = if_none_expected c.args.self.now.table c.expected.result (is c)
