-- That `PriceBook::price` keeps its contract.
use Rattle.std.proofs.Common.{sym, ◌∙◌, ap}
use Rattle.forward_price.specs.PriceTables.{sheets_on_trial, price_on}
use Rattle.forward_price.proofs.PatchFacts.{price-patched}
use Rattle.forward_price.proofs.price_book.PriceBook.price.Goals as goal

pub returns : goal.returns
returns c = c.price.ensures ∙ sym (price-patched c.args.patch c.deref.result.now c.args.sheet c.args.class) ∙ ap (λ sheets. price_on (sheets_on_trial c.args.patch sheets) c.args.sheet c.args.class) (c.deref.ensures.value ∙ ap (λ b. b.table.sheets) c.self.view_is)
