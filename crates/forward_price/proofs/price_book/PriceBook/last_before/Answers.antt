-- That `PriceBook::last_before` keeps its contract.
use Rattle.std.proofs.Common.{sym, ◌∙◌, ap}
use Rattle.forward_price.specs.PriceTables.{sheets_on_trial, price_before}
use Rattle.forward_price.proofs.PatchFacts.{before-patched}
use Rattle.forward_price.proofs.price_book.PriceBook.last_before.Goals as goal

pub returns : goal.returns
returns c = c.last_before.ensures ∙ sym (before-patched c.args.patch c.deref.result.now c.args.class _) ∙ ap (λ sheets. price_before (sheets_on_trial c.args.patch sheets) c.args.class c.args.moment) (c.deref.ensures.value ∙ ap (λ b. b.table.sheets) c.self.view_is)
