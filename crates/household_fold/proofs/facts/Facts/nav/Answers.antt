-- That `Facts::nav` keeps its contract.
use Rattle.std.proofs.Common.{ap, is_some, sym, ◌∙◌}
use Rattle.std.proofs.lemmas.Bool.{false≢true}
use Rattle.forward_price.specs.PriceTables.{price_on}
use Rattle.household_fold.specs.Facts.{sheet_at_hand, sheets_known}
use Rattle.household_fold.proofs.SheetFacts.{listed_price, price_at_hand}
use Rattle.household_fold.proofs.facts.Facts.nav.Goals as goal

pub unreachable-requires : goal.unreachable-requires
unreachable-requires c =
    let known = c.args.self.now in
    false≢true (ap is_some
    (sym c.in-None.is ∙ c.price.ensures ∙ ap (λ k. price_on (sheets_known k) k.sheet c.args.class) c.self.view_is
    ∙ price_at_hand known c.args.class c.requires.facts)
    ∙ listed_price (sheet_at_hand known).prices c.args.class c.requires.listed)
