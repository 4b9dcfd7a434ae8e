-- That `Facts::last_price` keeps its contract.
use Rattle.std.proofs.Common.{ap, ◌∙◌}
use Rattle.forward_price.specs.PriceTables.{sheets_on_trial, price_before}
use Rattle.household_fold.specs.Facts.{sheet_at_hand, sheets_known}
use Rattle.household_fold.proofs.facts.Facts.last_price.Goals as goal

pub returns : goal.returns
returns c =
    c.last_before.ensures
    ∙ ap (λ moment. price_before (sheets_on_trial c.self.inside.patch c.self.inside.prices.now.table.sheets) c.args.class moment) c.moment.ensures
    ∙ ap (λ known. price_before (sheets_known known) c.args.class (sheet_at_hand c.args.self.now).moment) c.self.view_is
