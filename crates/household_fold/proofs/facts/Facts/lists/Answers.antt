-- That `Facts::lists` keeps its contract.
use Rattle.std.proofs.Common.{ap, ◌∙◌}
use Rattle.forward_price.specs.Sheets.{lists_class}
use Rattle.household_fold.proofs.SheetFacts.{lists_at_hand}
use Rattle.household_fold.proofs.facts.Facts.lists.Goals as goal

pub returns : goal.returns
returns c =
    c.lists_class.ensures ∙ ap (λ prices. lists_class prices c.args.class) c.as_slice.ensures
    ∙ lists_at_hand c.args.self.now c.published.result.now c.args.class c.published.ensures
