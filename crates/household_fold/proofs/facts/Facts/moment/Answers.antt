-- That `Facts::moment` keeps its contract.
use Rattle.std.proofs.Common.{refl}
use Rattle.household_fold.proofs.SheetFacts.{read_at_hand}
use Rattle.household_fold.proofs.facts.Facts.moment.Goals as goal

pub returns : goal.returns
returns c =
    read_at_hand (λ s. s.moment) (λ s prices. refl) c.args.self.now c.published.result.now c.published.ensures
