-- That `published_prices` keeps its contract.
use Rattle.household_fold.proofs.ListedFacts.{all-listed, prices-at_hand}
use Rattle.household_fold.proofs.listed_prices.published_prices.Goals as goal

pub returns-clause-prices : goal.returns-clause-prices
returns-clause-prices c = rw c.as_slice.ensures (prices-at_hand c.args.facts.now c.published.result.now c.published.ensures)

pub returns-clause-listed : goal.returns-clause-listed
returns-clause-listed c = rw c.as_slice.ensures (all-listed c.args.facts.now c.published.result.now c.published.ensures)
