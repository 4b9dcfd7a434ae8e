-- That `bracket` keeps its contract.
use Rattle.offering_price.proofs.RateFacts.{bracket-ceiling}
use Rattle.offering_price.proofs.accumulation.bracket.Goals as goal

pub returns-clause-ceiling : goal.returns-clause-ceiling
returns-clause-ceiling c =
    rw (c.rate_of.ensures, c.as_slice.ensures, c.front.ensures.value)
    (bracket-ceiling c.args.terms.now.front c.args.amount c.front.ensures.lawful)
