-- The proof of the law `each_day_has_its_pricing_moment`.
use Rattle.load_requests.proofs.PricingFacts.{day_is_listed, days_apart}
use Rattle.load_requests.proofs.laws.each_day_has_its_pricing_moment.Goals as goal

pub returns-clause-listed : goal.returns-clause-listed
returns-clause-listed c = λ day some short. day_is_listed day some short

pub returns-clause-apart : goal.returns-clause-apart
returns-clause-apart c = λ day short. days_apart day short
