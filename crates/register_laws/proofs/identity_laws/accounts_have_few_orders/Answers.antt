-- The proof of the law `accounts_have_few_orders`.
use Rattle.register_laws.proofs.KeepsLimits.{limits-kept}
use Rattle.register_laws.proofs.identity_laws.accounts_have_few_orders.Goals as goal

pub returns : goal.returns
returns c journal lawful = (limits-kept journal lawful).0.orders
