-- That `Chains::push` keeps its contract.
use Rattle.std.proofs.Common.{ap, length}
use Rattle.standing_orders.proofs.OwnerChains.{chains-pushed}
use Rattle.standing_orders.proofs.chains.Chains.push.Goals as goal

pub returns-clause-kept : goal.returns-clause-kept
returns-clause-kept c = λ owners kept.
    chains-pushed c.args.self.now (record { owners = c.push_within-2.new.items; last = c.put_last-before.new.last; earlier = c.push_within.new.items })
    owners c.args.household (length c.as_slice-place.result.now) c.put_last-before.result (ap length c.as_slice-place.ensures.value) kept c.put_last-before.ensures.before
    c.put_last-before.ensures.places c.push_within.ensures.items c.push_within-2.ensures.items
