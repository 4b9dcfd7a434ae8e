-- That `push_holders` keeps its contract.
use Rattle.std.proofs.Common.{Option, ap, arith, unwrap_or}
use Rattle.std.proofs.lemmas.Map.Iter.{hash_map_turn}
use Rattle.std.specs.Cmp.{nat_eq_equiv}
use Rattle.std.specs.Map.Iter.{deref_pair}
use Rattle.gain_loss_book.proofs.PostedFacts.{flow-in, flow-out}
use Rattle.gain_loss_book.specs.Flows.{no_flow}
use Rattle.gain_loss_book.specs.declared.flows.Flow.{Flow}
use Rattle.gain_loss_book.proofs.change_rows.push_holders.Goals as goal

pub push_cash-requires-clause-inflow : goal.push_cash-requires-clause-inflow
push_cash-requires-clause-inflow c =
    let gives = c.into_iter-account-iterator.ensures.into_iter_gives in
    let turn = hash_map_turn deref_pair c.loop-account.yielded c.into_iter-account-iterator.result c.loop-account.account-iterator c.next.new.self c.next.result (c.in-Some.account, c.in-Some.flow) c.loop-account.yielded_by c.in-Some.is c.next.ensures.steps nat_eq_equiv c.args.holders.now gives.0 gives.4 in
    omega (arith, flow-in _ _ (ap (λ (o : Option Flow). unwrap_or o no_flow) turn.1), c.requires.inflow c.in-Some.account.now)

pub push_cash-requires-clause-outflow : goal.push_cash-requires-clause-outflow
push_cash-requires-clause-outflow c =
    let gives = c.into_iter-account-iterator.ensures.into_iter_gives in
    let turn = hash_map_turn deref_pair c.loop-account.yielded c.into_iter-account-iterator.result c.loop-account.account-iterator c.next.new.self c.next.result (c.in-Some.account, c.in-Some.flow) c.loop-account.yielded_by c.in-Some.is c.next.ensures.steps nat_eq_equiv c.args.holders.now gives.0 gives.4 in
    omega (arith, flow-out _ _ (ap (λ (o : Option Flow). unwrap_or o no_flow) turn.1), c.requires.outflow c.in-Some.account.now)

pub returns-clause-once : goal.returns-clause-once
returns-clause-once c = c.into_iter-account-iterator.ensures.into_iter_gives.4
