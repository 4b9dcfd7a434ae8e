-- That `Chains::reserve` keeps its contract.
use Rattle.std.proofs.Common.{◌∙◌}
use Rattle.standing_orders.proofs.chains.Chains.reserve.Goals as goal

pub returns-in_err-reserve-clause-same : goal.returns-in_err-reserve-clause-same
returns-in_err-reserve-clause-same c = λ owners kept. record {
  households = c.reserve.ensures.items ∙ kept.households;
  last = kept.last;
  earlier = kept.earlier;
}

pub returns-in_err-reserve-2-clause-same : goal.returns-in_err-reserve-2-clause-same
returns-in_err-reserve-2-clause-same c = λ owners kept. record {
  households = c.reserve.ensures.items ∙ kept.households;
  last = λ household. c.reserve-2.ensures.entries.2 household ∙ kept.last household;
  earlier = kept.earlier;
}

pub returns-in_err-reserve-3-clause-same : goal.returns-in_err-reserve-3-clause-same
returns-in_err-reserve-3-clause-same c = λ owners kept. record {
  households = c.reserve.ensures.items ∙ kept.households;
  last = λ household. c.reserve-2.ensures.entries.2 household ∙ kept.last household;
  earlier = c.reserve-3.ensures.items ∙ kept.earlier;
}

pub returns-clause-same : goal.returns-clause-same
returns-clause-same c = λ owners kept. record {
  households = c.reserve.ensures.items ∙ kept.households;
  last = λ household. c.reserve-2.ensures.entries.2 household ∙ kept.last household;
  earlier = c.reserve-3.ensures.items ∙ kept.earlier;
}
