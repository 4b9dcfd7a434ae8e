-- That `OrderIndex::reserve` keeps its contract.
use Rattle.std.proofs.Common.{◌∙◌}
use Rattle.order_book.proofs.order_index.OrderIndex.reserve.Goals as goal

pub returns-in_err-reserve-2-clause-same : goal.returns-in_err-reserve-2-clause-same
returns-in_err-reserve-2-clause-same c = λ names kept. record {
  places = λ q. c.reserve.ensures.entries.2 q ∙ kept.places q;
  last = λ account. c.reserve-2.ensures.entries.2 account ∙ kept.last account;
  earlier = kept.earlier;
}

pub returns-in_err-reserve-3-clause-same : goal.returns-in_err-reserve-3-clause-same
returns-in_err-reserve-3-clause-same c = λ names kept. record {
  places = λ q. c.reserve.ensures.entries.2 q ∙ kept.places q;
  last = λ account. c.reserve-2.ensures.entries.2 account ∙ kept.last account;
  earlier = c.reserve-3.ensures.items ∙ kept.earlier;
}

pub returns-clause-same : goal.returns-clause-same
returns-clause-same c = λ names kept. record {
  places = λ q. c.reserve.ensures.entries.2 q ∙ kept.places q;
  last = λ account. c.reserve-2.ensures.entries.2 account ∙ kept.last account;
  earlier = c.reserve-3.ensures.items ∙ kept.earlier;
}
