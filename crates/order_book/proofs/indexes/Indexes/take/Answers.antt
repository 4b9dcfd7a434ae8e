-- That `Indexes::take` keeps its contract.
use Rattle.order_book.proofs.IndexesTogether.{accounts-counted, orders-counted}
use Rattle.order_book.proofs.indexes.Indexes.take.Goals as goal

pub returns-clause-kept : goal.returns-clause-kept
returns-clause-kept c = λ journal moment at kept fits. record {
  places = c.take.ensures.kept journal moment at kept.places;
  household_keys = c.take_household.ensures.kept journal moment at kept.household_keys;
  dealer_keys = c.take_dealer.ensures.kept journal moment at kept.dealer_keys;
  numbers = c.take-2.ensures.kept journal moment at kept.numbers;
  order_counts = orders-counted c.args.self.now.order_counts c.count_order.new.tally journal moment c.args.kind.now c.count_order.ensures.counts kept.order_counts;
  account_counts = accounts-counted c.args.self.now.account_counts c.count_account.new.tally journal moment c.args.kind.now c.count_account.ensures.counts kept.account_counts;
  rates = c.take-3.ensures.kept journal moment kept.rates;
  orders = c.take-4.ensures.kept journal moment at kept.orders fits;
}

pub returns-clause-room : goal.returns-clause-room
returns-clause-room c = λ n room. record {
  places = c.take.ensures.room n room.places;
  household_keys = c.take_household.ensures.room n room.household_keys;
  dealer_keys = c.take_dealer.ensures.room n room.dealer_keys;
  numbers = c.take-2.ensures.room n room.numbers;
  order_counts = c.count_order.ensures.room n room.order_counts;
  account_counts = c.count_account.ensures.room n room.account_counts;
  rates = c.take-3.ensures.room n room.rates;
  orders = c.take-4.ensures.room n room.orders;
}
