-- That `Indexes::new` keeps its contract.
use Rattle.std.proofs.Common.{refl}
use Rattle.order_book.proofs.indexes.Indexes.new.Goals as goal

pub returns : goal.returns
returns c = record {
  places = record { places = c.new.ensures };
  household_keys = record { places = λ key short. c.new-2.ensures key; long = λ key long. refl };
  dealer_keys = record { places = λ key short. c.new-3.ensures key; long = λ key long. refl };
  numbers = c.new-4.ensures;
  order_counts = record { counts = c.new-5.ensures };
  account_counts = record { counts = c.new-6.ensures };
  rates = c.new-7.ensures;
  orders = c.new-8.ensures;
}
