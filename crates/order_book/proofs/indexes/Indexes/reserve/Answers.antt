-- That `Indexes::reserve` keeps its contract.
use Rattle.order_book.proofs.IndexesTogether.{accounts-same, all-room, all-same, keys-same, orders-same, places-same, rates-same}
use Rattle.order_book.specs.Brought.{dealer_key_in, household_key_in}
use Rattle.order_book.proofs.indexes.Indexes.reserve.Goals as goal

pub returns-in_err-reserve-clause-same : goal.returns-in_err-reserve-clause-same
returns-in_err-reserve-clause-same c =
    all-same c.args.self.now (record { identities = c.reserve.new.self; household_keys = c.args.self.now.household_keys; dealer_keys = c.args.self.now.dealer_keys; numbers = c.args.self.now.numbers; order_counts = c.args.self.now.order_counts; account_counts = c.args.self.now.account_counts; rates = c.args.self.now.rates; orders = c.args.self.now.orders })
    (places-same c.args.self.now.identities c.reserve.new.self c.reserve.ensures.same)
    (λ _ k. k)
    (λ _ k. k)
    (λ _ k. k)
    (λ _ k. k)
    (λ _ k. k)
    (λ _ k. k)
    (λ _ k. k)

pub returns-in_err-reserve-clause-kept : goal.returns-in_err-reserve-clause-kept
returns-in_err-reserve-clause-kept c =
    all-room c.args.self.now (record { identities = c.reserve.new.self; household_keys = c.args.self.now.household_keys; dealer_keys = c.args.self.now.dealer_keys; numbers = c.args.self.now.numbers; order_counts = c.args.self.now.order_counts; account_counts = c.args.self.now.account_counts; rates = c.args.self.now.rates; orders = c.args.self.now.orders })
    c.reserve.ensures.kept
    (λ _ k. k)
    (λ _ k. k)
    (λ _ k. k)
    (λ _ k. k)
    (λ _ k. k)
    (λ _ k. k)
    (λ _ k. k)

pub returns-in_err-reserve-2-clause-same : goal.returns-in_err-reserve-2-clause-same
returns-in_err-reserve-2-clause-same c =
    all-same c.args.self.now (record { identities = c.reserve.new.self; household_keys = c.reserve-2.new.self; dealer_keys = c.args.self.now.dealer_keys; numbers = c.args.self.now.numbers; order_counts = c.args.self.now.order_counts; account_counts = c.args.self.now.account_counts; rates = c.args.self.now.rates; orders = c.args.self.now.orders })
    (places-same c.args.self.now.identities c.reserve.new.self c.reserve.ensures.same)
    (keys-same household_key_in c.args.self.now.household_keys c.reserve-2.new.self c.reserve-2.ensures.same)
    (λ _ k. k)
    (λ _ k. k)
    (λ _ k. k)
    (λ _ k. k)
    (λ _ k. k)
    (λ _ k. k)

pub returns-in_err-reserve-2-clause-kept : goal.returns-in_err-reserve-2-clause-kept
returns-in_err-reserve-2-clause-kept c =
    all-room c.args.self.now (record { identities = c.reserve.new.self; household_keys = c.reserve-2.new.self; dealer_keys = c.args.self.now.dealer_keys; numbers = c.args.self.now.numbers; order_counts = c.args.self.now.order_counts; account_counts = c.args.self.now.account_counts; rates = c.args.self.now.rates; orders = c.args.self.now.orders })
    c.reserve.ensures.kept
    c.reserve-2.ensures.kept
    (λ _ k. k)
    (λ _ k. k)
    (λ _ k. k)
    (λ _ k. k)
    (λ _ k. k)
    (λ _ k. k)

pub returns-in_err-reserve-3-clause-same : goal.returns-in_err-reserve-3-clause-same
returns-in_err-reserve-3-clause-same c =
    all-same c.args.self.now (record { identities = c.reserve.new.self; household_keys = c.reserve-2.new.self; dealer_keys = c.reserve-3.new.self; numbers = c.args.self.now.numbers; order_counts = c.args.self.now.order_counts; account_counts = c.args.self.now.account_counts; rates = c.args.self.now.rates; orders = c.args.self.now.orders })
    (places-same c.args.self.now.identities c.reserve.new.self c.reserve.ensures.same)
    (keys-same household_key_in c.args.self.now.household_keys c.reserve-2.new.self c.reserve-2.ensures.same)
    (keys-same dealer_key_in c.args.self.now.dealer_keys c.reserve-3.new.self c.reserve-3.ensures.same)
    (λ _ k. k)
    (λ _ k. k)
    (λ _ k. k)
    (λ _ k. k)
    (λ _ k. k)

pub returns-in_err-reserve-3-clause-kept : goal.returns-in_err-reserve-3-clause-kept
returns-in_err-reserve-3-clause-kept c =
    all-room c.args.self.now (record { identities = c.reserve.new.self; household_keys = c.reserve-2.new.self; dealer_keys = c.reserve-3.new.self; numbers = c.args.self.now.numbers; order_counts = c.args.self.now.order_counts; account_counts = c.args.self.now.account_counts; rates = c.args.self.now.rates; orders = c.args.self.now.orders })
    c.reserve.ensures.kept
    c.reserve-2.ensures.kept
    c.reserve-3.ensures.kept
    (λ _ k. k)
    (λ _ k. k)
    (λ _ k. k)
    (λ _ k. k)
    (λ _ k. k)

pub returns-in_err-reserve-4-clause-same : goal.returns-in_err-reserve-4-clause-same
returns-in_err-reserve-4-clause-same c =
    all-same c.args.self.now (record { identities = c.reserve.new.self; household_keys = c.reserve-2.new.self; dealer_keys = c.reserve-3.new.self; numbers = c.reserve-4.new.self; order_counts = c.args.self.now.order_counts; account_counts = c.args.self.now.account_counts; rates = c.args.self.now.rates; orders = c.args.self.now.orders })
    (places-same c.args.self.now.identities c.reserve.new.self c.reserve.ensures.same)
    (keys-same household_key_in c.args.self.now.household_keys c.reserve-2.new.self c.reserve-2.ensures.same)
    (keys-same dealer_key_in c.args.self.now.dealer_keys c.reserve-3.new.self c.reserve-3.ensures.same)
    c.reserve-4.ensures.same
    (λ _ k. k)
    (λ _ k. k)
    (λ _ k. k)
    (λ _ k. k)

pub returns-in_err-reserve-4-clause-kept : goal.returns-in_err-reserve-4-clause-kept
returns-in_err-reserve-4-clause-kept c =
    all-room c.args.self.now (record { identities = c.reserve.new.self; household_keys = c.reserve-2.new.self; dealer_keys = c.reserve-3.new.self; numbers = c.reserve-4.new.self; order_counts = c.args.self.now.order_counts; account_counts = c.args.self.now.account_counts; rates = c.args.self.now.rates; orders = c.args.self.now.orders })
    c.reserve.ensures.kept
    c.reserve-2.ensures.kept
    c.reserve-3.ensures.kept
    c.reserve-4.ensures.kept
    (λ _ k. k)
    (λ _ k. k)
    (λ _ k. k)
    (λ _ k. k)

pub returns-in_err-reserve-5-clause-same : goal.returns-in_err-reserve-5-clause-same
returns-in_err-reserve-5-clause-same c =
    all-same c.args.self.now (record { identities = c.reserve.new.self; household_keys = c.reserve-2.new.self; dealer_keys = c.reserve-3.new.self; numbers = c.reserve-4.new.self; order_counts = c.reserve-5.new.self; account_counts = c.args.self.now.account_counts; rates = c.args.self.now.rates; orders = c.args.self.now.orders })
    (places-same c.args.self.now.identities c.reserve.new.self c.reserve.ensures.same)
    (keys-same household_key_in c.args.self.now.household_keys c.reserve-2.new.self c.reserve-2.ensures.same)
    (keys-same dealer_key_in c.args.self.now.dealer_keys c.reserve-3.new.self c.reserve-3.ensures.same)
    c.reserve-4.ensures.same
    (orders-same c.args.self.now.order_counts c.reserve-5.new.self c.reserve-5.ensures.same)
    (λ _ k. k)
    (λ _ k. k)
    (λ _ k. k)

pub returns-in_err-reserve-5-clause-kept : goal.returns-in_err-reserve-5-clause-kept
returns-in_err-reserve-5-clause-kept c =
    all-room c.args.self.now (record { identities = c.reserve.new.self; household_keys = c.reserve-2.new.self; dealer_keys = c.reserve-3.new.self; numbers = c.reserve-4.new.self; order_counts = c.reserve-5.new.self; account_counts = c.args.self.now.account_counts; rates = c.args.self.now.rates; orders = c.args.self.now.orders })
    c.reserve.ensures.kept
    c.reserve-2.ensures.kept
    c.reserve-3.ensures.kept
    c.reserve-4.ensures.kept
    c.reserve-5.ensures.kept
    (λ _ k. k)
    (λ _ k. k)
    (λ _ k. k)

pub returns-in_err-reserve-6-clause-same : goal.returns-in_err-reserve-6-clause-same
returns-in_err-reserve-6-clause-same c =
    all-same c.args.self.now (record { identities = c.reserve.new.self; household_keys = c.reserve-2.new.self; dealer_keys = c.reserve-3.new.self; numbers = c.reserve-4.new.self; order_counts = c.reserve-5.new.self; account_counts = c.reserve-6.new.self; rates = c.args.self.now.rates; orders = c.args.self.now.orders })
    (places-same c.args.self.now.identities c.reserve.new.self c.reserve.ensures.same)
    (keys-same household_key_in c.args.self.now.household_keys c.reserve-2.new.self c.reserve-2.ensures.same)
    (keys-same dealer_key_in c.args.self.now.dealer_keys c.reserve-3.new.self c.reserve-3.ensures.same)
    c.reserve-4.ensures.same
    (orders-same c.args.self.now.order_counts c.reserve-5.new.self c.reserve-5.ensures.same)
    (accounts-same c.args.self.now.account_counts c.reserve-6.new.self c.reserve-6.ensures.same)
    (λ _ k. k)
    (λ _ k. k)

pub returns-in_err-reserve-6-clause-kept : goal.returns-in_err-reserve-6-clause-kept
returns-in_err-reserve-6-clause-kept c =
    all-room c.args.self.now (record { identities = c.reserve.new.self; household_keys = c.reserve-2.new.self; dealer_keys = c.reserve-3.new.self; numbers = c.reserve-4.new.self; order_counts = c.reserve-5.new.self; account_counts = c.reserve-6.new.self; rates = c.args.self.now.rates; orders = c.args.self.now.orders })
    c.reserve.ensures.kept
    c.reserve-2.ensures.kept
    c.reserve-3.ensures.kept
    c.reserve-4.ensures.kept
    c.reserve-5.ensures.kept
    c.reserve-6.ensures.kept
    (λ _ k. k)
    (λ _ k. k)

pub returns-in_err-reserve-7-clause-same : goal.returns-in_err-reserve-7-clause-same
returns-in_err-reserve-7-clause-same c =
    all-same c.args.self.now (record { identities = c.reserve.new.self; household_keys = c.reserve-2.new.self; dealer_keys = c.reserve-3.new.self; numbers = c.reserve-4.new.self; order_counts = c.reserve-5.new.self; account_counts = c.reserve-6.new.self; rates = c.reserve-7.new.self; orders = c.args.self.now.orders })
    (places-same c.args.self.now.identities c.reserve.new.self c.reserve.ensures.same)
    (keys-same household_key_in c.args.self.now.household_keys c.reserve-2.new.self c.reserve-2.ensures.same)
    (keys-same dealer_key_in c.args.self.now.dealer_keys c.reserve-3.new.self c.reserve-3.ensures.same)
    c.reserve-4.ensures.same
    (orders-same c.args.self.now.order_counts c.reserve-5.new.self c.reserve-5.ensures.same)
    (accounts-same c.args.self.now.account_counts c.reserve-6.new.self c.reserve-6.ensures.same)
    (rates-same c.args.self.now.rates c.reserve-7.new.self c.reserve-7.ensures.same)
    (λ _ k. k)

pub returns-in_err-reserve-7-clause-kept : goal.returns-in_err-reserve-7-clause-kept
returns-in_err-reserve-7-clause-kept c =
    all-room c.args.self.now (record { identities = c.reserve.new.self; household_keys = c.reserve-2.new.self; dealer_keys = c.reserve-3.new.self; numbers = c.reserve-4.new.self; order_counts = c.reserve-5.new.self; account_counts = c.reserve-6.new.self; rates = c.reserve-7.new.self; orders = c.args.self.now.orders })
    c.reserve.ensures.kept
    c.reserve-2.ensures.kept
    c.reserve-3.ensures.kept
    c.reserve-4.ensures.kept
    c.reserve-5.ensures.kept
    c.reserve-6.ensures.kept
    c.reserve-7.ensures.kept
    (λ _ k. k)

pub returns-clause-same : goal.returns-clause-same
returns-clause-same c =
    all-same c.args.self.now (record { identities = c.reserve.new.self; household_keys = c.reserve-2.new.self; dealer_keys = c.reserve-3.new.self; numbers = c.reserve-4.new.self; order_counts = c.reserve-5.new.self; account_counts = c.reserve-6.new.self; rates = c.reserve-7.new.self; orders = c.reserve-8.new.self })
    (places-same c.args.self.now.identities c.reserve.new.self c.reserve.ensures.same)
    (keys-same household_key_in c.args.self.now.household_keys c.reserve-2.new.self c.reserve-2.ensures.same)
    (keys-same dealer_key_in c.args.self.now.dealer_keys c.reserve-3.new.self c.reserve-3.ensures.same)
    c.reserve-4.ensures.same
    (orders-same c.args.self.now.order_counts c.reserve-5.new.self c.reserve-5.ensures.same)
    (accounts-same c.args.self.now.account_counts c.reserve-6.new.self c.reserve-6.ensures.same)
    (rates-same c.args.self.now.rates c.reserve-7.new.self c.reserve-7.ensures.same)
    c.reserve-8.ensures.same

pub returns-clause-kept : goal.returns-clause-kept
returns-clause-kept c =
    all-room c.args.self.now (record { identities = c.reserve.new.self; household_keys = c.reserve-2.new.self; dealer_keys = c.reserve-3.new.self; numbers = c.reserve-4.new.self; order_counts = c.reserve-5.new.self; account_counts = c.reserve-6.new.self; rates = c.reserve-7.new.self; orders = c.reserve-8.new.self })
    c.reserve.ensures.kept
    c.reserve-2.ensures.kept
    c.reserve-3.ensures.kept
    c.reserve-4.ensures.kept
    c.reserve-5.ensures.kept
    c.reserve-6.ensures.kept
    c.reserve-7.ensures.kept
    c.reserve-8.ensures.kept
