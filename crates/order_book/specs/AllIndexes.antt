-- All indexes of a book together.
use Rattle.std.specs.Prelude.{None, Option, Some, ℕ, ◌<◌}
use Rattle.agent_events.specs.declared.event.EventKind.{EventKind}
use Rattle.order_book.specs.Brought.{dealer_key_in, household_key_in}
use Rattle.order_book.specs.Indexes.{HasKeyRoom, HasRoom, HasTallyRoom, count_of}
use Rattle.order_book.specs.Kept.{CountsAccounts, CountsOrders, KeepsKeys, KeepsPlaces}
use Rattle.order_book.specs.Numbers.{HasNumberRoom, HasRateRoom, KeepsNumbers, KeepsRates}
use Rattle.order_book.specs.Orders.{HasOrderRoom, KeepsOrders}
use Rattle.order_book.specs.declared.indexes.Indexes.{Indexes}
use Rattle.register_machine.specs.journal.Journals.{Journal}

-- what they keep of a journal
pub record KeepsAll (indexes : Indexes) (journal : Journal) : Type 0 where
  pub places : KeepsPlaces indexes.identities journal
  pub household_keys : KeepsKeys household_key_in indexes.household_keys journal
  pub dealer_keys : KeepsKeys dealer_key_in indexes.dealer_keys journal
  pub numbers : KeepsNumbers indexes.numbers journal
  pub order_counts : CountsOrders indexes.order_counts journal
  pub account_counts : CountsAccounts indexes.account_counts journal
  pub rates : KeepsRates indexes.rates journal
  pub orders : KeepsOrders indexes.orders journal

-- so many events more can be taken in
pub record HasAllRoom (indexes : Indexes) (events : ℕ) : Type 0 where
  pub places : HasRoom indexes.identities events
  pub household_keys : HasKeyRoom indexes.household_keys events
  pub dealer_keys : HasKeyRoom indexes.dealer_keys events
  pub numbers : HasNumberRoom indexes.numbers events
  pub order_counts : HasTallyRoom indexes.order_counts events
  pub account_counts : HasTallyRoom indexes.account_counts events
  pub rates : HasRateRoom indexes.rates events
  pub orders : HasOrderRoom indexes.orders events

-- none of the counts is as high as the number of events that a journal may have
pub record CountsAreLow (indexes : Indexes) : Type 0 where
  pub calendars : indexes.numbers.calendars < 100000000
  pub households : indexes.numbers.households < 100000000
  pub orders : (account : ℕ) → count_of indexes.order_counts account < 100000000
  pub accounts : (household : ℕ) → count_of indexes.account_counts household < 100000000

-- the account whose orders and cancels an event counts among, and the household among whose accounts
abbrev pub account_counted : EventKind → Option ℕ
account_counted (EventKind.Order placed) = Some placed.order.account
account_counted (EventKind.Cancel form) = Some form.account
account_counted (EventKind.Enter form) = Some form.order.account
account_counted _ = None

abbrev pub household_counted : EventKind → Option ℕ
household_counted (EventKind.Account form) = Some form.household
household_counted _ = None
