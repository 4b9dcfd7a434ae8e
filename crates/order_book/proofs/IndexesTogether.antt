-- All indexes of a book, each kept.
use Rattle.std.proofs.Common.{Bool, List, None, Option, Some, [], ap, arith, cond, count_by, length, refl, sym, ℕ, ◌++◌, ◌+◌, ◌<◌, ◌==◌, ◌∙◌, ◌∷◌, ◌≡◌, ◌≤◌}
use Rattle.std.proofs.lemmas.List.Sums.{count_by-le-length, sum_by-append}
use Rattle.std.specs.List.{cons_option}
use Rattle.std.specs.Option.{option_map_or}
use Rattle.std.specs.Prelude.{option_to_list}
use Rattle.agent_events.specs.declared.event.EventKind.{EventKind}
use Rattle.agent_events.specs.declared.event.Placed.{Placed}
use Rattle.agent_events.specs.declared.event.Source.{Source}
use Rattle.agent_events.specs.declared.request.AccountForm.{AccountForm}
use Rattle.order_book.specs.AllIndexes.{CountsAreLow, HasAllRoom, KeepsAll, account_counted, household_counted}
use Rattle.order_book.specs.Brought.{dealer_key_in, household_key_in}
use Rattle.order_book.specs.Indexes.{HasKeyRoom, HasRoom, HasTallyRoom, count_of, place_of, place_of_key}
use Rattle.order_book.specs.Kept.{CountsAccounts, CountsOrders, KeepsKeys, KeepsPlaces}
use Rattle.order_book.specs.Numbers.{HasNumberRoom, HasRateRoom, KeepsNumbers, KeepsRates, fixed_rate}
use Rattle.order_book.specs.Orders.{HasOrderRoom, KeepsOrders}
use Rattle.order_book.specs.declared.identities.Identities.{Identities}
use Rattle.order_book.specs.declared.identity.Identity.{Identity}
use Rattle.order_book.specs.declared.indexes.Indexes.{Indexes}
use Rattle.order_book.specs.declared.keys.Keys.{Keys}
use Rattle.order_book.specs.declared.rates.FixedRates.{FixedRates}
use Rattle.order_book.specs.declared.rates.RateName.{RateName}
use Rattle.order_book.specs.declared.tally.Tally.{Tally}
use Rattle.register_laws.proofs.OneEventMore.{gathers-on}
use Rattle.register_machine.specs.journal.Journals.{Journal, with_event}
use Rattle.register_machine.specs.journal.Kinds.{account_in, accounts_of, calendar_in, each_in, household_in}
use Rattle.register_machine.specs.rules.Limits.{is_of_account}

-- ---- as before

pub places-same : (old new : Identities) → ((q : Identity) → place_of new q ≡ place_of old q) → (journal : Journal) → KeepsPlaces old journal → KeepsPlaces new journal
places-same old new same journal kept = record { places = λ q. same q ∙ kept.places q }

pub keys-same : (chosen : EventKind → Option (List ℕ)) (old new : Keys) → ((key : List ℕ) → place_of_key new key ≡ place_of_key old key) → (journal : Journal) → KeepsKeys chosen old journal → KeepsKeys chosen new journal
keys-same chosen old new same journal kept = record { places = λ key short. same key ∙ kept.places key short; long = kept.long }

pub orders-same : (old new : Tally) → ((n : ℕ) → count_of new n ≡ count_of old n) → (journal : Journal) → CountsOrders old journal → CountsOrders new journal
orders-same old new same journal kept = record { counts = λ n. same n ∙ kept.counts n }

pub accounts-same : (old new : Tally) → ((n : ℕ) → count_of new n ≡ count_of old n) → (journal : Journal) → CountsAccounts old journal → CountsAccounts new journal
accounts-same old new same journal kept = record { counts = λ n. same n ∙ kept.counts n }

pub rates-same : (old new : FixedRates) → ((name : RateName) → fixed_rate new name ≡ fixed_rate old name) → (journal : Journal) → KeepsRates old journal → KeepsRates new journal
rates-same old new same journal kept = record { last = λ name. same name ∙ kept.last name }

-- ---- an order, a cancel or an account is counted

one-more : {X : Type 0} (test : X → Bool) (xs ys : List X) → count_by test (xs ++ ys) ≡ count_by test xs + count_by test ys
one-more test xs ys = sum_by-append (λ x. cond (test x) 1 0) xs ys

counted-of : (journal : Journal) (account moment : ℕ) (kind : EventKind) → count_by (is_of_account account) (record { moment = moment; kind = kind } ∷ []) ≡ option_map_or (λ own. cond (own == account) 1 0) (account_counted kind) 0
counted-of journal account moment (EventKind.Order placed) = by_source placed placed.source
  where
    by_source : (p : Placed) (source : Source) → count_by (is_of_account account) (record { moment = moment; kind = EventKind.Order (record { order = p.order; source = source; receipt = p.receipt; due = p.due }) } ∷ []) ≡ cond (p.order.account == account) 1 0
    by_source p Source.Direct = omega arith
    by_source p Source.Dealer = omega arith
counted-of journal account moment (EventKind.Cancel form) = omega arith
counted-of journal account moment (EventKind.Enter form) = omega arith
counted-of journal account moment _ = refl

pub orders-counted : (old new : Tally) (journal : Journal) (moment : ℕ) (kind : EventKind)
    → ((account : ℕ) → count_of new account ≡ count_of old account + option_map_or (λ own. cond (own == account) 1 0) (account_counted kind) 0)
    → CountsOrders old journal → CountsOrders new (with_event journal (record { moment = moment; kind = kind }))
orders-counted old new journal moment kind counts kept = record {
  counts = λ account.
      counts account
      ∙ (ap (λ n. n + option_map_or (λ own. cond (own == account) 1 0) (account_counted kind) 0) (kept.counts account)
      ∙ (ap (λ n. count_by (is_of_account account) journal + n) (sym (counted-of journal account moment kind))
      ∙ sym (one-more (is_of_account account) journal (record { moment = moment; kind = kind } ∷ []))));
}

opened-in : (household : ℕ) (kind : EventKind) → count_by (λ (account : AccountForm). account.household == household) (option_to_list (account_in kind)) ≡ option_map_or (λ own. cond (own == household) 1 0) (household_counted kind) 0
opened-in household (EventKind.Account form) = omega arith
opened-in household _ = refl

pub accounts-counted : (old new : Tally) (journal : Journal) (moment : ℕ) (kind : EventKind)
    → ((household : ℕ) → count_of new household ≡ count_of old household + option_map_or (λ own. cond (own == household) 1 0) (household_counted kind) 0)
    → CountsAccounts old journal → CountsAccounts new (with_event journal (record { moment = moment; kind = kind }))
accounts-counted old new journal moment kind counts kept = record {
  counts = λ household.
      counts household
      ∙ (ap (λ n. n + option_map_or (λ own. cond (own == household) 1 0) (household_counted kind) 0) (kept.counts household)
      ∙ (ap (λ n. count_by (λ (account : AccountForm). account.household == household) (accounts_of journal) + n) (sym (opened-in household kind))
      ∙ (sym (one-more (λ (account : AccountForm). account.household == household) (accounts_of journal) (option_to_list (account_in kind)))
      ∙ ap (count_by (λ (account : AccountForm). account.household == household)) (sym (gathers-on account_in journal (record { moment = moment; kind = kind }))))));
}

-- ---- together

pub all-room : (old new : Indexes)
    → ((n : ℕ) → HasRoom old.identities n → HasRoom new.identities n)
    → ((n : ℕ) → HasKeyRoom old.household_keys n → HasKeyRoom new.household_keys n)
    → ((n : ℕ) → HasKeyRoom old.dealer_keys n → HasKeyRoom new.dealer_keys n)
    → ((n : ℕ) → HasNumberRoom old.numbers n → HasNumberRoom new.numbers n)
    → ((n : ℕ) → HasTallyRoom old.order_counts n → HasTallyRoom new.order_counts n)
    → ((n : ℕ) → HasTallyRoom old.account_counts n → HasTallyRoom new.account_counts n)
    → ((n : ℕ) → HasRateRoom old.rates n → HasRateRoom new.rates n)
    → ((n : ℕ) → HasOrderRoom old.orders n → HasOrderRoom new.orders n)
    → (n : ℕ) → HasAllRoom old n → HasAllRoom new n
all-room old new identities household_keys dealer_keys numbers order_counts account_counts rates orders n room = record {
  places = identities n room.places;
  household_keys = household_keys n room.household_keys;
  dealer_keys = dealer_keys n room.dealer_keys;
  numbers = numbers n room.numbers;
  order_counts = order_counts n room.order_counts;
  account_counts = account_counts n room.account_counts;
  rates = rates n room.rates;
  orders = orders n room.orders;
}

pub all-same : (old new : Indexes)
    → ((journal : Journal) → KeepsPlaces old.identities journal → KeepsPlaces new.identities journal)
    → ((journal : Journal) → KeepsKeys household_key_in old.household_keys journal → KeepsKeys household_key_in new.household_keys journal)
    → ((journal : Journal) → KeepsKeys dealer_key_in old.dealer_keys journal → KeepsKeys dealer_key_in new.dealer_keys journal)
    → ((journal : Journal) → KeepsNumbers old.numbers journal → KeepsNumbers new.numbers journal)
    → ((journal : Journal) → CountsOrders old.order_counts journal → CountsOrders new.order_counts journal)
    → ((journal : Journal) → CountsAccounts old.account_counts journal → CountsAccounts new.account_counts journal)
    → ((journal : Journal) → KeepsRates old.rates journal → KeepsRates new.rates journal)
    → ((journal : Journal) → KeepsOrders old.orders journal → KeepsOrders new.orders journal)
    → (journal : Journal) → KeepsAll old journal → KeepsAll new journal
all-same old new identities household_keys dealer_keys numbers order_counts account_counts rates orders journal kept = record {
  places = identities journal kept.places;
  household_keys = household_keys journal kept.household_keys;
  dealer_keys = dealer_keys journal kept.dealer_keys;
  numbers = numbers journal kept.numbers;
  order_counts = order_counts journal kept.order_counts;
  account_counts = account_counts journal kept.account_counts;
  rates = rates journal kept.rates;
  orders = orders journal kept.orders;
}

-- ---- the counts are low while the journal isn't full

few-in : {X : Type 0} (chosen : EventKind → Option X) (journal : Journal) → length (each_in chosen journal) ≤ length journal
few-in chosen [] = omega arith
few-in {X} chosen (event ∷ journal) = by_found (chosen event.kind) (few-in chosen journal)
  where
    by_found : (found : Option X) → length (each_in chosen journal) ≤ length journal → length (cons_option found (each_in chosen journal)) ≤ length (event ∷ journal)
    by_found None few = omega arith
    by_found (Some x) few = omega arith

pub counts-are-low : (indexes : Indexes) (journal : Journal) → length journal < 100000000 → KeepsAll indexes journal → CountsAreLow indexes
counts-are-low indexes journal short kept = record {
  calendars = omega (arith, kept.numbers.calendars, few-in calendar_in journal);
  households = omega (arith, kept.numbers.households, few-in household_in journal);
  orders = λ account. omega (arith, kept.order_counts.counts account, count_by-le-length (is_of_account account) journal);
  accounts = λ household. omega (arith, kept.account_counts.counts household, count_by-le-length (λ (account : AccountForm). account.household == household) (accounts_of journal), few-in account_in journal);
}
