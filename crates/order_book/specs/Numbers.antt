-- How many calendars and households there are, the classes in the order of their opening, the dealers in that of their
-- registration, and the rates of dividends as corrected.
use Rattle.std.specs.HashMap.{get, spare}
use Rattle.std.specs.Prelude.{Bool, Option, is_some, length, option_map, vec_capacity, vec_len, ℕ, ◌&&◌, ◌+◌, ◌==◌, ◌≡◌, ◌≤◌}
use Rattle.agent_events.specs.declared.event.EventKind.{EventKind}
use Rattle.order_book.specs.LastPlaces.{places_from}
use Rattle.order_book.specs.declared.numbers.Numbers.{Numbers}
use Rattle.order_book.specs.declared.rates.RateName.{RateName}
use Rattle.order_book.specs.declared.rates.FixedRates.{FixedRates}
use Rattle.register_machine.specs.journal.Choices.{last_of}
use Rattle.register_machine.specs.journal.Journals.{Journal}
use Rattle.register_machine.specs.journal.Kinds.{calendars_of, class_in, dealer_in, each_in, households_of, rate_fix_in}
use Rattle.register_machine.specs.pricing.DividendRates.{fixes_rate}

abbrev pub opens_class : EventKind → Bool
opens_class kind = is_some (class_in kind)

abbrev pub registers_dealer : EventKind → Bool
registers_dealer kind = is_some (dealer_in kind)

pub record KeepsNumbers (numbers : Numbers) (journal : Journal) : Type 0 where
  pub calendars : numbers.calendars ≡ length (calendars_of journal)
  pub classes : numbers.classes.items ≡ places_from opens_class 0 journal
  pub dealers : numbers.dealers.items ≡ places_from registers_dealer 0 journal
  pub households : numbers.households ≡ length (households_of journal)

-- so many events more can be taken in
pub record HasNumberRoom (numbers : Numbers) (events : ℕ) : Type 0 where
  pub classes : vec_len numbers.classes + events ≤ vec_capacity numbers.classes
  pub dealers : vec_len numbers.dealers + events ≤ vec_capacity numbers.dealers

-- two names of a rate are the same
abbrev pub same_rate : RateName → RateName → Bool
same_rate a b = a.class == b.class && a.moment == b.moment

abbrev pub fixed_rate : FixedRates → RateName → Option ℕ
fixed_rate rates name = get same_rate rates.rates name

-- the rate of the last correction of a class at a pricing moment
pub record KeepsRates (rates : FixedRates) (journal : Journal) : Type 0 where
  pub last : (name : RateName) → fixed_rate rates name ≡ option_map (λ form. form.rate) (last_of (fixes_rate name.class name.moment) (each_in rate_fix_in journal))

abbrev pub HasRateRoom : FixedRates → ℕ → Type 0
HasRateRoom rates events = events ≤ spare rates.rates
