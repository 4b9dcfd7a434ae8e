-- No identity stands twice: of a journal's events of one kind at most one has it.
use Rattle.std.specs.Prelude.{Bool, List, bytes_eq, filter, length, ℕ, ◌&&◌, ◌+◌, ◌==◌, ◌≤◌}
use Rattle.agent_events.specs.declared.request.AccountForm.{AccountForm}
use Rattle.agent_events.specs.declared.request.CalendarForm.{CalendarForm}
use Rattle.agent_events.specs.declared.request.ClassForm.{ClassForm}
use Rattle.agent_events.specs.declared.request.CloseForm.{CloseForm}
use Rattle.agent_events.specs.declared.request.DealerForm.{DealerForm}
use Rattle.agent_events.specs.declared.request.HouseholdForm.{HouseholdForm}
use Rattle.agent_events.specs.declared.request.SheetForm.{SheetForm}
use Rattle.money_units.specs.Texts.{number}
use Rattle.register_machine.specs.journal.Journals.{Journal}
use Rattle.register_machine.specs.journal.Kinds.{accounts_of, calendars_of, classes_of, closures_of, dealers_of, dividend_in, each_in, households_of, sheet_in}
use Rattle.register_machine.specs.pricing.DividendRates.{declares}
use Rattle.register_machine.specs.rules.Identities.{brings_fix, brings_reference}

-- at most one of these passes
abbrev pub AtMostOne : {X : Type 0} → (X → Bool) → List X → Type 0
AtMostOne test xs = length (filter test xs) ≤ 1

-- ---- References of an account, over its orders and cancels, and numbers of corrections.

abbrev pub NoReferenceTwice : Journal → Type 0
NoReferenceTwice journal = (named : ℕ × ℕ) → AtMostOne (brings_reference named) journal

abbrev pub NoFixTwice : Journal → Type 0
NoFixTwice journal = (fix : ℕ) → AtMostOne (brings_fix fix) journal

-- ---- Numbers.

abbrev pub is_calendar : ℕ → CalendarForm → Bool
is_calendar number form = form.calendar == number

abbrev pub NoCalendarTwice : Journal → Type 0
NoCalendarTwice journal = (number : ℕ) → AtMostOne (is_calendar number) (calendars_of journal)

abbrev pub is_class : ℕ → ClassForm → Bool
is_class number form = form.class == number

abbrev pub NoClassTwice : Journal → Type 0
NoClassTwice journal = (number : ℕ) → AtMostOne (is_class number) (classes_of journal)

abbrev pub is_dealer : ℕ → DealerForm → Bool
is_dealer number form = form.dealer == number

abbrev pub NoDealerTwice : Journal → Type 0
NoDealerTwice journal = (number : ℕ) → AtMostOne (is_dealer number) (dealers_of journal)

abbrev pub is_household : ℕ → HouseholdForm → Bool
is_household number form = form.household == number

abbrev pub NoHouseholdTwice : Journal → Type 0
NoHouseholdTwice journal = (number : ℕ) → AtMostOne (is_household number) (households_of journal)

abbrev pub has_number : ℕ → AccountForm → Bool
has_number number account = account.account == number

abbrev pub NoAccountTwice : Journal → Type 0
NoAccountTwice journal = (number : ℕ) → AtMostOne (has_number number) (accounts_of journal)

-- ---- Keys of callers.

abbrev pub has_dealer_key : List ℕ → DealerForm → Bool
has_dealer_key key form = bytes_eq form.key key

abbrev pub NoDealerKeyTwice : Journal → Type 0
NoDealerKeyTwice journal = (key : List ℕ) → AtMostOne (has_dealer_key key) (dealers_of journal)

abbrev pub has_household_key : List ℕ → HouseholdForm → Bool
has_household_key key form = bytes_eq form.key key

abbrev pub NoHouseholdKeyTwice : Journal → Type 0
NoHouseholdKeyTwice journal = (key : List ℕ) → AtMostOne (has_household_key key) (households_of journal)

-- ---- A calendar's closed days and published pricing moments, and a class's dividends.

abbrev pub closes : ℕ → ℕ → CloseForm → Bool
closes calendar day form = form.calendar == calendar && form.day == day

abbrev pub NoClosureTwice : Journal → Type 0
NoClosureTwice journal = (calendar day : ℕ) → AtMostOne (closes calendar day) (closures_of journal)

abbrev pub publishes : ℕ → ℕ → SheetForm → Bool
publishes calendar moment form = form.calendar == calendar && form.moment == moment

abbrev pub NoSheetTwice : Journal → Type 0
NoSheetTwice journal = (calendar moment : ℕ) → AtMostOne (publishes calendar moment) (each_in sheet_in journal)

abbrev pub NoDividendTwice : Journal → Type 0
NoDividendTwice journal = (class moment : ℕ) → AtMostOne (declares class moment) (each_in dividend_in journal)

-- A key belongs to one household or one dealer at most.
abbrev pub NoKeyTwice : Journal → Type 0
NoKeyTwice journal =
    (key : List ℕ)
    → length (filter (has_household_key key) (households_of journal))
    + length (filter (has_dealer_key key) (dealers_of journal)) ≤ 1

-- All of these together.
pub record HasNoIdentityTwice (journal : Journal) : Type 0 where
  pub references : NoReferenceTwice journal
  pub fixes : NoFixTwice journal
  pub calendars : NoCalendarTwice journal
  pub classes : NoClassTwice journal
  pub dealers : NoDealerTwice journal
  pub households : NoHouseholdTwice journal
  pub accounts : NoAccountTwice journal
  pub dealer_keys : NoDealerKeyTwice journal
  pub household_keys : NoHouseholdKeyTwice journal
  pub keys : NoKeyTwice journal
  pub closures : NoClosureTwice journal
  pub sheets : NoSheetTwice journal
  pub dividends : NoDividendTwice journal
