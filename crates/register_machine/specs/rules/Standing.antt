-- Refusal 14: what stands already.
use Rattle.std.specs.List.{list_any}
use Rattle.std.specs.Option.{option_map_or, option_or}
use Rattle.std.specs.Prelude.{Bool, List, None, Option, [], ℕ, ◌&&◌, ◌==◌, ◌||◌, ◌∷◌, false, is_some, map, option_and_then, option_map}
use Rattle.agent_events.specs.declared.reply.Refusal.{Refusal}
use Rattle.agent_events.specs.declared.request.DividendForm.{DividendForm}
use Rattle.agent_events.specs.declared.request.Request.{Request}
use Rattle.class_terms.specs.Checking.{family_fault}
use Rattle.forward_price.specs.PriceTables.{calendar_numbered, number_at}
use Rattle.fund_calendar.specs.PricingDays.{moment_on}
use Rattle.register_machine.specs.journal.Choices.{first_some, when}
use Rattle.register_machine.specs.journal.Journals.{Journal}
use Rattle.register_machine.specs.pricing.CorrectedBook.{Book, calendar_of}
use Rattle.register_machine.specs.pricing.DividendRates.{declares}
use Rattle.register_machine.specs.rules.Callers.{dealer_with_key, household_with_key}
use Rattle.register_machine.specs.rules.NamedThings.{has_account, has_calendar, has_class, has_dealer, has_household}
use Rattle.register_machine.specs.rules.Orders.{is_published_at}
use Rattle.register_machine.specs.rules.Situations.{Situation}
use Rattle.register_machine.specs.rules.Terms.{terms_of}

-- the number is taken
abbrev pub number_taken : Situation → Request → Option ℕ
number_taken situation (Request.Calendar form) = when (has_calendar situation form.calendar) form.calendar
number_taken situation (Request.Class form) = when (has_class situation form.class) form.class
number_taken situation (Request.Dealer form) = when (has_dealer situation form.dealer) form.dealer
number_taken situation (Request.Household form) = when (has_household situation form.household) form.household
number_taken situation (Request.Account form) = when (has_account situation form.account) form.account
number_taken situation _ = None

-- the number of the household or dealer to which a key belongs
abbrev pub holder_of_key : Journal → List ℕ → Option ℕ
holder_of_key journal key = option_or (household_with_key journal key) (dealer_with_key journal key)

-- the key belongs to a household or a dealer
abbrev pub key_taken : Situation → Request → Option ℕ
key_taken situation (Request.Dealer form) = holder_of_key situation.journal form.key
key_taken situation (Request.Household form) = holder_of_key situation.journal form.key
key_taken situation _ = None

-- the family holds a class with another calendar or schedule
abbrev pub family_differs : Situation → Request → Option ℕ
family_differs situation (Request.Class form) =
    family_fault (terms_of form) (map terms_of situation.book.classes)
family_differs situation _ = None

-- the day to close has its sheet, or a dividend of one of the calendar's classes
abbrev pub is_declared_in : Book → ℕ → ℕ → DividendForm → Bool
is_declared_in book calendar moment form =
    form.moment == moment && option_map_or (λ own. own == calendar) (calendar_of book form.class) false

abbrev pub is_used_moment : Book → ℕ → ℕ → Bool
is_used_moment book calendar moment =
    is_some (number_at book.table.sheets calendar moment)
    || list_any (is_declared_in book calendar moment) book.rates.declared

abbrev pub day_used : Situation → Request → Option ℕ
day_used situation (Request.Close form) =
    option_and_then (λ moment. when (is_used_moment situation.book form.calendar moment) form.calendar)
    (option_and_then (λ listing. moment_on listing form.day) (calendar_numbered situation.book.table.calendars form.calendar))
day_used situation _ = None

-- the dividend stands with another rate, or its sheet is published
abbrev pub dividend_stands : Situation → Request → Option ℕ
dividend_stands situation (Request.Dividend form) =
    when
    (list_any (declares form.class form.moment) situation.book.rates.declared
    || is_published_at situation.book form.class form.moment)
    form.class
dividend_stands situation _ = None

abbrev pub something_stands : Situation → Request → Option Refusal
something_stands situation request =
    option_map Refusal.Stands
    (first_some
    (number_taken situation request ∷ key_taken situation request ∷ family_differs situation request
    ∷ day_used situation request ∷ dividend_stands situation request ∷ []))
