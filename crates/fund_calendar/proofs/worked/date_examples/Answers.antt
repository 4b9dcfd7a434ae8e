-- The worked rows of `date_examples`, reckoned.
use Rattle.std.proofs.Common.{refl}
use Rattle.fund_calendar.specs.Dates.{date_of, date_in_year, year_of, day_number, days_before_year, days_of_months}
use Rattle.fund_calendar.specs.DayText.{read_day}
use Rattle.fund_calendar.proofs.worked.date_examples.Goals as goal

pub returns-clause-first : goal.returns-clause-first
unfolding date_of date_in_year year_of day_number days_before_year days_of_months read_day
returns-clause-first c = refl

pub returns-clause-leap_day : goal.returns-clause-leap_day
unfolding date_of date_in_year year_of day_number days_before_year days_of_months read_day
returns-clause-leap_day c = refl

pub returns-clause-last : goal.returns-clause-last
unfolding date_of date_in_year year_of day_number days_before_year days_of_months read_day
returns-clause-last c = refl

pub returns-clause-no_leap_year : goal.returns-clause-no_leap_year
unfolding date_of date_in_year year_of day_number days_before_year days_of_months read_day
returns-clause-no_leap_year c = refl

pub returns-clause-too_early : goal.returns-clause-too_early
unfolding date_of date_in_year year_of day_number days_before_year days_of_months read_day
returns-clause-too_early c = refl

pub returns-clause-too_late : goal.returns-clause-too_late
unfolding date_of date_in_year year_of day_number days_before_year days_of_months read_day
returns-clause-too_late c = refl

pub returns-clause-short_month : goal.returns-clause-short_month
unfolding date_of date_in_year year_of day_number days_before_year days_of_months read_day
returns-clause-short_month c = refl

pub returns-clause-slashes : goal.returns-clause-slashes
unfolding date_of date_in_year year_of day_number days_before_year days_of_months read_day
returns-clause-slashes c = refl

pub returns-clause-parts : goal.returns-clause-parts
unfolding date_of date_in_year year_of day_number days_before_year days_of_months read_day
returns-clause-parts c = refl
