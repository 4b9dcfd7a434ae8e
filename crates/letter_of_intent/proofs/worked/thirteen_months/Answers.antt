-- The worked rows of `thirteen_months`, reckoned.
use Rattle.std.proofs.Common.{refl}
use Rattle.fund_calendar.specs.Dates.{add_months, months_later, date_of, date_in_year, year_of, day_number, days_before_year, days_of_months}
use Rattle.letter_of_intent.proofs.worked.thirteen_months.Goals as goal

pub returns-clause-last : goal.returns-clause-last
unfolding add_months months_later date_of date_in_year year_of day_number days_before_year days_of_months
returns-clause-last c = refl

pub returns-clause-on_the_day : goal.returns-clause-on_the_day
unfolding add_months months_later date_of date_in_year year_of day_number days_before_year days_of_months
returns-clause-on_the_day c = refl

pub returns-clause-day_after : goal.returns-clause-day_after
unfolding add_months months_later date_of date_in_year year_of day_number days_before_year days_of_months
returns-clause-day_after c = refl

pub returns-clause-short_month : goal.returns-clause-short_month
unfolding add_months months_later date_of date_in_year year_of day_number days_before_year days_of_months
returns-clause-short_month c = refl

pub returns-clause-past_short_month : goal.returns-clause-past_short_month
unfolding add_months months_later date_of date_in_year year_of day_number days_before_year days_of_months
returns-clause-past_short_month c = refl

pub returns-clause-no_last : goal.returns-clause-no_last
unfolding add_months months_later date_of date_in_year year_of day_number days_before_year days_of_months
returns-clause-no_last c = refl

pub returns-clause-never : goal.returns-clause-never
unfolding add_months months_later date_of date_in_year year_of day_number days_before_year days_of_months
returns-clause-never c = refl
