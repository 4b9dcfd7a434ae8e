-- The worked rows of `month_examples`, reckoned.
use Rattle.std.proofs.Common.{refl}
use Rattle.fund_calendar.specs.Dates.{add_months, months_later, date_of, date_in_year, year_of, day_number, days_before_year, days_of_months}
use Rattle.fund_calendar.proofs.worked.month_examples.Goals as goal

pub returns-clause-letter : goal.returns-clause-letter
unfolding add_months months_later date_of date_in_year year_of day_number days_before_year days_of_months
returns-clause-letter c = refl

pub returns-clause-short_month : goal.returns-clause-short_month
unfolding add_months months_later date_of date_in_year year_of day_number days_before_year days_of_months
returns-clause-short_month c = refl

pub returns-clause-past : goal.returns-clause-past
unfolding add_months months_later date_of date_in_year year_of day_number days_before_year days_of_months
returns-clause-past c = refl
