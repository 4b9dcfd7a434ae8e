-- The worked rows of `anniversary_examples`, reckoned.
use Rattle.std.proofs.Common.{refl}
use Rattle.fund_calendar.specs.Dates.{anniversaries, has_anniversary, add_months, months_later, date_of, date_in_year, year_of, day_number, days_before_year, days_of_months}
use Rattle.fund_calendar.proofs.worked.anniversary_examples.Goals as goal

pub returns-clause-day_before : goal.returns-clause-day_before
unfolding anniversaries has_anniversary add_months months_later date_of date_in_year year_of day_number days_before_year days_of_months
returns-clause-day_before c = refl

pub returns-clause-first : goal.returns-clause-first
unfolding anniversaries has_anniversary add_months months_later date_of date_in_year year_of day_number days_before_year days_of_months
returns-clause-first c = refl

pub returns-clause-third : goal.returns-clause-third
unfolding anniversaries has_anniversary add_months months_later date_of date_in_year year_of day_number days_before_year days_of_months
returns-clause-third c = refl

pub returns-clause-fourth : goal.returns-clause-fourth
unfolding anniversaries has_anniversary add_months months_later date_of date_in_year year_of day_number days_before_year days_of_months
returns-clause-fourth c = refl

pub returns-clause-before : goal.returns-clause-before
unfolding anniversaries has_anniversary add_months months_later date_of date_in_year year_of day_number days_before_year days_of_months
returns-clause-before c = refl
