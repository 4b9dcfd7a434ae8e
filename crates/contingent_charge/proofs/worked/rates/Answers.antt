-- The worked rows of `rates`, reckoned.
use Rattle.std.proofs.Common.{refl}
use Rattle.fund_calendar.specs.Dates.{anniversaries, has_anniversary, add_months, months_later, date_of, date_in_year, year_of, day_number, days_before_year, days_of_months}
use Rattle.contingent_charge.proofs.worked.rates.Goals as goal

pub returns-clause-before : goal.returns-clause-before
unfolding anniversaries has_anniversary add_months months_later date_of date_in_year year_of day_number days_before_year days_of_months
returns-clause-before c = refl

pub returns-clause-anniversary : goal.returns-clause-anniversary
unfolding anniversaries has_anniversary add_months months_later date_of date_in_year year_of day_number days_before_year days_of_months
returns-clause-anniversary c = refl

pub returns-clause-past : goal.returns-clause-past
unfolding anniversaries has_anniversary add_months months_later date_of date_in_year year_of day_number days_before_year days_of_months
returns-clause-past c = refl
