-- The worked rows of `anniversaries_lower_the_charge`, reckoned.
use Rattle.std.proofs.Common.{refl}
use Rattle.fund_calendar.specs.Dates.{anniversaries, has_anniversary, add_months, months_later, date_of, date_in_year, year_of, day_number, days_before_year, days_of_months}
use Rattle.contingent_charge.specs.DeferredCharge.{with_values}
use Rattle.contingent_charge.proofs.worked.anniversaries_lower_the_charge.Goals as goal

pub returns-clause-day_before : goal.returns-clause-day_before
unfolding with_values anniversaries has_anniversary add_months months_later date_of date_in_year year_of day_number days_before_year days_of_months
returns-clause-day_before c = refl

pub returns-clause-first : goal.returns-clause-first
unfolding with_values anniversaries has_anniversary add_months months_later date_of date_in_year year_of day_number days_before_year days_of_months
returns-clause-first c = refl

pub returns-clause-through : goal.returns-clause-through
unfolding with_values anniversaries has_anniversary add_months months_later date_of date_in_year year_of day_number days_before_year days_of_months
returns-clause-through c = refl
