-- The worked rows of `values_make_the_whole`, reckoned.
use Rattle.std.proofs.Common.{refl}
use Rattle.fund_calendar.specs.Dates.{anniversaries, has_anniversary, add_months, months_later, date_of, date_in_year, year_of, day_number, days_before_year, days_of_months}
use Rattle.contingent_charge.specs.DeferredCharge.{with_values}
use Rattle.contingent_charge.proofs.worked.values_make_the_whole.Goals as goal

pub returns : goal.returns
unfolding with_values anniversaries has_anniversary add_months months_later date_of date_in_year year_of day_number days_before_year days_of_months
returns c = refl
