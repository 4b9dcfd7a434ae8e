-- The worked rows of `free_shares_bear_no_charge`, reckoned.
use Rattle.std.proofs.Common.{refl}
use Rattle.fund_calendar.specs.Dates.{anniversaries, has_anniversary, add_months, months_later, date_of, date_in_year, year_of, day_number, days_before_year, days_of_months}
use Rattle.share_lots.specs.Taking.{pieces}
use Rattle.contingent_charge.specs.DeferredCharge.{with_values}
use Rattle.contingent_charge.proofs.worked.free_shares_bear_no_charge.Goals as goal

pub returns-clause-risen : goal.returns-clause-risen
unfolding pieces with_values anniversaries has_anniversary add_months months_later date_of date_in_year year_of day_number days_before_year days_of_months
returns-clause-risen c = refl

pub returns-clause-fallen : goal.returns-clause-fallen
unfolding pieces with_values anniversaries has_anniversary add_months months_later date_of date_in_year year_of day_number days_before_year days_of_months
returns-clause-fallen c = refl
