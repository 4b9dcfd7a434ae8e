-- The worked rows of `calendar_examples`, reckoned.
use Rattle.std.proofs.Common.{refl}
use Rattle.fund_calendar.specs.Dates.{date_of, date_in_year, year_of, day_number, days_before_year, days_of_months}
use Rattle.fund_calendar.specs.PricingDays.{new_calendar, days_on, first_not_rising, pricing_dates, days_from}
use Rattle.fund_calendar.specs.ZoneRules.{instant, is_daylight, weekday_in_month}
use Rattle.fund_calendar.specs.ZoneText.{read_zone}
use Rattle.fund_calendar.proofs.worked.calendar_examples.Goals as goal

pub returns-clause-daylight : goal.returns-clause-daylight
unfolding new_calendar days_on first_not_rising pricing_dates days_from read_zone instant is_daylight weekday_in_month date_of date_in_year year_of day_number days_before_year days_of_months
returns-clause-daylight c = refl

pub returns-clause-holiday : goal.returns-clause-holiday
unfolding new_calendar days_on first_not_rising pricing_dates days_from read_zone instant is_daylight weekday_in_month date_of date_in_year year_of day_number days_before_year days_of_months
returns-clause-holiday c = refl

pub returns-clause-saturday : goal.returns-clause-saturday
unfolding new_calendar days_on first_not_rising pricing_dates days_from read_zone instant is_daylight weekday_in_month date_of date_in_year year_of day_number days_before_year days_of_months
returns-clause-saturday c = refl

pub returns-clause-no_zone : goal.returns-clause-no_zone
unfolding new_calendar days_on first_not_rising pricing_dates days_from read_zone instant is_daylight weekday_in_month date_of date_in_year year_of day_number days_before_year days_of_months
returns-clause-no_zone c = refl

pub returns-clause-backward : goal.returns-clause-backward
unfolding new_calendar days_on first_not_rising pricing_dates days_from read_zone instant is_daylight weekday_in_month date_of date_in_year year_of day_number days_before_year days_of_months
returns-clause-backward c = refl

pub returns-clause-too_long : goal.returns-clause-too_long
unfolding new_calendar days_on first_not_rising pricing_dates days_from read_zone instant is_daylight weekday_in_month date_of date_in_year year_of day_number days_before_year days_of_months
returns-clause-too_long c = refl

pub returns-clause-before_1970 : goal.returns-clause-before_1970
unfolding new_calendar days_on first_not_rising pricing_dates days_from read_zone instant is_daylight weekday_in_month date_of date_in_year year_of day_number days_before_year days_of_months
returns-clause-before_1970 c = refl
