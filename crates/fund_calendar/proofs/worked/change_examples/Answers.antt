-- The worked rows of `change_examples`, reckoned.
use Rattle.std.proofs.Common.{refl}
use Rattle.fund_calendar.specs.Dates.{date_of, date_in_year, year_of, day_number, days_before_year, days_of_months}
use Rattle.fund_calendar.specs.ZoneRules.{instant, is_daylight, weekday_in_month}
use Rattle.fund_calendar.specs.ZoneText.{read_zone}
use Rattle.fund_calendar.proofs.worked.change_examples.Goals as goal

pub returns-clause-skipped : goal.returns-clause-skipped
unfolding read_zone instant is_daylight weekday_in_month date_of date_in_year year_of day_number days_before_year days_of_months
returns-clause-skipped c = refl

pub returns-clause-twice : goal.returns-clause-twice
unfolding read_zone instant is_daylight weekday_in_month date_of date_in_year year_of day_number days_before_year days_of_months
returns-clause-twice c = refl

pub returns-clause-southern : goal.returns-clause-southern
unfolding read_zone instant is_daylight weekday_in_month date_of date_in_year year_of day_number days_before_year days_of_months
returns-clause-southern c = refl

pub returns-clause-new_year : goal.returns-clause-new_year
unfolding read_zone instant is_daylight weekday_in_month date_of date_in_year year_of day_number days_before_year days_of_months
returns-clause-new_year c = refl
