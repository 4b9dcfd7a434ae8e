-- A date of jiff as the definitions see it.
use Rattle.std.specs.Prelude.{unsigned_abs}
use Rattle.jiff_core.specs.declared.civil.date.Date.{Date}
use Rattle.fund_calendar.specs.Dates.{YearMonthDay}

abbrev pub year_month_day : Date → YearMonthDay
year_month_day d = record { year = unsigned_abs d.year; month = d.month; day = d.day }
