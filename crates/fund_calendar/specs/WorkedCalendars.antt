-- Terms and pricing days to try the definitions on.
use Rattle.std.specs.Prelude.{[], ◌∷◌, codes}
use Rattle.fund_calendar.specs.PricingDays.{CalendarTerms, Listing}

-- New York at 16:00, from Friday 2024-11-01 to Monday 2024-11-04; the clocks change on the Sunday
abbrev pub new_york : CalendarTerms
new_york = record {
  number = 1;
  zone = codes "EST5EDT,M3.2.0,M11.1.0";
  minute = 960;
  first = 20028;
  last = 20031;
  holidays = [];
}

-- at 20:00 and at 21:00 UTC
abbrev pub over_the_change : Listing
over_the_change = record {
  number = 1;
  days =
      record { day = 20028; moment = 1730491200 }
      ∷ record { day = 20031; moment = 1730754000 } ∷ [];
}

-- 2024-07-03 and 2024-07-05
abbrev pub over_the_holiday : Listing
over_the_holiday = record {
  number = 1;
  days =
      record { day = 19907; moment = 1720036800 }
      ∷ record { day = 19909; moment = 1720209600 } ∷ [];
}

-- a zone without daylight time, at 16:00 on one day
abbrev pub greenwich : CalendarTerms
greenwich = record {
  number = 1;
  zone = codes "UTC0";
  minute = 960;
  first = 20028;
  last = 20028;
  holidays = [];
}

-- 2024-07-01 and 2024-07-02 in New York
abbrev pub july : Listing
july = record {
  number = 1;
  days =
      record { day = 19905; moment = 1719864000 }
      ∷ record { day = 19906; moment = 1719950400 } ∷ [];
}
