-- A price table to try the definitions on: New York's pricing days from 1 to 5 July 2024, at 16:00, without the 4th.
use Rattle.std.specs.Prelude.{ℕ, List, [], ◌∷◌}
use Rattle.fund_calendar.specs.PricingDays.{Listing}
use Rattle.forward_price.specs.declared.price_sheet.Opening.{Opening}
use Rattle.forward_price.specs.declared.price_sheet.Sheet.{Sheet}
use Rattle.forward_price.specs.PriceTables.{Table}

abbrev pub july : ℕ → Listing
july number = record {
  number = number;
  days = record { day = 19905; moment = 1719864000 } ∷ record { day = 19906; moment = 1719950400 }
      ∷ record { day = 19907; moment = 1720036800 } ∷ record { day = 19909; moment = 1720209600 }
      ∷ [];
}

-- class 24 of calendar 2 and class 14 of calendar 1 were opened in the morning of the 1st, and class 13 at 16:00
abbrev pub openings : List Opening
openings = record { class = 24; calendar = 2; opened = 1719835200 }
    ∷ record { class = 14; calendar = 1; opened = 1719835200 }
    ∷ record { class = 13; calendar = 1; opened = 1719864000 } ∷ []

-- the sheets of the 1st and the 2nd of calendar 1
abbrev pub first_sheet : Sheet
first_sheet = record {
  number = 1;
  calendar = 1;
  moment = 1719864000;
  day = 19905;
  prices =
      (14, 1000) ∷ [];
}

abbrev pub second_sheet : Sheet
second_sheet = record {
  number = 3;
  calendar = 1;
  moment = 1719950400;
  day = 19906;
  prices =
      (13, 2000) ∷ (14, 1100) ∷ [];
}

abbrev pub on_first : Table
on_first = record { calendars = july 2 ∷ july 1 ∷ []; classes = openings; sheets = [] }

abbrev pub sheets_of_july : List Sheet
sheets_of_july = first_sheet ∷ record { number = 2; calendar = 2; moment = 1719864000; day = 19905; prices = (24, 500) ∷ [] } ∷ second_sheet ∷ []
