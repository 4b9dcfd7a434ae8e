-- What is true of a price book as its code holds it.
use Rattle.std.specs.Prelude.{◌≡◌, true, ◌+◌, ◌<◌, ◌≤◌, [], vec_len, vec_capacity}
use Rattle.forward_price.specs.declared.price_book.PriceBook.TheInside.{Inside}
use Rattle.forward_price.specs.PriceTables.{AreNumbered, NeverFall}
use Rattle.forward_price.specs.Turns.{NoneAwaitedTo}

-- what is spare fits without memory, so does the list of the next sheet, which then has a place itself; no pricing moment
-- up to the one that was passed is awaited; the sheets are numbered; and their moments never fall where the book says so
pub record KeepsBook (book : Inside) : Type 0 where
  pub calendars_fit : vec_len book.calendars + book.spare ≤ vec_capacity book.calendars
  pub classes_fit : vec_len book.classes + book.spare ≤ vec_capacity book.classes
  pub room_empty : book.room.items ≡ []
  pub list_fits : book.list ≤ vec_capacity book.room
  pub sheet_fits : 0 < book.list → vec_len book.sheets < vec_capacity book.sheets
  pub none_passed : NoneAwaitedTo book.calendars.items book.classes.items book.sheets.items book.passed
  pub numbered : AreNumbered book.sheets.items
  pub in_order : book.in_order ≡ true → NeverFall book.sheets.items
