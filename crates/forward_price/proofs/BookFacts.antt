-- What keeps a price book as its code holds it where no pricing moment is known to be passed.
use Rattle.std.proofs.Common.{◌≡◌, ◌+◌, ◌≤◌, vec_len, vec_capacity}
use Rattle.forward_price.specs.declared.price_book.PriceBook.TheInside.{Inside}
use Rattle.forward_price.specs.Kept.{KeepsBook}
use Rattle.forward_price.proofs.TurnFacts.{none_passed}

-- its calendars and classes, with what is spare, may be others
pub keeps_unpassed : (old new : Inside) → KeepsBook old → vec_len new.calendars + new.spare ≤ vec_capacity new.calendars → vec_len new.classes + new.spare ≤ vec_capacity new.classes
    → new.sheets ≡ old.sheets → new.room ≡ old.room → new.list ≡ old.list → new.in_order ≡ old.in_order → new.passed ≡ 0 → KeepsBook new
keeps_unpassed old new kept calendars_fit classes_fit sheets room list in_order passed = record {
  calendars_fit = calendars_fit;
  classes_fit = classes_fit;
  room_empty = rw room kept.room_empty;
  list_fits = rw (room, list) kept.list_fits;
  sheet_fits = rw (sheets, list) kept.sheet_fits;
  none_passed = rw passed (none_passed _ _ _);
  numbered = rw sheets kept.numbered;
  in_order = rw (sheets, in_order) kept.in_order;
}
