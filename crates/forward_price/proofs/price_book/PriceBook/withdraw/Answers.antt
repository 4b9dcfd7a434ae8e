-- That `PriceBook::withdraw` keeps its contract.
use Rattle.std.proofs.Common.{arith}
use Rattle.std.proofs.lemmas.Grind.{common_steps}
use Rattle.forward_price.proofs.NumberFacts.{numbered_less}
use Rattle.forward_price.proofs.SearchFacts.{falls_taken}
use Rattle.forward_price.proofs.TurnFacts.{none_passed}
use Rattle.forward_price.proofs.price_book.PriceBook.withdraw.Goals as goal

pub invariant_of-self : goal.invariant_of-self
invariant_of-self c = record {
  calendars_fit = c.self.invariant.calendars_fit;
  classes_fit = c.self.invariant.classes_fit;
  room_empty = c.given_back-self-inside.ensures.emptied;
  list_fits = c.given_back-self-inside.ensures.fits;
  sheet_fits = λ some. grind (arith, common_steps);
  none_passed = rw c.start-self-inside.ensures (none_passed _ _ _);
  numbered = rw c.in-Some.ensures.rest (numbered_less c.self.inside.sheets.items _ c.self.invariant.numbered);
  in_order = λ on. rw c.in-Some.ensures.rest (falls_taken _ c.self.inside.sheets.items (c.self.invariant.in_order on));
}

pub invariant_of-self-in-None : goal.invariant_of-self-in-None
invariant_of-self-in-None c = record {
  calendars_fit = c.self.invariant.calendars_fit;
  classes_fit = c.self.invariant.classes_fit;
  room_empty = c.self.invariant.room_empty;
  list_fits = c.self.invariant.list_fits;
  sheet_fits = λ some. omega arith;
  none_passed = rw c.start-self-inside.ensures (none_passed _ _ _);
  numbered = rw c.pop.ensures.rest (numbered_less c.self.inside.sheets.items _ c.self.invariant.numbered);
  in_order = λ on. rw c.pop.ensures.rest (falls_taken _ c.self.inside.sheets.items (c.self.invariant.in_order on));
}
