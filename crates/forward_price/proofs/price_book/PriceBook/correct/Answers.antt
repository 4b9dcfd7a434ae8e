-- That `PriceBook::correct` keeps its contract.
use Rattle.std.proofs.Common.{◌≡◌, ◌++◌, take, drop, length, ap, ◌∙◌, arith}
use Rattle.std.proofs.lemmas.Grind.{common_steps}
use Rattle.forward_price.proofs.NumberFacts.{numbered_corrected}
use Rattle.forward_price.proofs.SearchFacts.{falls_corrected}
use Rattle.forward_price.proofs.PatchFacts.{none_awaited-kept}
use Rattle.forward_price.specs.PriceTables.{sheets_with_nav}
use Rattle.forward_price.proofs.price_book.PriceBook.correct.Goals as goal

pub invariant_of-self : goal.invariant_of-self
invariant_of-self c =
    let sheets = c.self.inside.sheets.items in
    let there = c.deref_mut.ensures.value in
    let after = c.correct_sheets.ensures ∙ ap (sheets_with_nav c.args.class c.args.sheet c.args.nav) there in
    let whole : take c.self.inside.sheets.len (c.correct_sheets.new.sheets ++ drop (length c.correct_sheets.new.sheets) sheets) ≡ sheets_with_nav c.args.class c.args.sheet c.args.nav sheets = rw after (grind (arith, common_steps)) in record {
      calendars_fit = c.self.invariant.calendars_fit;
      classes_fit = c.self.invariant.classes_fit;
      room_empty = c.self.invariant.room_empty;
      list_fits = c.self.invariant.list_fits;
      sheet_fits = c.self.invariant.sheet_fits;
      none_passed = rw whole (none_awaited-kept c.args.class c.args.sheet c.args.nav _ _ sheets c.self.inside.passed c.self.invariant.none_passed);
      numbered = rw whole (numbered_corrected c.args.class c.args.sheet c.args.nav sheets c.self.invariant.numbered);
      in_order = λ on. rw whole (falls_corrected c.args.class c.args.sheet c.args.nav sheets (c.self.invariant.in_order on));
    }
