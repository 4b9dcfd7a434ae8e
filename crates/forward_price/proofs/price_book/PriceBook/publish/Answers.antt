-- That `PriceBook::publish` keeps its contract.
use Rattle.std.proofs.Common.{◌≡◌, ◌<◌, Some, length, ap, arith, ◌∙◌}
use Rattle.forward_price.specs.PriceTables.{Table}
use Rattle.forward_price.specs.Turns.{expected_in, expected_of}
use Rattle.forward_price.proofs.NumberFacts.{numbered_more}
use Rattle.forward_price.proofs.TurnFacts.{none_after_publish}
use Rattle.forward_price.proofs.SearchFacts.{falls_pushed}
use Rattle.forward_price.proofs.CompleteFacts.{some_listed}
use Rattle.forward_price.proofs.price_book.PriceBook.publish.Goals as goal

pub push_reserved-requires : goal.push_reserved-requires
push_reserved-requires c =
    let some : 0 < length c.args.prices.now = some_listed c.args.self.now.table c.args.calendar c.args.moment c.args.prices.now c.requires.expected c.requires.complete in
    c.self.invariant.sheet_fits (omega (arith, some, c.requires.room, ap (λ b. b.list) c.self.view_is))

pub invariant_of-self : goal.invariant_of-self
invariant_of-self c =
    let inside = c.self.inside in
    let there = c.deref-2.ensures.value in
    let expected : expected_in inside.calendars.items inside.classes.items inside.sheets.items ≡ Some (c.args.moment, c.args.calendar) =
    ap (λ b. expected_of b.table) c.self.view_is ∙ c.requires.expected in
    let t : Table = record { calendars = inside.calendars.items; classes = inside.classes.items; sheets = inside.sheets.items } in record {
      calendars_fit = c.self.invariant.calendars_fit;
      classes_fit = c.self.invariant.classes_fit;
      room_empty = c.filled-prices.ensures.emptied;
      list_fits = omega arith;
      sheet_fits = λ none. absurd (omega arith);
      none_passed = rw (c.earlier-self-inside.ensures, c.push_reserved.ensures.items) (none_after_publish t (c.args.moment, c.args.calendar) _ expected);
      numbered = rw c.push_reserved.ensures.items (numbered_more inside.sheets.items _ c.self.invariant.numbered (omega arith));
      in_order = λ on. rw c.push_reserved.ensures.items (falls_pushed inside.sheets.items _ (rw there at (c.stays_in_order-in_order.ensures.before on)) (rw there at (c.stays_in_order-in_order.ensures.last on)));
    }
