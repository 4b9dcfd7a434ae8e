-- That `PriceBook::close_day` keeps its contract.
use Rattle.std.proofs.Common.{◌≡◌, false, map, sym, ap, ◌∙◌, ◌++◌, take, drop, length, arith, refl}
use Rattle.std.proofs.lemmas.Grind.{common_steps}
use Rattle.forward_price.specs.PriceTables.{closed_in, is_priced}
use Rattle.forward_price.proofs.BookFacts.{keeps_unpassed}
use Rattle.forward_price.proofs.CloseFacts.{none_closed, on_false}
use Rattle.forward_price.proofs.price_book.PriceBook.close_day.Goals as goal

pub returns-clause-unchanged : goal.returns-clause-unchanged
returns-clause-unchanged c =
    let calendars = c.self.inside.calendars.items in
    let there = c.deref_mut.ensures.value in
    on_false _ c.close_day.result (λ none.
    let fails : is_priced calendars c.args.calendar c.args.day ≡ false = ap (λ cs. is_priced cs c.args.calendar c.args.day) (sym there) ∙ sym c.close_day.ensures.answer ∙ none in
    let same : c.close_day.new.calendars ≡ calendars = c.close_day.ensures.closed ∙ ap (map (closed_in c.args.calendar c.args.day)) there ∙ none_closed c.args.calendar c.args.day calendars fails in
    let whole : take c.self.inside.calendars.len (c.close_day.new.calendars ++ drop (length c.close_day.new.calendars) calendars) ≡ calendars = rw same (grind (arith, common_steps)) in
    rw whole c.self.view_is)

pub invariant_of-self : goal.invariant_of-self
invariant_of-self c =
    keeps_unpassed c.self.inside _ c.self.invariant c.self.invariant.calendars_fit c.self.invariant.classes_fit refl refl refl refl c.start-self-inside.ensures
