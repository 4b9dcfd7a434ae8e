-- That `placed_in_book` keeps its contract.
use Rattle.std.proofs.Common.{None, Some, sym, ◌∙◌}
use Rattle.dealer_lines.proofs.PlacedBefore.{before_by_place}
use Rattle.dealer_lines.proofs.repeats.placed_in_book.Goals as goal

pub returns-in-Some : goal.returns-in-Some
returns-in-Some c =
    c.order_at.ensures
    ∙ sym (before_by_place c.args.request.now c.args.book.now.journal (Some c.in-Some.place) (sym c.in-Some.is ∙ c.first_repeated.ensures))

pub returns-in-None : goal.returns-in-None
returns-in-None c =
    sym (before_by_place c.args.request.now c.args.book.now.journal None (sym c.in-None.is ∙ c.first_repeated.ensures))
