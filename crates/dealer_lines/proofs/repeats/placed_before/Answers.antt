-- That `placed_before` keeps its contract.
use Rattle.std.proofs.Common.{find, sym, ap, ◌∙◌}
use Rattle.std.specs.Option.{option_or}
use Rattle.dealer_lines.proofs.PlacedBefore.{placed_behind}
use Rattle.dealer_lines.proofs.repeats.placed_before.Goals as goal
use Rattle.dealer_lines.specs.Repeats.{is_repeat}

-- the journal's order, where it has one
pub returns-in-Some : goal.returns-in-Some
returns-in-Some c = λ moment.
    sym
    (placed_behind c.args.request.now c.args.book.now.journal moment c.args.earlier.now c.requires.line
    ∙ ap (λ found. option_or found (find (is_repeat c.args.request.now) c.args.earlier.now)) (sym c.placed_in_book.ensures ∙ c.in-Some.is))

-- else that of an earlier line
pub returns-in-None : goal.returns-in-None
returns-in-None c = λ moment.
    c.placed_earlier.ensures
    ∙ sym
    (placed_behind c.args.request.now c.args.book.now.journal moment c.args.earlier.now c.requires.line
    ∙ ap (λ found. option_or found (find (is_repeat c.args.request.now) c.args.earlier.now)) (sym c.placed_in_book.ensures ∙ c.in-None.is))
