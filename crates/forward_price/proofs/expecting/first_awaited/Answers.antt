-- That `first_awaited` keeps its contract.
use Rattle.std.proofs.Common.{◌≡◌, sym, ap, ◌∙◌, true}
use Rattle.forward_price.specs.Turns.{is_awaited}
use Rattle.forward_price.proofs.TurnFacts.{first_awaited-found, first_awaited-none, none_up_to}
use Rattle.forward_price.proofs.expecting.first_awaited.Goals as goal

pub returns-then-is_awaited : goal.returns-then-is_awaited
returns-then-is_awaited c =
    let passes = is_awaited c.args.classes.now c.args.sheets.now in
    let number = c.number-number.ensures in
    let awaited : passes (c.in-Some.moment, c.args.calendar.now.number) ≡ true =
    ap (λ n. passes (c.in-Some.moment, n)) (sym number) ∙ sym c.is_awaited.ensures ∙ c.if-is_awaited.true in
    rw number (first_awaited-found passes c.args.calendar.now c.loop-moment.at c.in-Some.moment c.loop-moment.invariant (sym c.in-Some.ensures.first) c.in-Some.ensures.least awaited)

pub returns : goal.returns
returns c =
    first_awaited-none (is_awaited c.args.classes.now c.args.sheets.now) c.args.calendar.now c.loop-moment.at c.loop-moment.invariant c.in_default.ensures.none

pub loop-moment-init : goal.loop-moment-init
loop-moment-init c = none_up_to (is_awaited c.args.classes.now c.args.sheets.now) c.args.calendar.now c.args.passed c.requires
