-- That `expected` keeps its contract.
use Rattle.std.proofs.Common.{◌≡◌, ℕ, ◌<◌, true, All, get_or, ◌++◌, ◌+◌, take, sym, subst, ◌∙◌, ap, arith}
use Rattle.std.proofs.lemmas.List.{take_all}
use Rattle.forward_price.specs.Choices.{IsChoice}
use Rattle.forward_price.specs.Turns.{is_awaited, is_sooner, pairs_of, pricing_pairs, expected_in}
use Rattle.forward_price.proofs.ChoiceFacts.{better_of-choice, best-choice, same_choice}
use Rattle.forward_price.proofs.TurnFacts.{sooner-order, sooner-total, pairs_more, pairs_at}
use Rattle.forward_price.proofs.expecting.expected.Goals as goal

pub loop-calendar-preserved : goal.loop-calendar-preserved
loop-calendar-preserved c =
    let passes = is_awaited c.args.classes.now c.args.sheets.now in
    let i = c.loop-calendar.calendar-index in
    let here = c.calendar-item.result in
    let more = pairs_more c.args.calendars.now i here (omega arith) in
    let item = c.calendar-item.is in
    let both = better_of-choice passes is_sooner sooner-order (pricing_pairs (take i c.args.calendars.now)) (pairs_of here) c.loop-calendar.found c.first_awaited.result c.loop-calendar.invariant c.first_awaited.ensures in
    let pairs : pricing_pairs (take (i + 1) c.args.calendars.now) ≡ pricing_pairs (take i c.args.calendars.now) ++ pairs_of here =
    more ∙ ap (λ d. pricing_pairs (take i c.args.calendars.now) ++ pairs_of d) (sym item) in
    subst (λ ps. IsChoice passes is_sooner ps c.sooner_of-found.result) (sym pairs) (subst (λ r. IsChoice passes is_sooner (pricing_pairs (take i c.args.calendars.now) ++ pairs_of here) r) (sym c.sooner_of-found.ensures) both)

pub returns : goal.returns
returns c =
    let passes = is_awaited c.args.classes.now c.args.sheets.now in
    let all = take_all c.loop-calendar.calendar-index c.args.calendars.now (omega arith) in
    same_choice passes is_sooner sooner-total (pricing_pairs c.args.calendars.now) c.loop-calendar.found (expected_in c.args.calendars.now c.args.classes.now c.args.sheets.now)
    (subst (λ calendars. IsChoice passes is_sooner (pricing_pairs calendars) c.loop-calendar.found) all c.loop-calendar.invariant)
    (best-choice passes is_sooner sooner-order (pricing_pairs c.args.calendars.now))

pub first_awaited-requires : goal.first_awaited-requires
first_awaited-requires c =
    let calendars = c.args.calendars.now in
    let i = c.loop-calendar.calendar-index in
    let P = (λ (pair : ℕ × ℕ). is_awaited c.args.classes.now c.args.sheets.now pair ≡ true → c.args.passed < pair.0) in
    let here : All P (pairs_of (get_or calendars i c.calendar-item.result)) = pairs_at P calendars i c.calendar-item.result c.loop-calendar-test.true c.requires.later in
    subst (λ d. All P (pairs_of d)) (sym c.calendar-item.is) here
