-- That `day_by_split` keeps its contract.
use Rattle.std.proofs.Common.{ap, subst, sym, true, ◌∙◌, ◌≡◌}
use Rattle.register_machine.specs.replay.Positions.{has_room, position_of}
use Rattle.register_machine.specs.replay.Trades.{Day}
use Rattle.household_fold.specs.Limits.{AreLotsWithin}
use Rattle.household_fold.specs.Purchases.{position_in}
use Rattle.household_fold.proofs.LetterSteps.{place-at}
use Rattle.household_fold.proofs.PurchaseFacts.{with-room}
use Rattle.household_fold.proofs.purchase.day_by_split.Goals as goal

pub day_with_purchase-requires-clause-lots : goal.day_with_purchase-requires-clause-lots
day_with_purchase-requires-clause-lots c =
    let day = c.args.day.now in
    let order = c.args.order.now in
    let split = c.args.split.now in
    let P : Day → Type 0 = λ d. AreLotsWithin d.register in
    let room : has_room (position_in day order).holding split.mils c.args.gross.now ≡ true =
    (sym
    (c.has_room.ensures
    ∙ ap (λ r. has_room (position_of r c.number-account.result c.class_number-class.result).holding split.mils c.cents.result) c.register.ensures
    ∙ ap (λ p. has_room p.holding split.mils c.cents.result) (place-at day.register _ _ _ _ c.number-account.ensures.value c.class_number-class.ensures)
    ∙ ap (has_room (position_in day order).holding split.mils) c.cents.ensures.value)
    ∙ c.if-has_room.true) in
    subst P (with-room c.args.facts.now day order c.args.gross.now split room) c.requires.lots
