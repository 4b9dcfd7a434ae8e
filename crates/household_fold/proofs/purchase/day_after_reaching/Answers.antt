-- That `day_after_reaching` keeps its contract.
use Rattle.std.proofs.Common.{None, ap, ◌∙◌}
use Rattle.register_machine.specs.replay.Positions.{Position}
use Rattle.share_lots.specs.Lots.{Holding}
use Rattle.household_fold.specs.Facts.{sheet_at_hand}
use Rattle.household_fold.proofs.LetterSteps.{reaching-is, released}
use Rattle.household_fold.proofs.purchase.day_after_reaching.Goals as goal

pub returns : goal.returns
returns c =
    let sheet = sheet_at_hand c.args.facts.now in
    let day = c.args.day.now in
    let inside = c.position.inside in
    let left : Holding → Position = λ h. record { account = inside.account; class = inside.class; holding = h; in_cash = inside.in_cash; letter = None } in
    let e = reaching-is sheet day c.number-account.result c.class_number-class.result c.take_out.new.self (left c.release.new.self) c.plain_trade-trade.result
    c.take_out.ensures.rest
    (ap left c.in_ok-release.ensures.released ∙ ap released (c.position.view_is ∙ c.in_ok-position.ensures.position))
    c.plain_trade-trade.ensures in
    c.in_ok-close_trade.ensures ∙ e ∙ cc
