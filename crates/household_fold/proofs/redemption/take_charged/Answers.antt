-- That `take_charged` keeps its contract.
use Rattle.std.proofs.Common.{ap, ◌∙◌}
use Rattle.contingent_charge.specs.DeferredCharge.{charge_of_pieces}
use Rattle.share_lots.specs.Taking.{pieces}
use Rattle.register_machine.specs.pricing.CorrectedBook.{schedule_of}
use Rattle.register_machine.specs.replay.Positions.{Position}
use Rattle.register_machine.specs.replay.Trades.{nav_of}
use Rattle.household_fold.specs.Facts.{book_of_facts, sheet_at_hand}
use Rattle.household_fold.proofs.redemption.take_charged.Goals as goal

pub returns-clause-charged : goal.returns-clause-charged
returns-clause-charged c =
    let sheet = sheet_at_hand c.args.facts.now in
    let book = book_of_facts c.args.facts.now in
    let class = c.position.inside.class in
    c.charge_on.ensures
    ∙ (ap (λ taken. charge_of_pieces taken (nav_of sheet class) sheet.day (schedule_of book class)) c.in_ok-taken.ensures.pieces
    ∙ ap (λ (p : Position). charge_of_pieces (pieces c.args.asked p.holding.lots) (nav_of sheet p.class) sheet.day (schedule_of book p.class)) c.position.view_is)
