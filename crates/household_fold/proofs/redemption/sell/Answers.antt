-- That `sell` keeps its contract.
use Rattle.std.proofs.Common.{ap, refl, subst, sym, ◌∙◌, ℕ}
use Rattle.contingent_charge.specs.DeferredCharge.{charge_of_pieces}
use Rattle.register_machine.proofs.FoundFacts.{own-class}
use Rattle.share_lots.specs.Taking.{pieces}
use Rattle.register_machine.specs.pricing.CorrectedBook.{schedule_of}
use Rattle.register_machine.specs.replay.Positions.{Position, position_of}
use Rattle.register_machine.specs.replay.Redemption.{position_less, redemption_trade}
use Rattle.register_machine.specs.replay.Trades.{nav_of}
use Rattle.household_fold.specs.Facts.{IsListed, book_of_facts, sheet_at_hand}
use Rattle.household_positions.proofs.DayFacts.{closed-at}
use Rattle.household_fold.proofs.redemption.sell.Goals as goal

pub take_charged-requires-clause-listed : goal.take_charged-requires-clause-listed
take_charged-requires-clause-listed c =
    let trade = c.args.trade.now in
    let class = ap (λ (p : Position). p.class) c.in_ok-position.ensures.position ∙ own-class c.args.day.now.register trade.account trade.class in
    let P : ℕ → Type 0 = λ n. IsListed c.args.facts.now n in
    subst P (sym class) c.requires.listed

pub returns : goal.returns
returns c =
    let sheet = sheet_at_hand c.args.facts.now in
    let book = book_of_facts c.args.facts.now in
    let trade = c.args.trade.now in
    let asked = c.args.asked in
    let found = position_of c.args.day.now.register trade.account trade.class in
    let class = own-class c.args.day.now.register trade.account trade.class in
    let f = λ (y : Position). position_less y asked in
    c.in_ok-close_trade.ensures
    ∙ closed-at c.args.day.now c.take_out.new.self trade.account trade.class trade.account trade.class f _ c.in_ok-position.position _ _
    refl refl c.take_out.ensures.rest c.in_ok-position.ensures.position
    c.in_ok-sold.ensures.left (λ y. refl) (λ y. refl)
    (c.sale_trade-filled.ensures
    ∙ (ap (λ n. redemption_trade trade (nav_of sheet n) asked c.in_ok-sold.sold) (sym class)
    ∙ ap (redemption_trade trade (nav_of sheet found.class) asked)
    (c.in_ok-sold.ensures.charged
    ∙ ap (λ (p : Position). charge_of_pieces (pieces asked p.holding.lots) (nav_of sheet p.class) sheet.day (schedule_of book p.class)) c.in_ok-position.ensures.position)))
