-- That `day_after_settlement` keeps its contract.
use Rattle.std.proofs.Common.{None, Some, ap, subst, sym, ◌∙◌, ◌≡◌}
use Rattle.letter_of_intent.specs.Letters.{settlement}
use Rattle.register_machine.specs.pricing.CorrectedBook.{front_of}
use Rattle.register_machine.specs.replay.Letter.{day_after_end_of}
use Rattle.register_machine.specs.replay.Positions.{Position, position_at}
use Rattle.register_machine.specs.replay.Trades.{Day, nav_of}
use Rattle.share_lots.specs.Lots.{Holding, held_total, release_all}
use Rattle.household_fold.specs.Facts.{book_of_facts, sheet_at_hand}
use Rattle.household_fold.specs.Limits.{AreLettersWithin}
use Rattle.household_fold.proofs.LetterSteps.{ended-within, paid_and_released, place-at, settled-is, without-at}
use Rattle.household_fold.proofs.letters.day_after_settlement.Goals as goal

day-is : (c : goal.In_ok-close_trade) → c.close_trade.new.self ≡ day_after_end_of (book_of_facts c.args.facts.now) (sheet_at_hand c.args.facts.now) c.args.day.now (position_at c.args.day.now.register c.args.key.now) (Some c.args.letter.now)
day-is c =
    let book = book_of_facts c.args.facts.now in
    let sheet = sheet_at_hand c.args.facts.now in
    let day = c.args.day.now in
    let key = c.args.key.now in
    let letter = c.args.letter.now in
    let account = ap (λ k. k.account) c.key.view_is in
    let class = ap (λ k. k.class) c.key.view_is in
    let settled = c.settle-settled.result in
    let inside = c.position.inside in
    let left : Holding → Position = λ h. record { account = inside.account; class = inside.class; holding = h; in_cash = inside.in_cash; letter = None } in
    let there = c.position.view_is ∙ c.in_ok-position.ensures.position ∙ place-at day.register _ _ _ _ account class in
    c.in_ok-close_trade.ensures
    ∙ settled-is book sheet day key letter settled c.take_out.new.self (left c.release.new.self) c.letter_end_trade-trade.result
    (c.take_out.ensures.rest ∙ without-at day _ _ _ _ account class)
    (ap left (c.in_ok-release.ensures.released ∙ ap release_all c.in_ok-pay_held.ensures.paid) ∙ ap (paid_and_released settled.paid) there)
    c.letter_end_trade-trade.ensures
    (c.settle-settled.ensures.settlement
    ∙ ap (λ f. settlement f letter c.nav.result c.held-held.result) (c.terms_of.ensures.front ∙ ap (front_of book) class)
    ∙ ap (λ n. settlement (front_of book key.class) letter n c.held-held.result) (c.nav.ensures ∙ ap (nav_of sheet) class)
    ∙ ap (λ h. settlement (front_of book key.class) letter (nav_of sheet key.class) h) (c.held-held.ensures.total ∙ ap (λ p. held_total p.holding) there))

pub returns-clause-day : goal.returns-clause-day
returns-clause-day c = day-is c

pub returns-clause-within : goal.returns-clause-within
returns-clause-within c =
    let P : Day → Type 0 = λ d. AreLettersWithin d.register in
    subst P (sym (day-is c))
    (ended-within (book_of_facts c.args.facts.now) (sheet_at_hand c.args.facts.now) c.args.day.now c.args.key.now c.args.letter.now c.requires.letters)
