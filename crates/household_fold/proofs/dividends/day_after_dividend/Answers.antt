-- That `day_after_dividend` keeps its contract.
use Rattle.std.proofs.Common.{ap, subst, sym, ◌∙◌}
use Rattle.dividend_reinvest.specs.declared.payment.Payment.{Payment}
use Rattle.register_machine.specs.replay.Dividend.{payment_on}
use Rattle.register_machine.specs.replay.Positions.{Register, position_of}
use Rattle.household_fold.specs.Dividends.{payment_known}
use Rattle.household_fold.specs.Facts.{sheet_at_hand}
use Rattle.household_fold.specs.Numbers.{AreNumbersWithin}
use Rattle.household_fold.proofs.DividendFacts.{paid-cash}
use Rattle.household_fold.proofs.dividends.day_after_dividend.Goals as goal

pub reinvest-requires-clause-lots : goal.reinvest-requires-clause-lots
reinvest-requires-clause-lots c =
    let at = ap (λ (register : Register). payment_on c.args.rate c.args.nav (position_of register c.args.account c.args.class)) (sym c.register.ensures) in
    subst (λ (payment : Payment). AreNumbersWithin (payment_known c.args.facts.now c.args.day.now c.args.account c.args.class payment).register)
    (at ∙ (sym c.payment_at.ensures.payment ∙ c.in-Shares.is)) c.requires.lots

pub returns-in_ok-add_trade-in-Cash : goal.returns-in_ok-add_trade-in-Cash
returns-in_ok-add_trade-in-Cash c =
    let at = ap (λ (register : Register). payment_on c.args.rate c.args.nav (position_of register c.args.account c.args.class)) (sym c.register.ensures) in
    c.in_ok-add_trade-in-Cash.ensures
    ∙ (rw c.cash_dividend_trade.ensures (paid-cash (sheet_at_hand c.args.facts.now) c.args.day.now c.args.account c.args.class c.in-Cash.cash
    (payment_on c.args.rate c.args.nav (position_of c.args.day.now.register c.args.account c.args.class)) (at ∙ (sym c.payment_at.ensures.payment ∙ c.in-Cash.is))))
