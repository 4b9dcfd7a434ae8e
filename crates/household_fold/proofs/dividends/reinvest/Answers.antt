-- That `reinvest` keeps its contract.
use Rattle.std.proofs.Common.{ap, ◌∙◌, true}
use Rattle.register_machine.specs.replay.Positions.{Position, position_of, with_holding}
use Rattle.share_lots.specs.Lots.{shares_added}
use Rattle.household_fold.specs.Facts.{sheet_at_hand}
use Rattle.household_fold.proofs.DividendFacts.{reinvested}
use Rattle.household_fold.proofs.LotNumbers.{put-number}
use Rattle.household_fold.proofs.dividends.reinvest.Goals as goal

pub add-requires-clause-next : goal.add-requires-clause-next
add-requires-clause-next c =
    let known = c.args.facts.now in
    let p = position_of c.args.day.now.register c.args.account c.args.class in
    let held = ap (λ (x : Position). x.holding) (c.position.view_is ∙ c.in_ok-position.ensures.position) in
    rw (held, c.day.ensures)
    (put-number (with_holding p (shares_added p.holding (sheet_at_hand known).day c.args.mils c.args.cash true).holding) c.args.day.now.register c.requires.lots)

pub returns : goal.returns
returns c =
    let known = c.args.facts.now in
    let inside = c.position.inside in
    let x : Position = record { account = inside.account; class = inside.class; holding = inside.holding; in_cash = inside.in_cash; letter = inside.letter } in
    reinvested (sheet_at_hand known) c.args.day.now c.take_out.new.self c.close_trade.new.self c.args.account c.args.class c.args.cash c.args.mils
    c.in_ok-add.field-0 x c.add.new.self c.dividend_trade-trade.result
    c.take_out.ensures.rest (c.position.view_is ∙ c.in_ok-position.ensures.position)
    (rw (← c.day.ensures) c.in_ok-add.ensures.added) c.dividend_trade-trade.ensures (c.in_ok-close_trade.ensures)
