-- That `give_shares` keeps its contract.
use Rattle.std.proofs.Common.{◌∙◌}
use Rattle.register_machine.specs.replay.Positions.{Position}
use Rattle.household_fold.proofs.ExchangeFacts.{given-apart, source-back}
use Rattle.household_fold.proofs.exchange.give_shares.Goals as goal

pub returns : goal.returns
returns c =
    let day = c.args.day.now in
    let shares = c.args.shares.now in
    let from = c.source.inside in
    let x : Position = record { account = from.account; class = from.class; holding = from.holding; in_cash = from.in_cash; letter = from.letter } in
    given-apart day c.put_back.new.self shares c.if-shares.false
    (source-back day c.take_out.new.self c.put_back.new.self shares.account shares.class shares.asked x c.remove.new.self
    c.take_out.ensures.rest (c.source.view_is ∙ c.in_ok-source.ensures.position) c.in_ok-remove.ensures.rest c.in_ok-put_back.ensures)
