-- That `move_shares` keeps its contract.
use Rattle.std.proofs.Common.{ap, ◌∙◌}
use Rattle.register_machine.proofs.FoundFacts.{own-account, own-class}
use Rattle.register_machine.specs.replay.Exchange.{position_with_pieces}
use Rattle.register_machine.specs.replay.Positions.{Position, position_of, put}
use Rattle.register_machine.specs.replay.Redemption.{position_less}
use Rattle.register_machine.specs.replay.Trades.{Day, day_after_trade, with_position}
use Rattle.household_fold.specs.Exchanges.{source_of, target_of}
use Rattle.household_fold.proofs.ExchangeFacts.{given-closed, room-parts, target-closed, target-given}
use Rattle.household_fold.proofs.LotNumbers.{put-number}
use Rattle.household_fold.proofs.exchange.move_shares.Goals as goal

pub add_pieces-requires-clause-few_mils : goal.add_pieces-requires-clause-few_mils
add_pieces-requires-clause-few_mils c =
    let day = c.args.day.now in
    let shares = c.args.shares.now in
    let given = c.in_ok-give_shares.ensures in
    let stays = ap (λ (d : Day). position_of d.register shares.account shares.to) given ∙ target-given day shares in
    let held = ap (λ (p : Position). p.holding) (c.target.view_is ∙ (c.in_ok-target.ensures.position ∙ stays)) in
    let room = room-parts (target_of day.register shares).holding c.args.moved.now.mils c.args.moved.now.cost c.requires.room in
    rw (held, c.as_slice.ensures, ← c.requires.mils) room.mils_fit

pub add_pieces-requires-clause-low_cost : goal.add_pieces-requires-clause-low_cost
add_pieces-requires-clause-low_cost c =
    let day = c.args.day.now in
    let shares = c.args.shares.now in
    let given = c.in_ok-give_shares.ensures in
    let stays = ap (λ (d : Day). position_of d.register shares.account shares.to) given ∙ target-given day shares in
    let held = ap (λ (p : Position). p.holding) (c.target.view_is ∙ (c.in_ok-target.ensures.position ∙ stays)) in
    let room = room-parts (target_of day.register shares).holding c.args.moved.now.mils c.args.moved.now.cost c.requires.room in
    rw (held, c.as_slice.ensures, ← c.requires.cost) room.cost_fits

pub add_pieces-requires-clause-next : goal.add_pieces-requires-clause-next
add_pieces-requires-clause-next c =
    let day = c.args.day.now in
    let shares = c.args.shares.now in
    let given = c.in_ok-give_shares.ensures in
    let stays = ap (λ (d : Day). position_of d.register shares.account shares.to) given ∙ target-given day shares in
    let held = ap (λ (p : Position). p.holding) (c.target.view_is ∙ (c.in_ok-target.ensures.position ∙ stays)) in
    rw (held, c.as_slice.ensures)
    (put-number (position_with_pieces (target_of day.register shares) c.args.moved.now.pieces)
    (put (position_less (source_of day.register shares) shares.asked) day.register) c.requires.lots)

pub returns : goal.returns
returns c =
    let day = c.args.day.now in
    let shares = c.args.shares.now in
    let given = c.in_ok-give_shares.ensures in
    let stays = ap (λ (d : Day). position_of d.register shares.account shares.to) given ∙ target-given day shares in
    let into = c.target.inside in
    let q : Position = position_with_pieces (target_of day.register shares) c.args.moved.now.pieces in
    let y : Position = record { account = into.account; class = into.class; holding = into.holding; in_cash = into.in_cash; letter = into.letter } in
    target-closed day c.give_shares.new.day c.take_out.new.self c.close_trade.new.self shares.account shares.to c.args.moved.now.pieces y
    c.add_pieces.new.holding c.exchange_trade-filled.result stays c.take_out.ensures.rest (c.target.view_is ∙ c.in_ok-target.ensures.position)
    (rw (← c.as_slice.ensures) c.in_ok-add_pieces.ensures) c.in_ok-close_trade.ensures
    ∙ (ap (λ (d : Day). day_after_trade d q c.exchange_trade-filled.result) given
    ∙ (given-closed day shares q c.exchange_trade-filled.result
    (own-account day.register shares.account shares.to) (own-class day.register shares.account shares.to)
    ∙ ap (day_after_trade (with_position day (position_less (source_of day.register shares) shares.asked)) q) c.exchange_trade-filled.ensures))
