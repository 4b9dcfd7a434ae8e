-- That `reserve_moves` keeps its contract.
use Rattle.checkpoint_replay.specs.Moves.{HasTradeRoom}
use Rattle.std.proofs.Common.{All, arith, subst, take, ◌∙◌}
use Rattle.std.proofs.lemmas.List.{take_all}
use Rattle.std.proofs.lemmas.List.Elements.{All-more, All-weaker}
use Rattle.checkpoint_replay.proofs.parts.reserve_moves.Goals as goal

pub loop-change-preserved : goal.loop-change-preserved
loop-change-preserved c =
    let held = c.loop-change.invariant in
    let kept = c.in_ok-reserve_trades.ensures in
    record {
      room = omega (arith, held.room, kept.room);
      trades = All-more (HasTradeRoom c.reserve_trades.new.parts.entries) c.args.moves.now c.loop-change.change-index c.change-item.result (omega (arith, c.loop-change-test.true))
          (All-weaker (HasTradeRoom c.loop-change.parts.entries) (HasTradeRoom c.reserve_trades.new.parts.entries) kept.rooms (take c.loop-change.change-index c.args.moves.now) held.trades)
          (subst (HasTradeRoom c.reserve_trades.new.parts.entries) c.change-item.is kept.trades);
      same = λ household. kept.same household ∙ held.same household;
      own = λ before. kept.own (held.own before);
    }

pub returns-clause-trades : goal.returns-clause-trades
returns-clause-trades c =
    subst (All (HasTradeRoom c.loop-change.parts.entries)) (take_all c.loop-change.change-index c.args.moves.now (omega (arith, c.loop-change-test.false))) c.loop-change.invariant.trades
