-- That `tally_of_moves` keeps its contract.
use Rattle.checkpoint_replay.proofs.CommonFront.{net-cash_more, net-mils_more}
use Rattle.gain_loss_book.specs.Tallies.{cash_tallied, mils_tallied}
use Rattle.checkpoint_replay.proofs.differences.tally_of_moves.Goals as goal

pub loop-change-preserved : goal.loop-change-preserved
loop-change-preserved c =
    let held = c.loop-change.invariant in
    let moved = c.in_ok-count.ensures in
    record {
      cash = λ party.
          net-cash_more c.args.parts.now.entries party c.args.moves.now c.loop-change.change-index c.change-item.result _ c.loop-change-test.true c.change-item.is
          (cash_tallied c.loop-change.tally party) (cash_tallied c.tally_move.new.tally party) (held.cash party) (moved.cash party);
      mils = λ class.
          net-mils_more c.args.parts.now.entries class c.args.moves.now c.loop-change.change-index c.change-item.result _ c.loop-change-test.true c.change-item.is
          (mils_tallied c.loop-change.tally class) (mils_tallied c.tally_move.new.tally class) (held.mils class) (moved.mils class);
      within = moved.within;
      few = moved.few;
    }
