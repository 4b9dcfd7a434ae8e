-- That `gain` keeps its contract.
use Rattle.gain_loss_book.proofs.GainFacts.{gain-is}
use Rattle.gain_loss_book.proofs.class_gains.gain.Goals as goal

pub returns : goal.returns
returns c =
    gain-is c.args.cash c.args.mils c.from.result c.signed_half.result c.args.nav c.ranges.cash c.ranges.mils c.from.ensures c.requires.cash c.requires.mils c.requires.nav c.signed_half.ensures
