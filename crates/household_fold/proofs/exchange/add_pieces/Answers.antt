-- That `add_pieces` keeps its contract.
use Rattle.household_fold.proofs.ExchangeFacts.{number-piece}
use Rattle.household_fold.proofs.exchange.add_pieces.Goals as goal

pub add-requires-clause-next : goal.add-requires-clause-next
add-requires-clause-next c =
    number-piece c.args.given.now c.loop-piece.piece-index c.piece-item.result c.loop-piece.holding c.args.holding.now c.loop-piece-test.true
    c.piece-item.is c.loop-piece.invariant.0 c.requires.next
