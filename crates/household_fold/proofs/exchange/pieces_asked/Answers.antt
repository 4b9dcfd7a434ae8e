-- That `pieces_asked` keeps its contract.
use Rattle.std.proofs.Common.{Option, ap, unwrap_or, ◌∙◌}
use Rattle.register_machine.specs.replay.Positions.{Position, fresh_position}
use Rattle.share_lots.specs.Taking.{pieces}
use Rattle.household_fold.proofs.ExchangeFacts.{pieces-none}
use Rattle.household_fold.proofs.exchange.pieces_asked.Goals as goal

pub returns-in-None-clause-pieces : goal.returns-in-None-clause-pieces
returns-in-None-clause-pieces c =
    let shares = c.args.shares.now in
    c.new.ensures
    ∙ (pieces-none shares.asked
    ∙ ap (λ (o : Option Position). pieces shares.asked (unwrap_or o (fresh_position shares.account shares.class)).holding.lots) c.in-None.ensures)
