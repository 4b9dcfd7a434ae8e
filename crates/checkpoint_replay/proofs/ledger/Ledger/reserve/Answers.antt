-- That `Ledger::reserve` keeps its contract.
use Rattle.checkpoint_replay.proofs.TalliedLaw.{same-tallied}
use Rattle.checkpoint_replay.specs.Parts.{Households, part_in}
use Rattle.checkpoint_replay.specs.Totals.{cents_held, mils_held}
use Rattle.std.proofs.Common.{ap, ◌∙◌}
use Rattle.std.specs.HashMap.{spare}
use Rattle.checkpoint_replay.proofs.ledger.Ledger.reserve.Goals as goal

pub returns-in_err-reserve_moves-clause-tallied : goal.returns-in_err-reserve_moves-clause-tallied
returns-in_err-reserve_moves-clause-tallied c =
    same-tallied c.args.self.now (record { parts = c.reserve_moves.new.parts.entries; room = spare c.reserve_moves.new.parts; totals = c.self.inside.totals })
    (λ household. c.reserve_moves.ensures.same household ∙ ap (λ (ledger : Households). part_in ledger.parts household) c.self.view_is)
    (λ party. ap (λ (ledger : Households). cents_held ledger.totals party) c.self.view_is)
    (λ class. ap (λ (ledger : Households). mils_held ledger.totals class) c.self.view_is)

pub returns-in_err-reserve-clause-tallied : goal.returns-in_err-reserve-clause-tallied
returns-in_err-reserve-clause-tallied c =
    same-tallied c.args.self.now (record { parts = c.reserve_moves.new.parts.entries; room = spare c.reserve_moves.new.parts; totals = c.reserve.new.self })
    (λ household. c.reserve_moves.ensures.same household ∙ ap (λ (ledger : Households). part_in ledger.parts household) c.self.view_is)
    (λ party. c.reserve.ensures.cash party ∙ ap (λ (ledger : Households). cents_held ledger.totals party) c.self.view_is)
    (λ class. c.reserve.ensures.mils class ∙ ap (λ (ledger : Households). mils_held ledger.totals class) c.self.view_is)

pub returns-clause-tallied : goal.returns-clause-tallied
returns-clause-tallied c =
    same-tallied c.args.self.now (record { parts = c.reserve_moves.new.parts.entries; room = spare c.reserve_moves.new.parts; totals = c.reserve.new.self })
    (λ household. c.reserve_moves.ensures.same household ∙ ap (λ (ledger : Households). part_in ledger.parts household) c.self.view_is)
    (λ party. c.reserve.ensures.cash party ∙ ap (λ (ledger : Households). cents_held ledger.totals party) c.self.view_is)
    (λ class. c.reserve.ensures.mils class ∙ ap (λ (ledger : Households). mils_held ledger.totals class) c.self.view_is)
