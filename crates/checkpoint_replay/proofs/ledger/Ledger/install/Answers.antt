-- That `Ledger::install` keeps its contract.
use Rattle.agent_events.specs.declared.totals.Changes.{Changes}
use Rattle.checkpoint_replay.proofs.TalliedLaw.{installed-tallied}
use Rattle.checkpoint_replay.specs.Moves.{part_after}
use Rattle.checkpoint_replay.specs.Parts.{Households}
use Rattle.checkpoint_replay.specs.Totals.{cents_held, mils_held}
use Rattle.checkpoint_replay.specs.declared.change.HouseholdMove.{HouseholdMove}
use Rattle.gain_loss_book.specs.ClassGains.{mils_change}
use Rattle.gain_loss_book.specs.Posted.{cash_change}
use Rattle.std.proofs.Common.{List, ap, ◌+ℤ◌, ◌∙◌}
use Rattle.std.specs.HashMap.{spare}
use Rattle.checkpoint_replay.proofs.ledger.Ledger.install.Goals as goal

pub returns-clause-tallied : goal.returns-clause-tallied
returns-clause-tallied c =
    let parts = c.self.inside.parts.entries in
    let totals = c.self.inside.totals in
    let moves = c.args.change.moves in
    installed-tallied c.args.self.now (record { parts = c.put_moves.new.parts.entries; room = spare c.put_moves.new.parts; totals = c.add.new.self }) moves c.args.change.changes c.into_moves.ensures.apart.apart
    (λ household. c.put_moves.ensures.parts household
    ∙ (ap (λ (ms : List HouseholdMove). part_after ms parts household) c.into_moves.ensures.moves
    ∙ ap (λ (ledger : Households). part_after moves ledger.parts household) c.self.view_is))
    (λ party. c.add.ensures.cash party
    ∙ (ap (λ (changes : Changes). cents_held totals party +ℤ cash_change changes.cash party) c.changes.ensures
    ∙ ap (λ (ledger : Households). cents_held ledger.totals party +ℤ cash_change c.args.change.changes.cash party) c.self.view_is))
    (λ class. c.add.ensures.mils class
    ∙ (ap (λ (changes : Changes). mils_held totals class +ℤ mils_change changes.outstanding class) c.changes.ensures
    ∙ ap (λ (ledger : Households). mils_held ledger.totals class +ℤ mils_change c.args.change.changes.outstanding class) c.self.view_is))
