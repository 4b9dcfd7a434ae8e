-- That `Position::release` keeps its contract.
use Rattle.std.proofs.Common.{◌∙◌, sym}
use Rattle.share_lots.specs.Rows.{lots_in}
use Rattle.share_lots.proofs.KeptLemmas.{release-keeps_mils, release-keeps_cost}
use Rattle.share_lots.proofs.LotLemmas.{IsHolding-release}
use Rattle.share_lots.proofs.RowLemmas.{held-released}
use Rattle.share_lots.proofs.position.Position.release.Goals as goal

pub invariant_of-self-2 : goal.invariant_of-self-2
invariant_of-self-2 c =
    let items = lots_in c.self.inside.lots in
    rw c.in_ok-release.ensures.ok (record {
      holding = IsHolding-release (record { lots = items; next_lot = c.self.inside.next_lot }) c.self.invariant.holding;
      mils_sum = c.self.invariant.mils_sum ∙ sym (release-keeps_mils items);
      held_sum = sym (held-released items);
      cost_sum = c.self.invariant.cost_sum ∙ sym (release-keeps_cost items);
    })
