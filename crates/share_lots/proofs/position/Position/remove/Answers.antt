-- That `Position::remove` keeps its contract.
use Rattle.std.proofs.Common.{◌-◌, ◌∙◌, ◌≤◌, sum_by, sym, ap, arith}
use Rattle.share_lots.specs.declared.lot.Lot.{Lot}
use Rattle.share_lots.specs.Rows.{lots_in}
use Rattle.share_lots.specs.Lots.{loose_total}
use Rattle.share_lots.proofs.KeptLemmas.{mils-taken}
use Rattle.share_lots.proofs.LotLemmas.{IsHolding-taking, sum-mils}
use Rattle.share_lots.proofs.RowLemmas.{held-taken}
use Rattle.share_lots.proofs.position.Position.remove.Goals as goal

pub overflow_sub-self : goal.overflow_sub-self
overflow_sub-self c =
    let enough : c.mils.inside.0 ≤ sum_by (λ (l : Lot). l.loose) (lots_in c.self.inside.lots) = omega (arith, c.requires, c.mils.view_is, ap loose_total c.self.view_is) in
    omega (arith, enough, sum-mils (lots_in c.self.inside.lots), c.self.invariant.mils_sum)

pub invariant_of-self-2 : goal.invariant_of-self-2
invariant_of-self-2 c =
    let items = lots_in c.self.inside.lots in
    let enough : c.mils.inside.0 ≤ sum_by (λ (l : Lot). l.loose) items = omega (arith, c.requires, c.mils.view_is, ap loose_total c.self.view_is) in
    let cost = c.in_ok-cost.ensures.cost in
    rw c.in_ok-cost.ensures.ok (record {
      holding = IsHolding-taking (record { lots = items; next_lot = c.self.inside.next_lot }) c.mils.inside.0 c.self.invariant.holding;
      mils_sum = ap (λ n. n - c.mils.inside.0) c.self.invariant.mils_sum ∙ mils-taken c.mils.inside.0 items enough;
      held_sum = c.self.invariant.held_sum ∙ sym (held-taken c.mils.inside.0 items);
      cost_sum = omega (arith, c.self.invariant.cost_sum, rw c.in_ok-cost.ensures.ok at cost);
    })
