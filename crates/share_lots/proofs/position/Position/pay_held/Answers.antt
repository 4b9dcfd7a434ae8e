-- That `Position::pay_held` keeps its contract.
use Rattle.std.proofs.Common.{◌≡◌, ◌∙◌, ◌≤◌, map, filter, sum_by, ap, arith}
use Rattle.share_lots.specs.declared.lot.Lot.{Lot}
use Rattle.share_lots.specs.Rows.{lots_in}
use Rattle.share_lots.specs.Lots.{held_total}
use Rattle.share_lots.specs.Taking.{has_mils, lot_paying}
use Rattle.share_lots.proofs.LotLemmas.{sum-mils}
use Rattle.share_lots.proofs.PaidLemmas.{paying-whole, paying-keeps_loose, paying-keeps_cost}
use Rattle.share_lots.proofs.PayingLemmas.{IsHolding-paying}
use Rattle.share_lots.proofs.position.Position.pay_held.Goals as goal

pub pay-requires-clause-total : goal.pay-requires-clause-total
pay-requires-clause-total c = omega (arith, sum-mils (lots_in c.self.inside.lots), c.self.invariant.holding.few_mils)

pub overflow_sub-self : goal.overflow_sub-self
overflow_sub-self c =
    omega (arith, c.requires, c.mils.view_is, ap held_total c.self.view_is, sum-mils (lots_in c.self.inside.lots), c.self.invariant.mils_sum)

pub cost_total-self-inside-requires : goal.cost_total-self-inside-requires
cost_total-self-inside-requires c =
    let items = lots_in c.self.inside.lots in
    rw (c.deref.ensures.value, c.in_ok-pay.ensures.whole, c.in_ok-pay.ensures.ok) (IsHolding-paying (record { lots = items; next_lot = c.self.inside.next_lot }) c.mils.inside.0 c.self.invariant.holding).low_cost

pub invariant_of-self-2 : goal.invariant_of-self-2
invariant_of-self-2 c =
    let items = lots_in c.self.inside.lots in
    let enough : c.mils.inside.0 ≤ sum_by (λ (l : Lot). l.held) items = omega (arith, c.requires, c.mils.view_is, ap held_total c.self.view_is) in
    let whole = paying-whole items c.mils.inside.0 c.self.invariant.holding.ranked c.self.invariant.holding.distinct enough in
    let left = filter has_mils (map (lot_paying items c.mils.inside.0) items) in
    let cost : c.cost_total-self-inside.result ≡ sum_by (λ (l : Lot). l.cost) left = c.cost_total-self-inside.ensures ∙ ap (sum_by (λ (l : Lot). l.cost)) (c.deref.ensures.value ∙ (c.in_ok-pay.ensures.whole ∙ c.in_ok-pay.ensures.ok)) in
    rw c.in_ok-pay.ensures.ok (record {
      holding = IsHolding-paying (record { lots = items; next_lot = c.self.inside.next_lot }) c.mils.inside.0 c.self.invariant.holding;
      mils_sum = omega (arith, whole, paying-keeps_loose items c.mils.inside.0, sum-mils items, sum-mils left, c.self.invariant.mils_sum);
      held_sum = omega (arith, whole, c.self.invariant.held_sum);
      cost_sum = cost;
    })

pub returns-clause-whole : goal.returns-clause-whole
returns-clause-whole c =
    let items = lots_in c.self.inside.lots in
    rw (c.in_ok-pay.ensures.ok, ← c.self.view_is, ← c.mils.view_is) (paying-whole items c.mils.inside.0 c.self.invariant.holding.ranked c.self.invariant.holding.distinct (rw (← c.self.view_is, ← c.mils.view_is) at c.requires))

pub returns-clause-loose_kept : goal.returns-clause-loose_kept
returns-clause-loose_kept c =
    rw (c.in_ok-pay.ensures.ok, ← c.self.view_is) (paying-keeps_loose (lots_in c.self.inside.lots) c.mils.inside.0)

pub returns-clause-cost_kept : goal.returns-clause-cost_kept
returns-clause-cost_kept c =
    rw (c.in_ok-pay.ensures.ok, ← c.self.view_is, ← c.mils.view_is) (paying-keeps_cost (lots_in c.self.inside.lots) c.mils.inside.0 c.self.invariant.holding.with_mils)
