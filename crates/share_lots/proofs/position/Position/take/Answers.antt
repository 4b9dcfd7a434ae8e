-- That `Position::take` keeps its contract.
use Rattle.std.proofs.Common.{◌≡◌, ◌+◌, ◌-◌, ◌∙◌, ◌≤◌, List, filter, sum_by, sym, subst, ap, arith}
use Rattle.std.specs.Prelude.{All}
use Rattle.share_lots.specs.declared.lot.Lot.{Lot}
use Rattle.share_lots.specs.Rows.{lots_in}
use Rattle.std.proofs.Common.{inr}
use Rattle.share_lots.specs.declared.position.TakeFault.TheVariants.{Short}
use Rattle.share_lots.specs.Lots.{IsLot, loose_total}
use Rattle.share_lots.specs.Taking.{has_mils, lots_less}
use Rattle.share_lots.proofs.KeptLemmas.{mils-taken, pieces-whole, taking-keeps_mils, taking-keeps_cost}
use Rattle.share_lots.proofs.LotLemmas.{All-IsLot, IsHolding-taking, sum-mils}
use Rattle.share_lots.proofs.RelationLemmas.{amounts_taking}
use Rattle.share_lots.proofs.RowLemmas.{held-taken}
use Rattle.share_lots.proofs.position.Position.take.Goals as goal

rest_is : (c : goal.After-self-2-1) → lots_in c.take_off.new.self ≡ filter has_mils (lots_less c.mils.inside.0 (lots_in c.self.inside.lots))
rest_is c = c.in_ok-cost.ensures.ok ∙ ap (λ (ls : List Lot). filter has_mils (lots_less c.mils.inside.0 ls)) c.in_ok-pieces.ensures.kept

pub overflow_sub-loose : goal.overflow_sub-loose
overflow_sub-loose c = omega (arith, c.self.invariant.mils_sum, c.self.invariant.held_sum, sum-mils (lots_in c.self.inside.lots))

pub returns-then-loose-mils-clause-refused : goal.returns-then-loose-mils-clause-refused
returns-then-loose-mils-clause-refused c =
    let is : c.self.inside.mils - c.self.inside.held ≡ loose_total c.args.self.now = omega (arith, ap loose_total c.self.view_is, c.self.invariant.mils_sum, c.self.invariant.held_sum, sum-mils (lots_in c.self.inside.lots)) in
    inr (ap Short is, omega (arith, is, c.if-loose-mils.true, c.mils.view_is))

pub take_off-requires-clause-lots : goal.take_off-requires-clause-lots
take_off-requires-clause-lots c =
    subst (All IsLot) (sym c.in_ok-pieces.ensures.kept) (All-IsLot (record { lots = lots_in c.self.inside.lots; next_lot = c.self.inside.next_lot }) c.self.invariant.holding)

pub invariant_of-self-2 : goal.invariant_of-self-2
invariant_of-self-2 c =
    let items = lots_in c.self.inside.lots in
    let loose : c.self.inside.mils - c.self.inside.held ≡ sum_by (λ (l : Lot). l.loose) items = omega (arith, c.self.invariant.mils_sum, c.self.invariant.held_sum, sum-mils items) in
    let enough : c.mils.inside.0 ≤ sum_by (λ (l : Lot). l.loose) items = omega (arith, c.if-loose-mils.false, loose) in
    let rest = rest_is c in
    let cost : c.in_ok-cost.cost + sum_by (λ (l : Lot). l.cost) (lots_in c.take_off.new.self) ≡ sum_by (λ (l : Lot). l.cost) items = c.in_ok-cost.ensures.cost ∙ ap (sum_by (λ (l : Lot). l.cost)) c.in_ok-pieces.ensures.kept in
    rw rest (record {
      holding = IsHolding-taking (record { lots = items; next_lot = c.self.inside.next_lot }) c.mils.inside.0 c.self.invariant.holding;
      mils_sum = ap (λ n. n - c.mils.inside.0) c.self.invariant.mils_sum ∙ mils-taken c.mils.inside.0 items enough;
      held_sum = c.self.invariant.held_sum ∙ sym (held-taken c.mils.inside.0 items);
      cost_sum = omega (arith, c.self.invariant.cost_sum, rw rest at cost);
    })

pub returns-clause-enough : goal.returns-clause-enough
returns-clause-enough c =
    let items = lots_in c.self.inside.lots in
    let loose : c.self.inside.mils - c.self.inside.held ≡ sum_by (λ (l : Lot). l.loose) items = omega (arith, c.self.invariant.mils_sum, c.self.invariant.held_sum, sum-mils items) in
    let enough : c.mils.inside.0 ≤ sum_by (λ (l : Lot). l.loose) items = omega (arith, c.if-loose-mils.false, loose) in
    omega (arith, enough, c.mils.view_is, ap loose_total c.self.view_is)

pub returns-clause-relation : goal.returns-clause-relation
returns-clause-relation c =
    let items = lots_in c.self.inside.lots in
    let loose : c.self.inside.mils - c.self.inside.held ≡ sum_by (λ (l : Lot). l.loose) items = omega (arith, c.self.invariant.mils_sum, c.self.invariant.held_sum, sum-mils items) in
    let enough : c.mils.inside.0 ≤ sum_by (λ (l : Lot). l.loose) items = omega (arith, c.if-loose-mils.false, loose) in
    rw (← c.self.view_is, ← c.mils.view_is) (amounts_taking c.mils.inside.0 items c.self.invariant.holding.ranked enough)

pub returns-clause-whole : goal.returns-clause-whole
returns-clause-whole c =
    let items = lots_in c.self.inside.lots in
    let loose : c.self.inside.mils - c.self.inside.held ≡ sum_by (λ (l : Lot). l.loose) items = omega (arith, c.self.invariant.mils_sum, c.self.invariant.held_sum, sum-mils items) in
    let enough : c.mils.inside.0 ≤ sum_by (λ (l : Lot). l.loose) items = omega (arith, c.if-loose-mils.false, loose) in
    rw (c.in_ok-pieces.ensures.pieces, ← c.mils.view_is) (pieces-whole c.mils.inside.0 items enough)

pub returns-clause-mils_kept : goal.returns-clause-mils_kept
returns-clause-mils_kept c =
    rw (c.in_ok-pieces.ensures.pieces, rest_is c, ← c.self.view_is) (taking-keeps_mils c.mils.inside.0 (lots_in c.self.inside.lots))

pub returns-clause-cost_kept : goal.returns-clause-cost_kept
returns-clause-cost_kept c =
    rw (c.in_ok-pieces.ensures.pieces, rest_is c, ← c.self.view_is) (taking-keeps_cost c.mils.inside.0 (lots_in c.self.inside.lots) c.self.invariant.holding.with_mils)
