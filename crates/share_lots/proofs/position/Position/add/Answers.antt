-- That `Position::add` keeps its contract.
use Rattle.std.proofs.Common.{◌≡◌, ◌+◌, ◌∙◌, ◌≤◌, None, Some, map, sum_by, sym, subst, ap, arith}
use Rattle.share_lots.specs.declared.lot.Lot.{Lot}
use Rattle.share_lots.specs.Rows.{lots_in}
use Rattle.share_lots.specs.Lots.{Holding, loose_total, held_total, join_free, lot_joined, mils, most_mils, most_cost, lots_with}
use Rattle.share_lots.proofs.LotLemmas.{sum-mils, sum-placed, IsHolding-joined, IsHolding-with_lot, lone_free}
use Rattle.share_lots.proofs.AddedLemmas.{joined-sum, joined-loose, joined-mils, joined-cost, placed-loose, placed-mils, placed-cost}
use Rattle.share_lots.proofs.position.Position.add.Goals as goal

joined_is : (c : goal.After-self-in-Some-1) → lot_joined (lots_in c.self.inside.lots) c.args.free ≡ Some c.in-Some.number
joined_is c = sym c.in_ok-number.ensures.joined ∙ c.in-Some.is

lots_are : (c : goal.After-self-in-Some-1) → lots_in c.join.new.self ≡ map (join_free c.args.mils c.args.cost) (lots_in c.self.inside.lots)
lots_are c = c.in_ok-join-in-Some.ensures.ok ∙ ap (map (join_free c.args.mils c.args.cost)) c.in_ok-number.ensures.kept

placed_are : (c : goal.After-self-in-None-3-1) → lots_in c.insert.new.self ≡ lots_with c.new_lot.result (lots_in c.self.inside.lots)
placed_are c = c.in_ok-insert-in-None.ensures.ok ∙ ap (lots_with c.new_lot.result) c.in_ok-number.ensures.kept

pub invariant_of-self-in-Some : goal.invariant_of-self-in-Some
invariant_of-self-in-Some c =
    let items = lots_in c.self.inside.lots in
    let room = subst (λ (h : Holding). loose_total h + held_total h + c.args.mils ≤ most_mils) (sym c.self.view_is) c.requires.few_mils in
    let mils_fit : sum_by mils items + c.args.mils ≤ most_mils = omega (arith, room, sum-mils items) in
    let cost_fits = subst (λ (h : Holding). sum_by (λ (l : Lot). l.cost) h.lots + c.args.cost ≤ most_cost) (sym c.self.view_is) c.requires.low_cost in
    let joined = joined_is c in
    let ranked = c.self.invariant.holding.ranked in
    rw (lots_are c) (record {
      holding = IsHolding-joined (record { lots = items; next_lot = c.self.inside.next_lot }) c.args.mils c.args.cost c.self.invariant.holding mils_fit cost_fits;
      mils_sum = omega (arith, c.mils.view_is, c.self.invariant.mils_sum, joined-sum mils c.args.mils c.args.mils c.args.cost c.in-Some.number items c.args.free (λ lot. omega arith) ranked joined);
      held_sum = omega (arith, c.self.invariant.held_sum, joined-sum (λ (l : Lot). l.held) 0 c.args.mils c.args.cost c.in-Some.number items c.args.free (λ lot. omega arith) ranked joined);
      cost_sum = omega (arith, c.cost.view_is, c.self.invariant.cost_sum, joined-cost c.args.mils c.args.cost c.in-Some.number items c.args.free ranked joined);
    })

pub invariant_of-self-in-None : goal.invariant_of-self-in-None
invariant_of-self-in-None c =
    let items = lots_in c.self.inside.lots in
    let h : Holding = record { lots = items; next_lot = c.self.inside.next_lot } in
    let lot = c.new_lot.result in
    let room = subst (λ (h : Holding). loose_total h + held_total h + c.args.mils ≤ most_mils) (sym c.self.view_is) c.requires.few_mils in
    let mils_fit : sum_by mils items + c.args.mils ≤ most_mils = omega (arith, room, sum-mils items) in
    let cost_fits = subst (λ (h : Holding). sum_by (λ (l : Lot). l.cost) h.lots + c.args.cost ≤ most_cost) (sym c.self.view_is) c.requires.low_cost in
    let none : lot_joined items c.args.free ≡ None = sym c.in_ok-number.ensures.joined ∙ c.in-None.is in
    let made = c.new_lot.ensures in
    rw (placed_are c) (record {
      holding = IsHolding-with_lot h lot c.self.invariant.holding (ap (λ (l : Lot). l.number) made) (rw made (omega (arith, c.requires.positive))) (rw made (omega (arith, mils_fit))) (rw made cost_fits) (λ free. lone_free items c.args.free none (ap (λ (l : Lot). l.free) (sym made) ∙ free));
      mils_sum = omega (arith, c.mils-in-None.view_is, c.self.invariant.mils_sum, sum-mils items, sum-mils (lots_with lot items), placed-mils c.args.mils lot items (rw made (omega arith)));
      held_sum = omega (arith, c.self.invariant.held_sum, sum-placed (λ (l : Lot). l.held) lot items, ap (λ (l : Lot). l.held) made);
      cost_sum = omega (arith, c.cost-in-None.view_is, c.self.invariant.cost_sum, placed-cost c.args.cost lot items (ap (λ (l : Lot). l.cost) made));
    })

pub returns-in_ok-join-in-Some-clause-loose : goal.returns-in_ok-join-in-Some-clause-loose
returns-in_ok-join-in-Some-clause-loose c =
    rw (lots_are c) (joined-loose c.args.mils c.args.cost c.in-Some.number (lots_in c.self.inside.lots) c.args.free c.self.invariant.holding.ranked c.self.invariant.holding.distinct (joined_is c))

pub returns-in_ok-join-in-Some-clause-mils_grown : goal.returns-in_ok-join-in-Some-clause-mils_grown
returns-in_ok-join-in-Some-clause-mils_grown c =
    rw (lots_are c, ← c.self.view_is) (joined-mils c.args.mils c.args.cost c.in-Some.number (lots_in c.self.inside.lots) c.args.free c.self.invariant.holding.ranked (joined_is c))

pub returns-in_ok-join-in-Some-clause-cost_grown : goal.returns-in_ok-join-in-Some-clause-cost_grown
returns-in_ok-join-in-Some-clause-cost_grown c =
    rw (lots_are c, ← c.self.view_is) (joined-cost c.args.mils c.args.cost c.in-Some.number (lots_in c.self.inside.lots) c.args.free c.self.invariant.holding.ranked (joined_is c))

pub returns-in_ok-insert-in-None-clause-loose : goal.returns-in_ok-insert-in-None-clause-loose
returns-in_ok-insert-in-None-clause-loose c =
    rw (placed_are c) (placed-loose c.self.inside.next_lot c.args.mils c.new_lot.result (lots_in c.self.inside.lots) c.self.invariant.holding.below_next (ap (λ (l : Lot). l.loose) c.new_lot.ensures))

pub returns-in_ok-insert-in-None-clause-mils_grown : goal.returns-in_ok-insert-in-None-clause-mils_grown
returns-in_ok-insert-in-None-clause-mils_grown c =
    rw (placed_are c, ← c.self.view_is) (placed-mils c.args.mils c.new_lot.result (lots_in c.self.inside.lots) (rw c.new_lot.ensures (omega arith)))

pub returns-in_ok-insert-in-None-clause-cost_grown : goal.returns-in_ok-insert-in-None-clause-cost_grown
returns-in_ok-insert-in-None-clause-cost_grown c =
    rw (placed_are c, ← c.self.view_is) (placed-cost c.args.cost c.new_lot.result (lots_in c.self.inside.lots) (ap (λ (l : Lot). l.cost) c.new_lot.ensures))
