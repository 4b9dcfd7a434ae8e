-- That `Position::hold` keeps its contract.
use Rattle.std.proofs.Common.{◌∙◌, map, refl, sym, subst, arith}
use Rattle.share_lots.specs.Rows.{lots_in}
use Rattle.share_lots.specs.Lots.{Holding, HasLoose, hold_in}
use Rattle.share_lots.proofs.KeptLemmas.{hold-keeps_mils, hold-keeps_cost}
use Rattle.share_lots.proofs.LotLemmas.{IsHolding-hold, sum-mils}
use Rattle.share_lots.proofs.position.Position.hold.Goals as goal

has_loose : (c : goal.After-held-arg-1) → HasLoose (lots_in c.self.inside.lots) c.args.lot c.mils.inside.0
has_loose c =
    subst (λ (h : Holding). HasLoose h.lots c.args.lot c.mils.inside.0) (sym c.self.view_is) (subst (λ q. HasLoose c.args.self.now.lots c.args.lot q) (sym c.mils.view_is) c.requires)

pub held-self-inside-requires : goal.held-self-inside-requires
held-self-inside-requires c =
    let items = lots_in c.self.inside.lots in
    rw c.in_ok-hold.ensures.ok (omega (arith, sum-mils (map (hold_in c.args.lot c.mils.inside.0) items), hold-keeps_mils c.args.lot c.mils.inside.0 items (has_loose c), c.self.invariant.holding.few_mils))

pub invariant_of-self-2 : goal.invariant_of-self-2
invariant_of-self-2 c =
    let items = lots_in c.self.inside.lots in
    let has : HasLoose items c.args.lot c.mils.inside.0 =
    subst (λ (h : Holding). HasLoose h.lots c.args.lot c.mils.inside.0) (sym c.self.view_is) (subst (λ q. HasLoose c.args.self.now.lots c.args.lot q) (sym c.mils.view_is) c.requires) in
    rw c.held-self-inside.ensures (rw c.in_ok-hold.ensures.ok (record {
      holding = IsHolding-hold (record { lots = items; next_lot = c.self.inside.next_lot }) c.args.lot c.mils.inside.0 c.self.invariant.holding has;
      mils_sum = c.self.invariant.mils_sum ∙ sym (hold-keeps_mils c.args.lot c.mils.inside.0 items has);
      held_sum = refl;
      cost_sum = c.self.invariant.cost_sum ∙ sym (hold-keeps_cost c.args.lot c.mils.inside.0 items);
    }))

pub returns-clause-mils_kept : goal.returns-clause-mils_kept
returns-clause-mils_kept c =
    let has : HasLoose (lots_in c.self.inside.lots) c.args.lot c.mils.inside.0 =
    subst (λ (h : Holding). HasLoose h.lots c.args.lot c.mils.inside.0) (sym c.self.view_is) (subst (λ q. HasLoose c.args.self.now.lots c.args.lot q) (sym c.mils.view_is) c.requires) in
    rw (c.in_ok-hold.ensures.ok, ← c.self.view_is) (hold-keeps_mils c.args.lot c.mils.inside.0 (lots_in c.self.inside.lots) has)

pub returns-clause-cost_kept : goal.returns-clause-cost_kept
returns-clause-cost_kept c = rw (c.in_ok-hold.ensures.ok, ← c.self.view_is) (hold-keeps_cost c.args.lot c.mils.inside.0 (lots_in c.self.inside.lots))
