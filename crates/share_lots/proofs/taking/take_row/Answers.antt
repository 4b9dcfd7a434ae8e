-- That `take_row` keeps its contract.
use Rattle.std.proofs.Common.{◌≡◌, ◌∙◌, filter, sum_by, ap, arith}
use Rattle.std.proofs.lemmas.Grind.{common_steps}
use Rattle.share_lots.specs.declared.lot.Lot.{Lot}
use Rattle.share_lots.specs.Taking.{has_mils, lots_less}
use Rattle.share_lots.proofs.KeptLemmas.{taking-keeps_cost}
use Rattle.share_lots.proofs.taking.take_row.Goals as goal

pub cost_total-requires : goal.cost_total-requires
cost_total-requires c =
    let items = c.args.lots.now.items in
    let left : c.remove_empty.new.lots.items ≡ filter has_mils (lots_less c.args.asked items) = grind (arith, common_steps) in
    rw (c.deref-2.ensures.value, left) (omega (arith, taking-keeps_cost c.args.asked items (λ k d short. (c.requires.lots k d short).with_mils), c.requires.cost))

pub overflow_sub-result : goal.overflow_sub-result
overflow_sub-result c =
    let items = c.args.lots.now.items in
    let left : c.remove_empty.new.lots.items ≡ filter has_mils (lots_less c.args.asked items) = grind (arith, common_steps) in
    let before : c.cost_total-before.result ≡ sum_by (λ (l : Lot). l.cost) items = c.cost_total-before.ensures ∙ ap (sum_by (λ (l : Lot). l.cost)) c.deref.ensures.value in
    let after : c.cost_total.result ≡ sum_by (λ (l : Lot). l.cost) (filter has_mils (lots_less c.args.asked items)) = c.cost_total.ensures ∙ ap (sum_by (λ (l : Lot). l.cost)) (c.deref-2.ensures.value ∙ left) in
    omega (arith, before, after, taking-keeps_cost c.args.asked items (λ k d short. (c.requires.lots k d short).with_mils))

pub returns-clause-cost : goal.returns-clause-cost
returns-clause-cost c =
    let items = c.args.lots.now.items in
    let left : c.remove_empty.new.lots.items ≡ filter has_mils (lots_less c.args.asked items) = grind (arith, common_steps) in
    let before : c.cost_total-before.result ≡ sum_by (λ (l : Lot). l.cost) items = c.cost_total-before.ensures ∙ ap (sum_by (λ (l : Lot). l.cost)) c.deref.ensures.value in
    let after : c.cost_total.result ≡ sum_by (λ (l : Lot). l.cost) (filter has_mils (lots_less c.args.asked items)) = c.cost_total.ensures ∙ ap (sum_by (λ (l : Lot). l.cost)) (c.deref-2.ensures.value ∙ left) in
    rw left (omega (arith, before, after, taking-keeps_cost c.args.asked items (λ k d short. (c.requires.lots k d short).with_mils)))
