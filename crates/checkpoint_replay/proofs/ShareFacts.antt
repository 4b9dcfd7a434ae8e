-- What changes of shares add up to, one more of them and all together.
use Rattle.agent_events.specs.declared.totals.MilsChange.{MilsChange}
use Rattle.gain_loss_book.proofs.ClassFlowFacts.{mils-falls-within, mils-rises-within}
use Rattle.gain_loss_book.proofs.FlowFacts.{flow-same}
use Rattle.gain_loss_book.proofs.PostedFacts.{change-added, flow-in, flow-out}
use Rattle.gain_loss_book.specs.ClassGains.{all_mils, mils_change_flow, mils_fall_in, mils_flow, mils_rise_in, most_mils, size_of_mils}
use Rattle.gain_loss_book.specs.Flows.{fall, flow_by, net, rise, with_flow}
use Rattle.gain_loss_book.specs.Posted.{most_posts}
use Rattle.gain_loss_book.specs.declared.flows.Flow.{Flow}
use Rattle.std.proofs.Common.{List, ap, arith, cond, get_or, length, take, ℕ, ◌*◌, ◌+ℤ◌, ◌+◌, ◌<◌, ◌==◌, ◌^◌, ◌∙◌, ◌≡◌, ◌≤◌}
use Rattle.std.proofs.lemmas.Int.{ints}
use Rattle.std.proofs.lemmas.List.Sums.{sum_by_more, sum_by_more_le}

pub share-step : (change : MilsChange) (flow : Flow) → flow ≡ flow_by change.mils → (now next : Flow) (q : ℕ) → next ≡ cond (change.class == q) (with_flow now flow) now → next ≡ with_flow now (mils_change_flow change q)
share-step change flow same now next q is =
    is ∙ (change-added (change.class == q) now flow ∙ ap (λ (f : Flow). with_flow now (record { inflow = cond (change.class == q) f.inflow 0; outflow = cond (change.class == q) f.outflow 0 })) same)

pub shares-step : (rows : List MilsChange) (i : ℕ) (d : MilsChange) → i < length rows → (base now next : Flow) (q : ℕ) → now ≡ with_flow base (mils_flow (take i rows) q) → next ≡ with_flow now (mils_change_flow (get_or rows i d) q) → next ≡ with_flow base (mils_flow (take (i + 1) rows) q)
shares-step rows i d there base now next q was is =
    let inflow = sum_by_more (mils_rise_in q) rows i d there in
    let outflow = sum_by_more (mils_fall_in q) rows i d there in
    flow-same next (with_flow base (mils_flow (take (i + 1) rows) q))
    (omega (arith, inflow, flow-in _ _ was, flow-in _ _ is)) (omega (arith, outflow, flow-out _ _ was, flow-out _ _ is))

pub all-shares-step : (rows : List MilsChange) (i : ℕ) (d : MilsChange) → i < length rows → (base now next : Flow) → now ≡ with_flow base (all_mils (take i rows)) → next ≡ with_flow now (flow_by (get_or rows i d).mils) → next ≡ with_flow base (all_mils (take (i + 1) rows))
all-shares-step rows i d there base now next was is =
    let inflow = sum_by_more (λ (x : MilsChange). rise x.mils) rows i d there in
    let outflow = sum_by_more (λ (x : MilsChange). fall x.mils) rows i d there in
    flow-same next (with_flow base (all_mils (take (i + 1) rows)))
    (omega (arith, inflow, flow-in _ _ was, flow-in _ _ is)) (omega (arith, outflow, flow-out _ _ was, flow-out _ _ is))

pub share-rise-fits : (rows : List MilsChange) (i : ℕ) (d : MilsChange) → i < length rows → (base now : Flow) (m : ℕ) → now ≡ with_flow base (all_mils (take i rows)) → base.inflow + (all_mils rows).inflow < m → now.inflow + rise (get_or rows i d).mils < m
share-rise-fits rows i d there base now m was fits =
    omega (arith, sum_by_more_le (λ (x : MilsChange). rise x.mils) rows i d there, flow-in _ _ was)

pub share-fall-fits : (rows : List MilsChange) (i : ℕ) (d : MilsChange) → i < length rows → (base now : Flow) (m : ℕ) → now ≡ with_flow base (all_mils (take i rows)) → base.outflow + (all_mils rows).outflow < m → now.outflow + fall (get_or rows i d).mils < m
share-fall-fits rows i d there base now m was fits =
    omega (arith, sum_by_more_le (λ (x : MilsChange). fall x.mils) rows i d there, flow-out _ _ was)

-- what is added next fits, and stays within the limits
pub shares-fit : (rows asked : List MilsChange) → rows ≡ asked → (base posts : ℕ) → base ≤ posts * most_mils → posts ≤ most_posts → size_of_mils asked ≤ most_mils → (base + (all_mils rows).inflow < 2 ^ 128) × (base + (all_mils rows).outflow < 2 ^ 128)
shares-fit rows asked same base posts before few mils =
    (omega (arith, before, few, mils, mils-rises-within rows, ap size_of_mils same), omega (arith, before, few, mils, mils-falls-within rows, ap size_of_mils same))

pub shares-in-within : (rows asked : List MilsChange) → rows ≡ asked → (base now : Flow) (posts : ℕ) → base.inflow ≤ posts * most_mils → now ≡ with_flow base (all_mils rows) → size_of_mils asked ≤ most_mils → now.inflow ≤ (posts + 1) * most_mils
shares-in-within rows asked same base now posts before was mils =
    omega (arith, before, flow-in _ _ was, mils-rises-within rows, mils, ap size_of_mils same)

pub shares-out-within : (rows asked : List MilsChange) → rows ≡ asked → (base now : Flow) (posts : ℕ) → base.outflow ≤ posts * most_mils → now ≡ with_flow base (all_mils rows) → size_of_mils asked ≤ most_mils → now.outflow ≤ (posts + 1) * most_mils
shares-out-within rows asked same base now posts before was mils =
    omega (arith, before, flow-out _ _ was, mils-falls-within rows, mils, ap size_of_mils same)

pub net-with : (base now a : Flow) → now ≡ with_flow base a → net now ≡ net base +ℤ net a
net-with base now a was = omega (arith, ints, flow-in _ _ was, flow-out _ _ was)
