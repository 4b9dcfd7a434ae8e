-- That `charge` keeps its contract.
use Rattle.std.proofs.Common.{◌≡◌, ◌+◌, ap, ◌∙◌}
use Rattle.contingent_charge.specs.DeferredCharge.{value_between, base_of, charge_of}
use Rattle.contingent_charge.proofs.ChargeLemmas.{IsAdded, SoFar-more, SoFar-end, SoFar-cost}
use Rattle.contingent_charge.proofs.charging.charge.Goals as goal

pub loop-piece-preserved : goal.loop-piece-preserved
loop-piece-preserved c =
    let piece = c.piece-item.result in
    let nav = c.args.nav in
    let day = c.args.day in
    let schedule = c.args.schedule.now in
    let before = c.loop-piece.before in
    let value : c.value_between-value.result ≡ value_between nav before piece.mils = c.value_between-value.ensures.value ∙ ap (value_between nav before) c.mils_of.ensures in
    let item = ap (λ n. record { piece = piece; value = n }) value in
    let added : IsAdded nav day schedule before piece c.loop-piece.so_far c.joined-so_far.result = record {
      value = c.joined-so_far.ensures.value ∙ ap (λ n. c.loop-piece.so_far.value + n) (c.piece_charged.ensures.value ∙ value);
      base = c.joined-so_far.ensures.base ∙ ap (λ n. c.loop-piece.so_far.base + n) (c.piece_charged.ensures.base ∙ ap base_of item);
      charge = c.joined-so_far.ensures.charge ∙ ap (λ n. c.loop-piece.so_far.charge + n) (c.piece_charged.ensures.charge ∙ ap (charge_of day schedule) item);
    } in
    rw c.mils_of-before.ensures (SoFar-more c.args.pieces.now nav day schedule c.loop-piece.piece-index before c.loop-piece.so_far c.joined-so_far.result piece c.loop-piece-test.true c.piece-item.is c.requires.rates c.loop-piece.invariant added)

pub returns-clause-charged : goal.returns-clause-charged
returns-clause-charged c =
    SoFar-end c.args.pieces.now c.args.nav c.args.day c.args.schedule.now c.loop-piece.piece-index c.loop-piece.before c.loop-piece.so_far c.loop-piece-test.false c.loop-piece.invariant

pub returns-clause-within_cost : goal.returns-clause-within_cost
returns-clause-within_cost c =
    SoFar-cost c.args.pieces.now c.args.nav c.args.day c.args.schedule.now c.loop-piece.piece-index c.loop-piece.before c.loop-piece.so_far c.loop-piece-test.false c.loop-piece.invariant
