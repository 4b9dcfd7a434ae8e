-- That `pay_lots` keeps its contract.
use Rattle.std.proofs.Common.{◌≡◌, ◌<◌, ◌-◌, Option, length, min, ◌∙◌, ap, sym, arith}
use Rattle.fund_calendar.proofs.ListFacts.{mapped-all, mapped-more, rest-set, same_rest}
use Rattle.share_lots.specs.declared.lot.Lot.{Lot}
use Rattle.share_lots.specs.Taking.{held_before, held_before_free, before_of, lot_paid, lot_paying, owned_held}
use Rattle.share_lots.proofs.PayingLemmas.{before_free-le, free_bound, passed-more, before_is}
use Rattle.share_lots.proofs.paying.pay_lots.Goals as goal

pub held_before_free-before_free-requires : goal.held_before_free-before_free-requires
held_before_free-before_free-requires c = omega (arith, before_free-le c.args.lots.now c.free_lot-free.result, c.requires.total)

pub before_of-before-requires-clause-free : goal.before_of-before-requires-clause-free
before_of-before-requires-clause-free c = rw c.free_lot-free.ensures (free_bound c.args.lots.now _ c.requires.lots)

pub paying_lot-requires : goal.paying_lot-requires
paying_lot-requires c =
    let short : c.loop-lot.lot-index < length c.loop-lot.lots = omega arith in
    let same = same_rest c.loop-lot.lots c.args.lots.now c.loop-lot.lot-index c.lot-item.result short c.loop-lot-test.true c.loop-lot.invariant.rest in
    rw same.0 (c.requires.lots c.loop-lot.lot-index c.lot-item.result c.loop-lot-test.true)

pub loop-lot-preserved : goal.loop-lot-preserved
loop-lot-preserved c =
    let x = c.lot-item.result in
    let lots = c.args.lots.now in
    let short : c.loop-lot.lot-index < length c.loop-lot.lots = omega arith in
    let same = same_rest c.loop-lot.lots lots c.loop-lot.lot-index x short c.loop-lot-test.true c.loop-lot.invariant.rest in
    let at_start = c.lot-item.is ∙ same.0 in
    let free = c.free_lot-free.ensures in
    let before : c.before_of-before.result ≡ held_before lots x =
    c.before_of-before.ensures
    ∙ ap (λ (l : Lot). before_of l c.free_lot-free.result c.held_before_free-before_free.result c.loop-lot.passed) (sym c.lot-item.is)
    ∙ ap (λ n. before_of x c.free_lot-free.result n c.loop-lot.passed) c.held_before_free-before_free.ensures
    ∙ ap (λ (f : Option Lot). before_of x f (held_before_free lots f) c.loop-lot.passed) free
    ∙ before_is lots c.loop-lot.lot-index x c.loop-lot.passed c.requires.ranked c.loop-lot-test.true at_start c.loop-lot.invariant.so_far in
    let one : c.paying_lot.result ≡ lot_paying lots c.args.asked x =
    c.paying_lot.ensures
    ∙ ap (λ (l : Lot). lot_paid l (min l.held c.saturating_sub.result)) (sym c.lot-item.is)
    ∙ ap (λ n. lot_paid x (min x.held n)) (c.saturating_sub.ensures ∙ ap (λ n. c.args.asked - n) before) in
    let passed = passed-more lots c.loop-lot.lot-index c.loop-lot.passed x c.loop-lot-test.true at_start c.loop-lot.invariant.so_far c.requires.total in
    let more : c.owned_held-passed.result ≡ owned_held x = c.owned_held-passed.ensures ∙ ap owned_held (sym c.lot-item.is) in
    record {
      done = mapped-more (lot_paying lots c.args.asked) lots c.loop-lot.lots c.loop-lot.lot-index x c.paying_lot.result c.loop-lot-test.true c.loop-lot.invariant.done c.lot-item.is one;
      rest = rest-set c.loop-lot.lots lots c.loop-lot.lot-index c.paying_lot.result x short c.loop-lot-test.true c.loop-lot.invariant.rest;
      so_far = rw more passed.0;
      bound = rw more passed.1;
    }

pub returns : goal.returns
returns c = mapped-all (lot_paying c.args.lots.now c.args.asked) c.args.lots.now c.loop-lot.lots c.loop-lot.lot-index c.loop-lot-test.false c.loop-lot.invariant.done
