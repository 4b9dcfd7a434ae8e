-- That `reduce_lots` keeps its contract.
use Rattle.std.proofs.Common.{◌≡◌, ◌<◌, ◌≤◌, All, List, length, ◌∙◌, ap, subst, sym, min, arith}
use Rattle.std.proofs.lemmas.List.{set-get_or}
use Rattle.std.proofs.lemmas.List.Elements.{All-drop, All-weaker}
use Rattle.fund_calendar.proofs.ListFacts.{rest-set, same_rest}
use Rattle.share_lots.specs.Lots.{IsLot, mils}
use Rattle.share_lots.specs.declared.lot.Lot.{Lot}
use Rattle.share_lots.specs.Taking.{lot_less}
use Rattle.share_lots.proofs.LotLemmas.{reduced-more, reduced-all, reduced-up}
use Rattle.share_lots.proofs.taking.reduce_lots.Goals as goal

pub lessen-requires-clause-lot : goal.lessen-requires-clause-lot
lessen-requires-clause-lot c =
    let short : c.loop-lot.lot-index < length c.loop-lot.lots = omega arith in
    let same = same_rest c.loop-lot.lots c.args.lots.now c.loop-lot.lot-index c.lot-item.result short c.loop-lot-test.true c.loop-lot.invariant.rest in
    rw same.0 (c.requires c.loop-lot.lot-index c.lot-item.result c.loop-lot-test.true)

pub loop-lot-preserved : goal.loop-lot-preserved
loop-lot-preserved c =
    let x = c.lot-item.result in
    let short : c.loop-lot.lot-index < length c.loop-lot.lots = omega arith in
    let quantity : c.min-quantity.result ≡ min x.loose c.loop-lot.left = c.min-quantity.ensures ∙ ap (λ n. min n c.loop-lot.left) (c.loose_of.ensures ∙ ap (λ (l : Lot). l.loose) (sym c.lot-item.is)) in
    let less : c.lessen.new.lot ≡ lot_less x (min x.loose c.loop-lot.left) = c.lessen.ensures ∙ ap (λ (l : Lot). lot_less l c.min-quantity.result) (sym c.lot-item.is) ∙ ap (lot_less x) quantity in
    record {
      done = rw (less, quantity) (reduced-more c.loop-lot.lots c.args.lots.now c.loop-lot.lot-index c.loop-lot.left c.args.asked x short c.lot-item.is c.loop-lot.invariant.done);
      rest = rest-set c.loop-lot.lots c.args.lots.now c.loop-lot.lot-index c.lessen.new.lot x short c.loop-lot-test.true c.loop-lot.invariant.rest;
    }

pub returns : goal.returns
returns c = reduced-all c.loop-lot.lots c.args.lots.now c.loop-lot.lot-index c.loop-lot.left c.args.asked (omega arith) c.loop-lot.invariant.done

pub returns-then-left-eq0 : goal.returns-then-left-eq0
returns-then-left-eq0 c =
    let lots = c.loop-lot.lots in
    let place = c.loop-lot.lot-index in
    let some = All-drop (λ (l : Lot). 1 ≤ mils l) place c.args.lots.now (All-weaker IsLot (λ (l : Lot). 1 ≤ mils l) (λ l is. is.with_mils) c.args.lots.now c.requires) in
    set-get_or lots place c.lot-item.result
    ∙ reduced-up lots c.args.lots.now place c.loop-lot.left c.args.asked c.if-left-eq0.true
    (subst (λ (ls : List Lot). All (λ (l : Lot). 1 ≤ mils l) ls) (sym c.loop-lot.invariant.rest) some) c.loop-lot.invariant.done
