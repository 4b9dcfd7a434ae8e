-- That `PositionLots::pieces` keeps its contract.
use Rattle.std.proofs.Common.{◌≡◌, ◌++◌, ◌-◌, ◌∙◌, [], sum_by, sym, subst, ap, arith}
use Rattle.std.specs.Prelude.{All}
use Rattle.fund_calendar.proofs.ListFacts.{All-left, All-right}
use Rattle.share_lots.specs.declared.lot.Lot.{Lot}
use Rattle.share_lots.specs.Rows.{rest_of}
use Rattle.share_lots.specs.Lots.{IsLot, mils}
use Rattle.share_lots.specs.Taking.{pieces}
use Rattle.share_lots.proofs.LotLemmas.{sum-mils}
use Rattle.share_lots.proofs.RowLemmas.{sum-three, pieces-three}
use Rattle.share_lots.proofs.position_lots.PositionLots.pieces.Goals as goal

pub loose_total-requires : goal.loose_total-requires
loose_total-requires c =
    let s = c.args.self.now in
    rw c.deref-2.ensures.value (omega (arith, sum-mils s.front.items, sum-three mils s.front.items (rest_of s.rest) s.back.items, c.requires.mils))

pub take_pieces-requires-2 : goal.take_pieces-requires-2
take_pieces-requires-2 c =
    let s = c.args.self.now in
    subst (All IsLot) (sym c.rest.ensures)
    (All-right IsLot s.front.items (rest_of s.rest) (All-left IsLot (s.front.items ++ rest_of s.rest) s.back.items c.requires.lots))

pub loose_total-requires-2 : goal.loose_total-requires-2
loose_total-requires-2 c =
    let s = c.args.self.now in
    rw c.rest-2.ensures (omega (arith, sum-mils (rest_of s.rest), sum-three mils s.front.items (rest_of s.rest) s.back.items, c.requires.mils))

pub take_pieces-requires-3 : goal.take_pieces-requires-3
take_pieces-requires-3 c =
    let s = c.args.self.now in
    subst (All IsLot) (sym c.deref-3.ensures.value) (All-right IsLot (s.front.items ++ rest_of s.rest) s.back.items c.requires.lots)

pub returns : goal.returns
returns c =
    let s = c.args.self.now in
    let loose = sum_by (λ (l : Lot). l.loose) in
    let left : c.saturating_sub-left.result ≡ c.args.asked - loose s.front.items = c.saturating_sub-left.ensures ∙ ap (λ n. c.args.asked - n) (c.loose_total.ensures ∙ ap loose c.deref-2.ensures.value) in
    let last : c.saturating_sub-left-2.result ≡ c.args.asked - loose s.front.items - loose (rest_of s.rest) =
    c.saturating_sub-left-2.ensures ∙ ap (λ n. n - c.loose_total-2.result) left ∙ ap (λ n. c.args.asked - loose s.front.items - n) (c.loose_total-2.ensures ∙ ap loose c.rest-2.ensures) in
    let first : c.in_ok-pieces.pieces ≡ [] ++ pieces c.args.asked s.front.items = c.in_ok-pieces.ensures ∙ ap (λ ps. ps ++ pieces c.args.asked c.deref.result.now) c.new.ensures ∙ ap (λ ls. [] ++ pieces c.args.asked ls) c.deref.ensures.value in
    let more : c.in_ok-pieces-2.pieces ≡ [] ++ pieces c.args.asked s.front.items ++ pieces (c.args.asked - loose s.front.items) (rest_of s.rest) =
    c.in_ok-pieces-2.ensures ∙ ap (λ ps. ps ++ pieces c.saturating_sub-left.result c.rest.result.now) first
    ∙ ap (λ n. [] ++ pieces c.args.asked s.front.items ++ pieces n c.rest.result.now) left
    ∙ ap (λ ls. [] ++ pieces c.args.asked s.front.items ++ pieces (c.args.asked - loose s.front.items) ls) c.rest.ensures in
    c.in_ok-pieces-3.ensures ∙ ap (λ ps. ps ++ pieces c.saturating_sub-left-2.result c.deref-3.result.now) more
    ∙ ap (λ n. [] ++ pieces c.args.asked s.front.items ++ pieces (c.args.asked - loose s.front.items) (rest_of s.rest) ++ pieces n c.deref-3.result.now) last
    ∙ ap (λ ls. [] ++ pieces c.args.asked s.front.items ++ pieces (c.args.asked - loose s.front.items) (rest_of s.rest) ++ pieces (c.args.asked - loose s.front.items - loose (rest_of s.rest)) ls) c.deref-3.ensures.value
    ∙ pieces-three c.args.asked s.front.items (rest_of s.rest) s.back.items
