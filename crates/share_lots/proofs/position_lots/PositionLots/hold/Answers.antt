-- That `PositionLots::hold` keeps its contract.
use Rattle.std.proofs.Common.{◌≡◌, ◌++◌, ◌∙◌, ◌≤◌, List, length, map, take, drop, sym, subst, ap, arith}
use Rattle.std.proofs.lemmas.Grind.{common_steps}
use Rattle.std.specs.Prelude.{All}
use Rattle.fund_calendar.proofs.ListFacts.{All-right}
use Rattle.share_lots.specs.declared.lot.Lot.{Lot}
use Rattle.share_lots.specs.Rows.{rest_of}
use Rattle.share_lots.specs.Lots.{IsLot, hold_in}
use Rattle.share_lots.proofs.RowLemmas.{held-around}
use Rattle.share_lots.proofs.position_lots.PositionLots.hold.Goals as goal

pub hold_back-requires-2-clause-lots : goal.hold_back-requires-2-clause-lots
hold_back-requires-2-clause-lots c =
    let s = c.own_number.new.self in
    subst (All IsLot) (sym c.deref_mut-2.ensures.value)
    (All-right IsLot (s.front.items ++ rest_of s.rest) s.back.items (subst (All IsLot) (sym c.in_ok-own_number.ensures.kept) c.requires.lots))

pub hold_back-requires-2-clause-has : goal.hold_back-requires-2-clause-has
hold_back-requires-2-clause-has c =
    let s = c.own_number.new.self in
    let P = λ (lot : Lot). lot.number ≡ c.args.number → c.args.quantity ≤ lot.loose in
    subst (All P) (sym c.deref_mut-2.ensures.value)
    (All-right P (s.front.items ++ rest_of s.rest) s.back.items (subst (All P) (sym c.in_ok-own_number.ensures.kept) c.requires.has))

pub returns-clause-ok : goal.returns-clause-ok
returns-clause-ok c =
    let s = c.own_number.new.self in
    let f = hold_in c.args.number c.args.quantity in
    let first : take s.front.len (c.hold_back.new.lots ++ drop (length c.hold_back.new.lots) s.front.items) ≡ map f s.front.items = grind (arith, common_steps) in
    let last : take s.back.len (c.hold_back-2.new.lots ++ drop (length c.hold_back-2.new.lots) s.back.items) ≡ map f s.back.items = grind (arith, common_steps) in
    ap (λ (ls : List Lot). ls ++ rest_of s.rest ++ take s.back.len (c.hold_back-2.new.lots ++ drop (length c.hold_back-2.new.lots) s.back.items)) first
    ∙ ap (λ (ls : List Lot). map f s.front.items ++ rest_of s.rest ++ ls) last
    ∙ held-around c.args.number c.args.quantity s.front.items (rest_of s.rest) s.back.items c.in_ok-own_number.ensures.apart
    ∙ ap (map f) c.in_ok-own_number.ensures.kept
