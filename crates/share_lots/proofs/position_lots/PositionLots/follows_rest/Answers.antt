-- That `PositionLots::follows_rest` keeps its contract.
use Rattle.std.proofs.Common.{◌≡◌, ◌++◌, true, sym, subst}
use Rattle.std.specs.Prelude.{All}
use Rattle.share_lots.specs.declared.lot.Lot.{Lot}
use Rattle.share_lots.specs.Rows.{rest_of}
use Rattle.std.proofs.lemmas.List.Elements.{All-append}
use Rattle.share_lots.specs.Lots.{AreRanked, ranks_before}
use Rattle.share_lots.proofs.RowLemmas.{AllPairs-left, AllPairs-right}
use Rattle.share_lots.proofs.position_lots.PositionLots.follows_rest.Goals as goal

pub precede-requires-then-precede : goal.precede-requires-then-precede
precede-requires-then-precede c =
    let s = c.args.self.now in
    let first = AllPairs-left (λ a b. ranks_before a b ≡ true) (s.front.items ++ rest_of s.rest) s.back.items c.requires in
    subst AreRanked (sym c.rest.ensures) (AllPairs-right (λ a b. ranks_before a b ≡ true) s.front.items (rest_of s.rest) first)

pub returns-then-precede : goal.returns-then-precede
returns-then-precede c = λ last.
    let s = c.args.self.now in
    let P = λ (other : Lot). ranks_before other c.args.lot.now ≡ true in
    All-append P s.front.items (rest_of s.rest)
    (subst (All P) c.deref.ensures.value (c.precede.ensures c.if-precede.true))
    (subst (All P) c.rest.ensures (c.precede-then-precede.ensures last))
