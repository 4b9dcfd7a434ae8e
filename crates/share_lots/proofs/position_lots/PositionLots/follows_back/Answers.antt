-- That `PositionLots::follows_back` keeps its contract.
use Rattle.std.proofs.Common.{◌≡◌, ◌++◌, ◌-◌, ◌∙◌, List, Some, ap, length, subst, sym}
use Rattle.std.specs.List.{slice_get}
use Rattle.std.specs.Option.{option_copied}
use Rattle.share_lots.specs.declared.lot.Lot.{Lot}
use Rattle.share_lots.specs.Rows.{rest_of}
use Rattle.share_lots.proofs.RowLemmas.{part-precedes}
use Rattle.share_lots.proofs.position_lots.PositionLots.follows_back.Goals as goal

pub returns-in-Some : goal.returns-in-Some
returns-in-Some c = λ first.
    let s = c.args.self.now in
    part-precedes (s.front.items ++ rest_of s.rest) s.back.items c.args.lot.now c.in-Some.last.now c.requires
    (subst (λ (ls : List Lot). slice_get ls (length ls - 1) ≡ Some c.in-Some.last.now) c.deref.ensures.value (sym c.last.ensures.value ∙ ap option_copied c.in-Some.is))
    (sym c.ranks_before.ensures ∙ first)
