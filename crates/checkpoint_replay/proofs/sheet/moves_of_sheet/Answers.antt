-- That `moves_of_sheet` keeps its contract.
use Rattle.checkpoint_replay.proofs.MetNumbers.{met-covers, met-distinct}
use Rattle.checkpoint_replay.proofs.SheetApart.{sheet-apart, sheet-own, sheet-reached}
use Rattle.checkpoint_replay.proofs.SheetMoves.{sheet-moves}
use Rattle.checkpoint_replay.specs.Moves.{AreMoves, day_if_moved}
use Rattle.checkpoint_replay.specs.Parts.{part_in}
use Rattle.checkpoint_replay.specs.Sheets.{IsReached}
use Rattle.checkpoint_replay.specs.declared.change.HouseholdMove.{HouseholdMove}
use Rattle.checkpoint_replay.specs.NumberedRows.{numbers_met}
use Rattle.std.proofs.Common.{All, List, ap, fold, subst, sym, ◌∙◌}
use Rattle.std.proofs.lemmas.Result.{IfOk-weaker}
use Rattle.checkpoint_replay.proofs.sheet.moves_of_sheet.Goals as goal

pub returns-clause-days : goal.returns-clause-days
returns-clause-days g c =
    let parts = c.args.parts.now.entries in
    IfOk-weaker c.gathered_moves.result _ _
    (λ moves is household. ap (λ (ms : List HouseholdMove). fold (day_if_moved household) (part_in parts household) ms) is
    ∙ sheet-moves c.args.facts.now c.args.orders.now parts (numbers_met c.args.orders.now) c.requires.parts.once (met-distinct c.args.orders.now) (met-covers c.args.orders.now) household)
    c.gathered_moves.ensures.moves

pub returns-clause-reached : goal.returns-clause-reached
returns-clause-reached g c =
    let parts = c.args.parts.now.entries in
    IfOk-weaker c.gathered_moves.result _ _
    (λ moves is. subst (All (IsReached c.args.facts.now c.args.orders.now parts)) (sym is)
    (sheet-reached c.args.facts.now c.args.orders.now parts (numbers_met c.args.orders.now) c.requires.parts.once))
    c.gathered_moves.ensures.moves

pub returns-clause-moves : goal.returns-clause-moves
returns-clause-moves g c =
    let parts = c.args.parts.now.entries in
    IfOk-weaker c.gathered_moves.result _ _
    (λ moves is. subst AreMoves (sym is) (record {
      apart = sheet-apart c.args.facts.now c.args.orders.now parts (numbers_met c.args.orders.now) c.requires.parts.once (met-distinct c.args.orders.now);
      own = sheet-own c.args.facts.now c.args.orders.now parts (numbers_met c.args.orders.now);
    }))
    c.gathered_moves.ensures.moves
