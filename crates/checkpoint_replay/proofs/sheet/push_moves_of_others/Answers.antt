-- That `push_moves_of_others` keeps its contract.
use Rattle.checkpoint_replay.specs.Sheets.{moves_of_other, moves_of_others}
use Rattle.checkpoint_replay.specs.NumberedRows.{numbers_met}
use Rattle.std.proofs.Common.{ap, arith, drop, length, length-append, sym, ◌+◌, ◌∙◌, ◌≡◌}
use Rattle.std.proofs.lemmas.List.Concat.{flat_map-cons}
use Rattle.checkpoint_replay.proofs.sheet.push_moves_of_others.Goals as goal

pub returns-in_err-push_other-clause-most : goal.returns-in_err-push_other-clause-most
returns-in_err-push_other-clause-most g c =
    let known = c.args.facts.now in
    let rows = c.args.orders.now in
    let parts = c.args.parts.now.entries in
    let own = moves_of_other known rows parts c.in-Some.household in
    let left = numbers_met (drop c.loop-household.place rows) in
    let behind = numbers_met (drop c.in-Some.behind rows) in
    let head : length (moves_of_others known rows parts left) ≡ length own + length (moves_of_others known rows parts behind) =
    ap (λ numbers. length (moves_of_others known rows parts numbers)) c.in-Some.ensures.met
    ∙ ap length (flat_map-cons (moves_of_other known rows parts) c.in-Some.household behind)
    ∙ length-append own (moves_of_others known rows parts behind) in
    let lens : length c.loop-household.moves.items + length (moves_of_others known rows parts left) ≡ length c.args.moves.now.items + length (moves_of_others known rows parts (numbers_met rows)) =
    sym (length-append c.loop-household.moves.items (moves_of_others known rows parts left))
    ∙ ap length c.loop-household.invariant.moves
    ∙ length-append c.args.moves.now.items (moves_of_others known rows parts (numbers_met rows)) in
    omega (arith, head, lens, c.loop-household.invariant.steps, c.push_other.ensures.most)
