-- That `push_moves_of_parts` keeps its contract.
use Rattle.checkpoint_replay.proofs.FoundParts.{day-found, number-found, step-on-day}
use Rattle.checkpoint_replay.proofs.StepCounts.{front-within}
use Rattle.checkpoint_replay.specs.Parts.{day_of}
use Rattle.checkpoint_replay.specs.Sheets.{move_unless_quiet, moves_of_entry, moves_of_parts}
use Rattle.agent_events.specs.declared.order.Order.{Order}
use Rattle.std.proofs.Common.{List, ap, arith, length, length-append, map, subst, sym, ◌++◌, ◌+◌, ◌∙◌, ◌≡◌, ◌≤◌}
use Rattle.std.proofs.lemmas.Map.Iter.{hash_map_turn, rest_more, rest_so_far}
use Rattle.std.specs.Cmp.{nat_eq_equiv}
use Rattle.std.specs.Map.Iter.{deref_pair}
use Rattle.checkpoint_replay.proofs.sheet.push_moves_of_parts.Goals as goal

pub push_move-requires-clause-number : goal.push_move-requires-clause-number
push_move-requires-clause-number g c =
    let gives = c.into_iter-household-iterator.ensures.into_iter_gives in
    let turn = hash_map_turn deref_pair c.loop-household.yielded c.into_iter-household-iterator.result c.loop-household.household-iterator c.next.new.self c.next.result (c.in-Some.household, c.in-Some.part) c.loop-household.yielded_by c.in-Some.is c.next.ensures.steps nat_eq_equiv c.args.parts.now gives.0 gives.4 in
    number-found c.args.parts.now.entries c.in-Some.household.now c.in-Some.part.now c.requires.parts.own turn.1

pub push_move-requires-clause-step : goal.push_move-requires-clause-step
push_move-requires-clause-step g c =
    let gives = c.into_iter-household-iterator.ensures.into_iter_gives in
    let turn = hash_map_turn deref_pair c.loop-household.yielded c.into_iter-household-iterator.result c.loop-household.household-iterator c.next.new.self c.next.result (c.in-Some.household, c.in-Some.part) c.loop-household.yielded_by c.in-Some.is c.next.ensures.steps nat_eq_equiv c.args.parts.now gives.0 gives.4 in
    step-on-day c.args.facts.now c.args.orders.now c.args.parts.now.entries c.in-Some.household.now c.under-own.result.now (day_of c.in-Some.part.now) c.requires.households c.under-own.ensures
    (day-found c.args.parts.now.entries c.in-Some.household.now c.in-Some.part.now turn.1)

pub returns-in_err-push_move-clause-most : goal.returns-in_err-push_move-clause-most
returns-in_err-push_move-clause-most g c =
    let known = c.args.facts.now in
    let rows = c.args.orders.now in
    let parts = c.args.parts.now.entries in
    let front = map deref_pair c.loop-household.yielded in
    let gives = c.into_iter-household-iterator.ensures.into_iter_gives in
    let whole = sym gives.0
    ∙ rest_so_far deref_pair c.loop-household.yielded c.into_iter-household-iterator.result c.loop-household.household-iterator c.loop-household.yielded_by
    ∙ ap (λ l. front ++ l) (rest_more deref_pair c.loop-household.household-iterator c.next.new.self c.next.result (c.in-Some.household, c.in-Some.part) c.in-Some.is c.next.ensures.steps) in
    let within = front-within (moves_of_entry known rows) parts front c.next.new.self (deref_pair (c.in-Some.household, c.in-Some.part)) whole in
    let lens : length c.loop-household.moves.items ≡ length c.args.moves.now.items + length (moves_of_parts known rows front) =
    ap length c.loop-household.invariant.moves ∙ length-append c.args.moves.now.items (moves_of_parts known rows front) in
    let most = subst (λ (own : List Order). c.push_move.new.steps ≤ c.loop-household.steps + length (move_unless_quiet known own c.in-Some.household.now (day_of c.in-Some.part.now))) c.under-own.ensures c.push_move.ensures.most in
    omega (arith, lens, c.loop-household.invariant.steps, most, within)
