-- Classes are counted by the set of those that were met.
use Rattle.std.proofs.Common.{Bool, List, [], arith, cond, false, fold, length, nat_eq, true, ℕ, ◌∷◌, ◌≡◌, ◌≤◌}
use Rattle.std.specs.List.{list_any}
use Rattle.agent_events.specs.declared.checkpoint.PositionRow.{PositionRow}
use Rattle.state_rows.specs.Rules.{are_few_classes, classes_beside}

one-at-most : (b : Bool) → cond b 0 1 ≤ 1
one-at-most true = omega arith
one-at-most false = omega arith

-- there are no more classes than positions
no-more : (met : List ℕ) (rows : List PositionRow) → classes_beside met rows ≤ length rows
no-more met [] = omega arith
no-more met (row ∷ rows) =
    let first = one-at-most (list_any (nat_eq row.class) met) in
    let rest = no-more (row.class ∷ met) rows in
    omega (arith, first, rest)

pub few-positions : (rows : List PositionRow) → length rows ≤ 1000 → true ≡ are_few_classes rows
few-positions rows few = let all = no-more [] rows in grind (arith, all)

-- the classes that were met in positions, the last one first
abbrev pub classes_met : List PositionRow → List ℕ
classes_met rows = fold (λ met row. row.class ∷ met) [] rows
