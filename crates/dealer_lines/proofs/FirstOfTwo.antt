-- Of two lists of rules in the same order, the first refusal among both is the earlier of the two first ones.
use Rattle.std.proofs.Common.{List, None, Option, Some, [], ap, arith, cond, false, map, nat_lt, refl, sym, true, ℕ, ◌+◌, ◌<◌, ◌∙◌, ◌∷◌, ◌≡◌, ◌≤◌}
use Rattle.std.specs.Option.{option_or}
use Rattle.std.specs.Prelude.{IfSome}
use Rattle.agent_events.specs.declared.reply.Refusal.{Refusal}
use Rattle.dealer_lines.specs.RulesBehind.{earlier_rule, rule_place}
use Rattle.register_machine.specs.journal.Choices.{first_some}

-- one rule as two lists say it
abbrev pub Said : Type 0
Said = Option Refusal × Option Refusal

abbrev pub firsts : List Said → List (Option Refusal)
firsts rules = map (λ (rule : Said). rule.0) rules

abbrev pub seconds : List Said → List (Option Refusal)
seconds rules = map (λ (rule : Said). rule.1) rules

abbrev pub both : List Said → List (Option Refusal)
both rules = map (λ (rule : Said). option_or rule.0 rule.1) rules

-- what is said at a place is a refusal of that place
abbrev pub IsAt : ℕ → Option Refusal → Type 0
IsAt place said = IfSome said (λ (refusal : Refusal). rule_place refusal ≡ place)

abbrev pub InPlaces : ℕ → List Said → Type 0
InPlaces place [] = Unit {0}
InPlaces place (rule ∷ later) = IsAt place rule.0 × IsAt place rule.1 × InPlaces (place + 1) later

some-same : {X : Type 0} {x y : X} → Some x ≡ Some y → x ≡ y
some-same e = cc

none-some : {X : Type 0} {x : X} → None ≡ Some x → ⊥
none-some e = cc

pub below : (a b : ℕ) → a < b → nat_lt a b ≡ true
below a b less = grind (arith, less)

not-below : (a b : ℕ) → b ≤ a → nat_lt a b ≡ false
not-below a b more = grind (arith, more)

-- the first of rules from a place on has at least that place
first-place : (place : ℕ) (rules : List Said) (refusal : Refusal) → InPlaces place rules → first_some (firsts rules) ≡ Some refusal → place ≤ rule_place refusal
first-place place [] refusal are e = absurd (none-some e)
first-place place ((None, other) ∷ later) refusal are e =
    let more = first-place (place + 1) later refusal are.2 e in omega (arith, more)
first-place place ((Some one, other) ∷ later) refusal are e =
    let here : rule_place refusal ≡ place = sym (ap rule_place (some-same e)) ∙ are.0 in omega (arith, here)

second-place : (place : ℕ) (rules : List Said) (refusal : Refusal) → InPlaces place rules → first_some (seconds rules) ≡ Some refusal → place ≤ rule_place refusal
second-place place [] refusal are e = absurd (none-some e)
second-place place ((other, None) ∷ later) refusal are e =
    let more = second-place (place + 1) later refusal are.2 e in omega (arith, more)
second-place place ((other, Some one) ∷ later) refusal are e =
    let here : rule_place refusal ≡ place = sym (ap rule_place (some-same e)) ∙ are.1 in omega (arith, here)

pub first_of_both : (place : ℕ) (rules : List Said) → InPlaces place rules → first_some (both rules) ≡ earlier_rule (first_some (firsts rules)) (first_some (seconds rules))
first_of_both place [] are = refl
first_of_both place ((None, None) ∷ later) are = first_of_both (place + 1) later are.2
first_of_both place ((None, Some other) ∷ later) are = by_first (first_some (firsts later)) refl
  where
    by_first : (found : Option Refusal) → first_some (firsts later) ≡ found → Some other ≡ earlier_rule found (Some other)
    by_first None e = refl
    by_first (Some one) e =
        let more = first-place (place + 1) later one are.2 e in
        let here : rule_place other ≡ place = are.1 in
        sym (ap (λ b. cond b (Some other) (Some one)) (below (rule_place other) (rule_place one) (omega (arith, more, here))))
first_of_both place ((Some one, None) ∷ later) are = by_second (first_some (seconds later)) refl
  where
    by_second : (found : Option Refusal) → first_some (seconds later) ≡ found → Some one ≡ earlier_rule (Some one) found
    by_second None e = refl
    by_second (Some other) e =
        let more = second-place (place + 1) later other are.2 e in
        let here : rule_place one ≡ place = are.0 in
        sym (ap (λ b. cond b (Some other) (Some one)) (not-below (rule_place other) (rule_place one) (omega (arith, more, here))))
first_of_both place ((Some one, Some other) ∷ later) are =
    let here : rule_place one ≡ place = are.0 in
    let there : rule_place other ≡ place = are.1 in
    sym (ap (λ b. cond b (Some other) (Some one)) (not-below (rule_place other) (rule_place one) (omega (arith, here, there))))
