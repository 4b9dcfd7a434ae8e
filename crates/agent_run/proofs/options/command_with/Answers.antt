-- That `command_with` keeps its contract.
use Rattle.std.proofs.Common.{◌≡◌, ◌∙◌, ◌<◌, ◌+◌, ◌++◌, ℕ, List, [], ◌∷◌, Bor, map, take, length, zero, suc, get_or, ap, ap₂, refl, sym, arith}
use Rattle.clap.specs.Words.{with_rule}
use Rattle.agent_run.specs.Options.{Text}
use Rattle.agent_run.specs.Parser.{app_with, option_rule}
use Rattle.agent_run.proofs.options.command_with.Goals as goal

abbrev names : List (Bor Text) → List Text
names = map (λ option. option.now)

-- one option more
one_more : (xs : List (Bor Text)) (i : ℕ) (d : Bor Text) → i < length xs
    → map option_rule (names (take i xs)) ++ option_rule (get_or xs i d).now ∷ [] ≡ map option_rule (names (take (suc i) xs))
one_more [] i d lt = absurd (omega arith)
one_more (x ∷ xs) zero d lt = refl
one_more (x ∷ xs) (suc i) d lt = ap (λ rest. option_rule x.now ∷ rest) (one_more xs i d (omega arith))

pub loop-option-preserved : goal.loop-option-preserved
loop-option-preserved c =
    let i = c.loop-option.option-index in
    let xs = c.args.options.now in
    let next : i + 1 ≡ suc i = omega arith in
    let within : i < length xs = c.loop-option-test.true in
    c.in_ok-command.ensures.shape c.option_named.ensures.local
    ∙ ap₂ with_rule c.loop-option.invariant c.option_named.ensures.rule
    ∙ ap (λ rules. record (app_with c.args.name.now []) { top = record (app_with c.args.name.now []).top { rules = rules } }) (one_more xs i _ within)
    ∙ ap (λ n. app_with c.args.name.now (names (take n xs))) (sym next)
