-- The machine's list of rules says of each verb what the verb's own short list says: the rules that say nothing of it compute
-- to nothing.
use Rattle.std.proofs.Common.{Bool, [], ap, arith, false, nat_lt, refl, ℕ, ◌∷◌, ◌≡◌}
use Rattle.agent_events.specs.declared.order.Order.{Order}
use Rattle.agent_events.specs.declared.reply.Refusal.{Refusal}
use Rattle.agent_events.specs.declared.request.Request.{Request}
use Rattle.register_machine.specs.journal.Choices.{first_some, when}
use Rattle.register_machine.specs.rules.InOrder.{broken_rule}
use Rattle.register_machine.specs.rules.Limits.{journal_full, orders_full}
use Rattle.register_machine.specs.rules.Situations.{Situation}
use Rattle.request_rules.specs.VerbRules.{asking_rules, rules_of}

not-below-itself : (n : ℕ) → nat_lt n n ≡ false
not-below-itself n = grind arith

-- an order of now isn't ahead of now
order-rules : (situation : Situation) (order : Order) → broken_rule situation (Request.Order order) ≡ first_some (rules_of situation (Request.Order order))
order-rules situation order =
    ap (λ (ahead : Bool). first_some (asking_rules situation (Request.Order order) (when ahead (Refusal.ReceiptAhead situation.now) ∷ orders_full situation (Request.Order order) ∷ journal_full situation (Request.Order order) ∷ [])))
    (not-below-itself situation.now)

pub rule_by_verb : (situation : Situation) (request : Request) → broken_rule situation request ≡ first_some (rules_of situation request)
rule_by_verb situation (Request.Calendar form) = refl
rule_by_verb situation (Request.Close form) = refl
rule_by_verb situation (Request.Class form) = refl
rule_by_verb situation (Request.Dealer form) = refl
rule_by_verb situation (Request.Household form) = refl
rule_by_verb situation (Request.Account form) = refl
rule_by_verb situation (Request.Sheet form) = refl
rule_by_verb situation (Request.Dividend form) = refl
rule_by_verb situation (Request.FixPrice form) = refl
rule_by_verb situation (Request.FixRate form) = refl
rule_by_verb situation (Request.Enter form) = refl
rule_by_verb situation (Request.Replace form) = refl
rule_by_verb situation (Request.Void form) = refl
rule_by_verb situation (Request.Order order) = order-rules situation order
rule_by_verb situation (Request.Cancel form) = refl
rule_by_verb situation (Request.Show account) = refl
rule_by_verb situation (Request.Trace form) = refl
rule_by_verb situation (Request.Statement form) = refl
rule_by_verb situation Request.Books = refl
rule_by_verb situation (Request.Line line) = refl
