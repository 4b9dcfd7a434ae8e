-- Isolation: what one holder asks is answered by nothing but the household's view of the journal.
use Rattle.std.specs.Prelude.{List, None, Ok, Option, Result, Some, [], length, true, ℕ, ◌<◌, ◌∷◌, ◌≡◌}
use Rattle.agent_events.specs.declared.reply.Refusal.{Refusal}
use Rattle.agent_events.specs.declared.request.LineForm.{LineForm}
use Rattle.agent_events.specs.declared.request.Request.{Request}
use Rattle.register_laws.specs.Households.{is_of_household}
use Rattle.register_machine.specs.journal.Journals.{Journal}
use Rattle.register_machine.specs.journal.Kinds.{accounts_of}
use Rattle.register_machine.specs.journal.Lawful.{IsLawful}
use Rattle.register_machine.specs.journal.Views.{view}
use Rattle.register_machine.specs.pricing.PublishedTable.{table_of}
use Rattle.register_machine.specs.rules.Callers.{caller_of}
use Rattle.register_machine.specs.rules.Situations.{Situation, situation_at}
use Rattle.register_machine.specs.run.Answers.{machine_answer}
use Rattle.register_machine.specs.run.Batches.{BatchAnswer, batch_answer}

-- the account of an order, a dealer's line, a cancel, or a look at an account
abbrev pub account_asked : Request → Option ℕ
account_asked (Request.Order order) = Some order.account
account_asked (Request.Line line) = Some line.order.account
account_asked (Request.Cancel form) = Some form.account
account_asked (Request.Show account) = Some account
account_asked (Request.Trace form) = Some form.account
account_asked (Request.Statement form) = Some form.account
account_asked _ = None

-- the request is about an account of the household
abbrev pub IsAskedOf : Journal → ℕ → Request → Type 0
IsAskedOf journal household request =
    (account : ℕ) × (account_asked request ≡ Some account)
    × (is_of_household (accounts_of journal) household account ≡ true)

-- While the journal isn't full, an order, a line, a cancel, and a look at an account are answered as from the household's view,
-- for every key and moment: with the same reply, and the same event appended.
abbrev pub IsolatesHouseholds : Journal → ℕ → Type 0
IsolatesHouseholds journal household =
    IsLawful journal → length journal < 100000000
    → (operator key : List ℕ) (now : ℕ) (request : Request) → IsAskedOf journal household request
    → machine_answer operator journal now key request ≡ machine_answer operator (view household journal) now key request

-- the situation of a caller by the key, and what a batch of one line gets there
abbrev pub situation_by_key : Journal → ℕ → List ℕ → List ℕ → Situation
situation_by_key journal now operator key =
    situation_at (table_of journal) journal now (caller_of journal operator key)

abbrev pub one_line_answer : Situation → LineForm → Result BatchAnswer Refusal
one_line_answer situation line = batch_answer situation (Ok (Ok (Request.Line line) ∷ []))

-- And so is a dealer's batch of one line.
abbrev pub IsolatesBatches : Journal → ℕ → Type 0
IsolatesBatches journal household =
    IsLawful journal → length journal < 100000000
    → (operator key : List ℕ) (now : ℕ) (line : LineForm)
    → IsAskedOf journal household (Request.Line line)
    → one_line_answer (situation_by_key journal now operator key) line
    ≡ one_line_answer (situation_by_key (view household journal) now operator key) line
