-- A full journal: an event more is refused, and looks and repeats are answered as ever.
use Rattle.std.specs.Option.{option_map_or}
use Rattle.std.specs.Prelude.{Bool, None, [], false, length, position, true, ℕ, ◌∷◌, ◌≡◌, ◌≤◌}
use Rattle.agent_events.specs.Events.{Event}
use Rattle.agent_events.specs.declared.reply.Refusal.{Refusal}
use Rattle.agent_events.specs.declared.request.Request.{Request}
use Rattle.register_laws.specs.Answers.{RepeatsItsFirst, is_query}
use Rattle.register_machine.specs.journal.Choices.{first_some}
use Rattle.register_machine.specs.journal.Journals.{Journal}
use Rattle.register_machine.specs.rules.InOrder.{Rule, broken_by, first_rules}
use Rattle.register_machine.specs.rules.NamedThings.{none_such}
use Rattle.register_machine.specs.rules.Sheets.{sheet_fault}
use Rattle.register_machine.specs.rules.Situations.{Situation, no_right}
use Rattle.register_machine.specs.run.Answers.{Answer, answer, query_reply, refuses, says}
use Rattle.register_machine.specs.run.Verdicts.{repeats}

-- a journal has at most 10^8 events
abbrev pub most_events : ℕ
most_events = 100000000

abbrev pub IsFull : Journal → Type 0
IsFull journal = most_events ≤ length journal

-- The answer to a look, which doesn't ask how long the journal is: a refusal where its caller has no right to it or where
-- something that it names is absent, and else what it asks for.
abbrev pub look_answer : Situation → Request → Answer
look_answer situation request =
    option_map_or refuses (first_some (no_right situation request ∷ none_such situation request ∷ []))
    (says (query_reply situation request))

abbrev pub LooksAreAnswered : Situation → Request → Type 0
LooksAreAnswered situation request =
    is_query request ≡ true → answer situation request ≡ look_answer situation request

-- the rule of the full journal
abbrev pub is_of_full_journal : Rule → Bool
is_of_full_journal Rule.JournalFull = true
is_of_full_journal _ = false

-- a request of new content that breaks no other rule than that of the full journal
pub record BreaksNoOther (situation : Situation) (request : Request) : Type 0 where
  pub allowed : first_some (first_rules situation request) ≡ None
  pub new : position (repeats request) situation.journal ≡ None
  pub others : (rule : Rule) → is_of_full_journal rule ≡ false → broken_by situation request (sheet_fault situation request) rule ≡ None

-- What is answered behind a full journal: nothing is appended; what would be is refused for it; a look is answered as ever; and
-- a repeat gets the first reply to its event.
pub record AnswersWhenFull (situation : Situation) (request : Request) : Type 0 where
  pub appends_nothing : (answer situation request).events ≡ []
  pub no_more : is_query request ≡ false → BreaksNoOther situation request → answer situation request ≡ refuses Refusal.JournalFull
  pub looks : LooksAreAnswered situation request
  pub again : (place : ℕ) (event : Event) → RepeatsItsFirst situation request place event

abbrev pub FullJournalsAnswer : Situation → Request → Type 0
FullJournalsAnswer situation request = IsFull situation.journal → AnswersWhenFull situation request
