-- The journal behind a batch of a dealer's lines is lawful: each line is answered behind the events of those before it.
use Rattle.std.specs.Prelude.{Err, List, Ok, Result, [], ℕ, ◌++◌, ◌≤◌}
use Rattle.agent_events.specs.Events.{Event}
use Rattle.agent_events.specs.VerbForms.{Asked}
use Rattle.agent_events.specs.declared.reply.Refusal.{Refusal}
use Rattle.register_laws.specs.Answers.{KeepsItsTable}
use Rattle.register_laws.specs.Lawful.{own_at}
use Rattle.register_machine.specs.journal.Journals.{Journal, last_moment}
use Rattle.register_machine.specs.journal.Lawful.{IsLawful}
use Rattle.register_machine.specs.rules.Callers.{caller_of}
use Rattle.register_machine.specs.run.Batches.{BatchAnswer, batch_answer}
use Rattle.register_machine.specs.run.Scripts.{Run, situation_in}

-- what a batch brings; a batch that is refused brings nothing
abbrev pub batch_events : Result BatchAnswer Refusal → List Event
batch_events (Ok answered) = answered.events
batch_events (Err _) = []

-- in the situation of the journal's own book, by the caller's key
abbrev pub BatchLeavesLawful : List ℕ → Journal → ℕ → List ℕ → Result (List Asked) ℕ → Type 0
BatchLeavesLawful operator journal now key lines =
    IsLawful journal → last_moment journal ≤ now
    → IsLawful (journal ++ batch_events (batch_answer (own_at journal now (caller_of journal operator key)) lines))

-- and behind a run that keeps the price table of its journal
abbrev pub BatchLeavesRunLawful : List ℕ → Run → ℕ → List ℕ → Result (List Asked) ℕ → Type 0
BatchLeavesRunLawful operator run now key lines =
    KeepsItsTable run → IsLawful run.journal → last_moment run.journal ≤ now
    → IsLawful (run.journal ++ batch_events (batch_answer (situation_in operator run now key) lines))
