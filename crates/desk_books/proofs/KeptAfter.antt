-- The kept states behind an event.
use Rattle.std.proofs.Common.{Bool, List, false, refl, true, ℕ, ◌≡◌}
use Rattle.agent_events.specs.Events.{Event}
use Rattle.register_laws.specs.EventReplays.{is_correction}
use Rattle.ledger_laws.proofs.StatesStay.{lawful_leaves}
use Rattle.ledger_laws.specs.KeptOfBooks.{AreKeptOf}
use Rattle.checkpoint_replay.specs.declared.states.KeptState.{KeptState}
use Rattle.register_laws.specs.Lawful.{book_behind}
use Rattle.register_machine.specs.journal.Journals.{Journal, with_event}
use Rattle.register_machine.specs.journal.Lawful.{IsLawful}

-- They are what their households came to behind a correction where those that it touches are forgotten, and behind any other event.
pub kept_behind : (journal : Journal) (event : Event) (rows : List (ℕ × List KeptState)) → IsLawful (with_event journal event) → AreKeptOf (book_behind journal) rows → (is_correction event.kind ≡ true → AreKeptOf (book_behind (with_event journal event)) rows) → AreKeptOf (book_behind (with_event journal event)) rows
kept_behind journal event rows lawful are corrected = by_kind (is_correction event.kind) refl
  where
    by_kind : (corrects : Bool) → is_correction event.kind ≡ corrects → AreKeptOf (book_behind (with_event journal event)) rows
    by_kind true is = corrected is
    by_kind false is = lawful_leaves journal event rows lawful is are
