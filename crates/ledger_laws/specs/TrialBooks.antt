-- The book of a correction on trial. It is known before it is known what the correction breaks.
use Rattle.std.specs.Prelude.{None, is_some, length, true, ◌≡◌}
use Rattle.agent_events.specs.Events.{Event, request_of}
use Rattle.agent_events.specs.declared.verdict.Caller.{Caller}
use Rattle.ledger_laws.specs.SoundBooks.{IsSoundBook}
use Rattle.register_laws.specs.Lawful.{book_behind, own_at}
use Rattle.register_laws.specs.OneEventMore.{book_after}
use Rattle.register_machine.specs.corrections.Payments.{bearer_in}
use Rattle.register_machine.specs.journal.Journals.{Journal, with_event}
use Rattle.register_machine.specs.journal.Lawful.{IsLawful}
use Rattle.register_machine.specs.pricing.CorrectedBook.{book_of}
use Rattle.register_machine.specs.rules.InOrder.{broken_rule}

-- The book behind a correction is sound; it is the book before, gone on by the correction, and the one whose replay tells what the
-- correction breaks.
pub record IsSoundOnTrial (journal : Journal) (event : Event) : Type 0 where
  pub sound : IsSoundBook (book_behind (with_event journal event))
  pub goes_on : book_behind (with_event journal event)
      ≡ book_after (length journal) (book_behind journal) event.moment event.kind
  pub on_trial : book_of (book_behind journal).table (with_event journal event) ≡ book_behind (with_event journal event)

-- So it is where a lawful journal has a correction that none of the rules before the last one refuses.
abbrev pub LawfulTrialIsSound : Journal → Event → Caller → Type 0
LawfulTrialIsSound journal event caller =
    IsLawful journal → is_some (bearer_in event.kind) ≡ true
    → broken_rule (own_at journal event.moment caller) (request_of event.kind) ≡ None
    → IsSoundOnTrial journal event
