-- What the machine brings can be noted.
use Rattle.std.specs.Prelude.{length, ℕ, ◌<◌, ◌≡◌}
use Rattle.agent_events.specs.Events.{Event}
use Rattle.agent_events.specs.declared.request.Request.{Request}
use Rattle.agent_events.specs.declared.verdict.Caller.{Caller}
use Rattle.agent_events.specs.declared.verdict.Verdict.{Verdict}
use Rattle.order_book.specs.Books.{Fits}
use Rattle.register_laws.specs.Lawful.{own_at}
use Rattle.register_machine.specs.journal.Journals.{Journal, with_event}
use Rattle.register_machine.specs.journal.Lawful.{IsLawful}
use Rattle.register_machine.specs.run.Verdicts.{verdict}

-- the event can be noted behind a journal that isn't full
pub record FitsNext (journal : Journal) (event : Event) : Type 0 where
  pub fits : Fits journal event
  pub few : length journal < 100000000

-- Behind a lawful journal each event of a fresh verdict is such, whatever a correction breaks,
abbrev pub FreshFits : Journal → ℕ → Caller → Request → Event → Type 0
FreshFits journal now caller request event =
    IsLawful journal → verdict (own_at journal now caller) request ≡ Verdict.Fresh event → FitsNext journal event

-- and so is each event of a lawful journal behind those before it.
abbrev pub LawfulFits : Journal → Event → Type 0
LawfulFits journal event = IsLawful (with_event journal event) → FitsNext journal event
