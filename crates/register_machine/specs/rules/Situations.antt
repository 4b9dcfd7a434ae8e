-- What the machine knows when a request comes, and the first rule of all.
use Rattle.std.specs.Prelude.{Option, ℕ, not}
use Rattle.agent_events.specs.Events.{Event}
use Rattle.agent_events.specs.declared.event.EventKind.{EventKind}
use Rattle.agent_events.specs.declared.reply.Refusal.{Refusal}
use Rattle.agent_events.specs.declared.request.Request.{Request}
use Rattle.forward_price.specs.PriceTables.{Table}
use Rattle.register_machine.specs.journal.Choices.{when}
use Rattle.register_machine.specs.journal.Journals.{Journal}
use Rattle.register_machine.specs.pricing.CorrectedBook.{Book, book_of}
use Rattle.agent_events.specs.declared.verdict.Caller.{Caller}
use Rattle.register_machine.specs.rules.Callers.{may}

-- the journal with its corrected book, now, and the caller
pub record Situation : Type 0 where
  pub journal : Journal
  pub book : Book
  pub now : ℕ
  pub caller : Caller

-- the situation at a journal whose sheets stand in this table, corrected or as they were published
abbrev pub situation_at : Table → Journal → ℕ → Caller → Situation
situation_at table journal now caller =
    record { journal = journal; book = book_of table journal; now = now; caller = caller }

abbrev pub event_at : Situation → EventKind → Event
event_at situation kind = record { moment = situation.now; kind = kind }

-- Refusal 1. The caller has no right to the verb, or to the account that it names.
abbrev pub no_right : Situation → Request → Option Refusal
no_right situation request =
    when (not (may situation.book.accounts situation.caller request)) Refusal.NoRight
