-- The replies of the books: to a look that breaks no rule, to a repeat, and to an event.
use Rattle.std.specs.Prelude.{None, Option, Some, ℕ, ◌≡◌}
use Rattle.agent_events.specs.Events.{Event}
use Rattle.agent_events.specs.declared.request.Request.{Request}
use Rattle.agent_events.specs.declared.verdict.Caller.{Caller}
use Rattle.agent_events.specs.declared.verdict.Verdict.{Verdict}
use Rattle.desk_books.specs.declared.change.LedgerChange.{LedgerChange}
use Rattle.gain_loss_book.specs.Booked.{correction_at}
use Rattle.gain_loss_book.specs.declared.posting.Correction.{Correction}
use Rattle.register_laws.specs.Lawful.{own_at}
use Rattle.register_machine.specs.journal.Journals.{Journal}
use Rattle.register_machine.specs.run.Verdicts.{verdict}

-- the request is a look that breaks no rule
abbrev pub IsLook : Journal → ℕ → Caller → Request → Type 0
IsLook journal now caller request = verdict (own_at journal now caller) request ≡ Verdict.Query

-- who bears a correction and its gains are those of the event
abbrev pub correction_in : Option LedgerChange → Option Correction
correction_in None = None
correction_in (Some change) = change.correction

abbrev pub HasItsGains : Journal → Event → Option LedgerChange → Type 0
HasItsGains journal event ledger = correction_in ledger ≡ correction_at journal event
