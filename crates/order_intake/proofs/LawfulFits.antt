-- A lawful journal and its corrected table fit each other, and the situation of a request is the journal's own.
use Rattle.std.proofs.Common.{ap, refl, subst, sym, unwrap_or, ℕ, ◌∙◌, ◌≡◌}
use Rattle.agent_events.specs.Events.{event_of}
use Rattle.agent_events.specs.declared.request.Request.{Request}
use Rattle.agent_events.specs.declared.verdict.Caller.{Caller}
use Rattle.forward_price.specs.PriceTables.{Table}
use Rattle.order_intake.specs.Admitted.{due_asked}
use Rattle.register_laws.proofs.CorrectedAgain.{table-same-again}
use Rattle.register_laws.proofs.HasNoIdentityTwice.{no_identity_twice}
use Rattle.register_laws.proofs.KeepsLimits.{calendars_counted}
use Rattle.register_laws.proofs.TablesAreOrderly.{orderly_tables}
use Rattle.register_laws.specs.Lawful.{own_at}
use Rattle.register_laws.specs.OneEventMore.{corrected_table}
use Rattle.register_machine.specs.journal.Journals.{Journal}
use Rattle.register_machine.specs.journal.Lawful.{IsLawful}
use Rattle.register_machine.specs.pricing.PublishedTable.{table_of}
use Rattle.register_machine.specs.rules.Situations.{Situation, situation_at}
use Rattle.register_machine.specs.run.Verdicts.{due_now}
use Rattle.request_rules.specs.Inquiries.{FitsJournal, situation_with}
use Rattle.request_rules.specs.VerbRules.{due_of_request}

own-fits : (journal : Journal) → IsLawful journal → FitsJournal (corrected_table journal) journal
own-fits journal lawful = record {
  orderly = (orderly_tables journal lawful).corrected;
  calendars = calendars_counted journal lawful;
  once = no_identity_twice journal lawful;
}

pub lawful_fits : (table : Table) (journal : Journal) → IsLawful journal → table ≡ corrected_table journal → FitsJournal table journal
lawful_fits table journal lawful is = subst (λ (t : Table). FitsJournal t journal) (sym is) (own-fits journal lawful)

-- the situation that is asked is the journal's own
pub own_situation : (table : Table) (journal : Journal) (now : ℕ) (caller : Caller) → table ≡ corrected_table journal → situation_with table journal now caller ≡ own_at journal now caller
own_situation table journal now caller is = ap (λ (t : Table). situation_with t journal now caller) is

-- corrected prices are corrected again to the same
pub same_situation : (table : Table) (journal : Journal) (now : ℕ) (caller : Caller) → table ≡ corrected_table journal → situation_with table journal now caller ≡ situation_at table journal now caller
same_situation table journal now caller is =
    ap (λ (t : Table). situation_with t journal now caller) (is ∙ sym (table-same-again journal (table_of journal)))
    ∙ sym (ap (λ (t : Table). situation_at t journal now caller) is)

-- the event of a request keeps no other due moment
pub same_event : (situation : Situation) (request : Request) → event_of request situation.now (due_now situation request) ≡ event_of request situation.now (due_asked situation request)
same_event situation (Request.Calendar form) = refl
same_event situation (Request.Close form) = refl
same_event situation (Request.Class form) = refl
same_event situation (Request.Dealer form) = refl
same_event situation (Request.Household form) = refl
same_event situation (Request.Account form) = refl
same_event situation (Request.Sheet form) = refl
same_event situation (Request.Dividend form) = refl
same_event situation (Request.FixPrice form) = refl
same_event situation (Request.FixRate form) = refl
same_event situation (Request.Enter form) = refl
same_event situation (Request.Replace form) = refl
same_event situation (Request.Void form) = refl
same_event situation (Request.Order order) = refl
same_event situation (Request.Cancel form) = refl
same_event situation (Request.Show account) = refl
same_event situation (Request.Trace form) = refl
same_event situation (Request.Statement form) = refl
same_event situation Request.Books = refl
same_event situation (Request.Line line) = refl

-- what the rules know of the due moment is what the event keeps of it
pub asked_due : (situation : Situation) (request : Request)
    → unwrap_or (due_of_request situation request) 0 ≡ due_asked situation request
asked_due situation (Request.Order order) = refl
asked_due situation (Request.Line line) = refl
asked_due situation _ = refl
