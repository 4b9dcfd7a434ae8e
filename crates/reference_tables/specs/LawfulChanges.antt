-- The events of a lawful journal can change the book of its prices, which then has those of the journal behind the event.
use Rattle.std.specs.Prelude.{◌≡◌}
use Rattle.agent_events.specs.Events.{Event}
use Rattle.reference_tables.specs.PriceChanges.{CanChange, HasGoodCalendar}
use Rattle.register_laws.specs.OneEventMore.{corrected_table, corrected_table_by}
use Rattle.register_machine.specs.journal.Journals.{Journal, with_event}
use Rattle.register_machine.specs.journal.Lawful.{IsLawful}

pub record ChangesPrices (journal : Journal) (event : Event) : Type 0 where
  pub good : HasGoodCalendar event.kind
  pub fits : CanChange (corrected_table journal) event.kind
  pub leaves : corrected_table_by (corrected_table journal) event.moment event.kind
      ≡ corrected_table (with_event journal event)

abbrev pub LawfulChangesPrices : Journal → Event → Type 0
LawfulChangesPrices journal event = IsLawful (with_event journal event) → ChangesPrices journal event
