-- A class on a sheet of a lawful journal is of the sheet's calendar.
use Rattle.std.proofs.Common.{Bool, Contains, None, Option, Some, [], ap, false, option_map, option_to_list, refl, sym, true, ℕ, ◌&&◌, ◌==◌, ◌||◌, ◌∙◌, ◌∷◌, ◌≡◌}
use Rattle.std.proofs.lemmas.Bool.{and_from, eqb-true, true≢false}
use Rattle.std.proofs.lemmas.List.Folds.{list_any-append}
use Rattle.std.specs.List.{list_any}
use Rattle.std.specs.Option.{option_map_or}
use Rattle.agent_events.specs.Events.{Event}
use Rattle.agent_events.specs.declared.event.EventKind.{EventKind}
use Rattle.agent_events.specs.declared.request.ClassForm.{ClassForm}
use Rattle.forward_price.proofs.OrderlyFacts.{any_from, listed_opening}
use Rattle.forward_price.specs.PriceTables.{Table}
use Rattle.forward_price.specs.Sheets.{lists_class}
use Rattle.forward_price.specs.declared.price_sheet.Opening.{Opening}
use Rattle.forward_price.specs.declared.price_sheet.Sheet.{Sheet}
use Rattle.register_laws.proofs.OneOfAName.{or-same}
use Rattle.register_laws.proofs.Comparisons.{eq-yes}
use Rattle.register_laws.proofs.LawfulJournals.{lawful-keeps}
use Rattle.register_laws.proofs.NoIdentityTwice.{no_class_twice}
use Rattle.register_laws.proofs.OneEventMore.{gathers-on}
use Rattle.register_laws.proofs.Runs.{table-one}
use Rattle.register_laws.proofs.SeenAlike.{any-by-find}
use Rattle.register_laws.proofs.TablesAreOrderly.{orderly_tables}
use Rattle.register_laws.specs.Identities.{is_class}
use Rattle.register_laws.specs.Lawful.{IsBrought, book_behind}
use Rattle.register_machine.specs.journal.Journals.{Journal, with_event}
use Rattle.register_machine.specs.journal.Kinds.{class_in, class_numbered, classes_of}
use Rattle.register_machine.specs.journal.Lawful.{IsLawful}
use Rattle.register_machine.specs.pricing.CorrectedBook.{calendar_of}
use Rattle.register_machine.specs.pricing.PublishedTable.{table_behind, table_by, table_of}

-- a class of a calendar, as it was opened and as it was sent
abbrev opens : ℕ → ℕ → Opening → Bool
opens class calendar opening = opening.class == class && opening.calendar == calendar

abbrev is_of : ℕ → ℕ → ClassForm → Bool
is_of class calendar form = form.class == class && form.calendar == calendar

-- ---- the openings of the table are the classes of the journal

opening-more : (class calendar : ℕ) (table : Table) (moment : ℕ) (kind : EventKind) → list_any (opens class calendar) (table_by table moment kind).classes ≡ (list_any (opens class calendar) table.classes || list_any (is_of class calendar) (option_to_list (class_in kind)))
opening-more class calendar table moment (EventKind.Class form) =
    list_any-append (opens class calendar) table.classes (record { class = form.class; calendar = form.calendar; opened = moment } ∷ [])
opening-more class calendar table moment _ = sym (or-same (list_any (opens class calendar) table.classes))

abbrev OpensAsSent : Journal → Type 0
OpensAsSent journal = (class calendar : ℕ) → list_any (opens class calendar) (table_of journal).classes ≡ list_any (is_of class calendar) (classes_of journal)

opens-more : (journal : Journal) (event : Event) → IsLawful journal → IsBrought journal event → OpensAsSent journal → OpensAsSent (with_event journal event)
opens-more journal event lawful brought same class calendar =
    ap (λ (table : Table). list_any (opens class calendar) table.classes) (table-one journal event)
    ∙ (opening-more class calendar (table_of journal) event.moment event.kind
    ∙ (ap (λ b. b || list_any (is_of class calendar) (option_to_list (class_in event.kind))) (same class calendar)
    ∙ (sym (list_any-append (is_of class calendar) (classes_of journal) (option_to_list (class_in event.kind)))
    ∙ ap (list_any (is_of class calendar)) (sym (gathers-on class_in journal event)))))

opens-at-first : OpensAsSent []
unfolding table_behind
opens-at-first class calendar = refl

opens-as-sent : (journal : Journal) → IsLawful journal → OpensAsSent journal
opens-as-sent = lawful-keeps OpensAsSent opens-more opens-at-first

-- ---- what a sheet lists

pub listed-calendar : (journal : Journal) → IsLawful journal → (sheet : Sheet) (class : ℕ) → Contains (book_behind journal).table.sheets sheet → lists_class sheet.prices class ≡ true → calendar_of (book_behind journal) class ≡ Some sheet.calendar
listed-calendar journal lawful sheet class among lists =
    by_class (class_numbered (classes_of journal) class)
    (sym (any-by-find (is_class class) (λ (form : ClassForm). form.calendar == sheet.calendar) (classes_of journal) (no_class_twice journal lawful class)) ∙ sent)
  where
    opened : list_any (opens class sheet.calendar) (table_of journal).classes ≡ true
    opened =
        let found = listed_opening (book_behind journal).table sheet class (orderly_tables journal lawful).corrected among lists in
        any_from (opens class sheet.calendar) (table_of journal).classes found.0 found.1
        (and_from (found.0.class == class) (found.0.calendar == sheet.calendar) (eq-yes found.0.class class found.2) (eq-yes found.0.calendar sheet.calendar found.3))

    sent : list_any (is_of class sheet.calendar) (classes_of journal) ≡ true
    sent = sym (opens-as-sent journal lawful class sheet.calendar) ∙ opened

    by_class : (found : Option ClassForm) → option_map_or (λ (form : ClassForm). form.calendar == sheet.calendar) found false ≡ true → option_map (λ (form : ClassForm). form.calendar) found ≡ Some sheet.calendar
    by_class None is = absurd (true≢false (sym is))
    by_class (Some form) is = ap Some (eqb-true form.calendar sheet.calendar is)
