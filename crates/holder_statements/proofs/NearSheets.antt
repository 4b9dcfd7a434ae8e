-- The sheets of a lawful journal are dated near their moments: each is published on a pricing day of its calendar.
use Rattle.std.proofs.Common.{All, Bool, Contains, List, None, Option, Some, [], ap, arith, cond, false, find, get_or, map, option_and_then, option_map, refl, subst, suc, sym, true, unwrap_or, zero, ℕ, ◌==◌, ◌∙◌, ◌∷◌, ◌≡◌, ◌≤◌}
use Rattle.std.proofs.lemmas.Bool.{eqb-true}
use Rattle.std.proofs.lemmas.Bool.Decides.{Decides-eqb}
use Rattle.std.proofs.lemmas.List.Elements.{All-contains, All-head, All-map, All-nil, All-push, All-tail, filter_map-append}
use Rattle.std.specs.Prelude.{filter_map}
use Rattle.agent_events.specs.Events.{Event, request_of}
use Rattle.agent_events.specs.declared.event.EventKind.{EventKind}
use Rattle.agent_events.specs.declared.request.CalendarForm.{CalendarForm}
use Rattle.agent_events.specs.declared.request.Request.{Request}
use Rattle.agent_events.specs.declared.verdict.Caller.{Caller}
use Rattle.forward_price.proofs.OrderlyFacts.{pair_calendar}
use Rattle.forward_price.proofs.TurnFacts.{expected_best}
use Rattle.forward_price.specs.Orderly.{IsOrderly}
use Rattle.forward_price.specs.PriceTables.{Table, closed_in, sheet_published}
use Rattle.forward_price.specs.Turns.{expected_of, wrong_class}
use Rattle.fund_calendar.proofs.ListFacts.{All-left, All-right}
use Rattle.fund_calendar.specs.PricingDays.{Listing, date_at}
use Rattle.fund_calendar.specs.declared.pricing_day.PricingDay.{PricingDay}
use Rattle.holder_statements.specs.Periods.{IsSheetNear}
use Rattle.register_laws.proofs.LawfulJournals.{lawful-keeps}
use Rattle.register_laws.proofs.RulesByName.{not_broken}
use Rattle.register_laws.proofs.Runs.{table-one}
use Rattle.register_laws.proofs.SheetsClimb.{sheets_never_fall}
use Rattle.register_laws.proofs.TablesAreOrderly.{expected-corrected, orderly_tables, without-fault}
use Rattle.register_laws.specs.Lawful.{IsBrought, book_behind, own_at}
use Rattle.register_machine.specs.journal.Journals.{Journal, with_event}
use Rattle.register_machine.specs.journal.Kinds.{calendar_in, calendars_of, each_in, price_fix_in}
use Rattle.register_machine.specs.journal.Lawful.{IsLawful}
use Rattle.register_machine.specs.pricing.CorrectedPrices.{sheet_as_corrected}
use Rattle.register_machine.specs.pricing.PublishedTable.{listing_of, table_behind, table_by, table_of}
use Rattle.register_machine.specs.rules.InOrder.{Rule, broken_rule}
use Rattle.holder_statements.proofs.NearDays.{IsDayNear, calendar_near, closed_near}
use Rattle.holder_statements.specs.LawfulStatements.{IsTimely, LawfulSheetsAreDated}

abbrev AreDaysNear : List Listing → Type 0
AreDaysNear calendars = All (λ (c : Listing). All IsDayNear c.days) calendars

record IsNearTable (t : Table) : Type 0 where
  days : AreDaysNear t.calendars
  sheets : All IsSheetNear t.sheets

-- ---- a sheet in its turn

-- the day that a moment finds
record IsFoundAt (days : List PricingDay) (moment : ℕ) : Type 0 where
  day : PricingDay
  found : find (λ (e : PricingDay). e.moment == moment) days ≡ Some day
  near : IsDayNear day
  at : day.moment ≡ moment

found_at : (days : List PricingDay) (moment : ℕ) → All IsDayNear days → Contains (map (λ (e : PricingDay). e.moment) days) moment → IsFoundAt days moment
found_at [] moment near (k, short, is) = absurd (omega arith)
found_at (x ∷ xs) moment near (zero, short, is) =
    let same : x.moment ≡ moment = cc in
    record {
      day = x;
      found = ap (λ b. cond b (Some x) (find (λ (e : PricingDay). e.moment == moment) xs)) ((Decides-eqb x.moment moment).1 same);
      near = All-head IsDayNear x xs near;
      at = same;
    }
found_at (x ∷ xs) moment near (suc k, short, is) =
    by_first (x.moment == moment) refl (found_at xs moment (All-tail IsDayNear x xs near) (k, omega arith, is))
  where
    by_first : (b : Bool) → (x.moment == moment) ≡ b → IsFoundAt xs moment → IsFoundAt (x ∷ xs) moment
    by_first true same later = record {
      day = x;
      found = ap (λ b. cond b (Some x) (find (λ (e : PricingDay). e.moment == moment) xs)) same;
      near = All-head IsDayNear x xs near;
      at = eqb-true x.moment moment same;
    }
    by_first false other later = record {
      day = later.day;
      found = ap (λ b. cond b (Some x) (find (λ (e : PricingDay). e.moment == moment) xs)) other ∙ later.found;
      near = later.near;
      at = later.at;
    }

sheet_near : (t : Table) (calendar moment : ℕ) (prices : List (ℕ × ℕ)) → IsOrderly t → expected_of t ≡ Some (moment, calendar) → AreDaysNear t.calendars → IsSheetNear (sheet_published t calendar moment prices)
sheet_near t calendar moment prices orderly expected near =
    let best = expected_best t (moment, calendar) expected in
    let known = pair_calendar t.calendars (moment, calendar) orderly.calendars_differ best.among in
    let days = All-contains (λ (c : Listing). All IsDayNear c.days) t.calendars known.0 near known.2 in
    let here = found_at known.0.days moment days known.3 in
    let day : (sheet_published t calendar moment prices).day ≡ here.day.day =
    ap (λ o. unwrap_or (option_and_then (λ (c : Listing). date_at c moment) o) 0) known.1
    ∙ ap (λ (o : Option PricingDay). unwrap_or (option_map (λ (e : PricingDay). e.day) o) 0) here.found in
    let at = here.at in
    let after = here.near.not_after in
    let before = here.near.not_before in
    record { not_after = omega arith; not_before = omega arith }

-- ---- the table behind each event

near_kind : (journal : Journal) (now : ℕ) (caller : Caller) (kind : EventKind) → IsOrderly (table_of journal) → broken_rule (own_at journal now caller) (request_of kind) ≡ None → All (λ (form : CalendarForm). form.minute ≤ 1439) (filter_map calendar_in (kind ∷ [])) → IsNearTable (table_of journal) → IsNearTable (table_by (table_of journal) now kind)
near_kind journal now caller (EventKind.Calendar form) orderly clear timely near = record {
  days = All-push (λ (c : Listing). All IsDayNear c.days) (table_of journal).calendars (listing_of form) near.days (calendar_near form (timely 0 form (omega arith)));
  sheets = near.sheets;
}
near_kind journal now caller (EventKind.Close form) orderly clear timely near = record {
  days = All-map (λ (c : Listing). All IsDayNear c.days) (closed_in form.calendar form.day) (table_of journal).calendars
      (λ k d short. closed_near form.calendar form.day (get_or (table_of journal).calendars k d) (near.days k d short));
  sheets = near.sheets;
}
near_kind journal now caller (EventKind.Class form) orderly clear timely near = record { days = near.days; sheets = near.sheets }
near_kind journal now caller (EventKind.Sheet form) orderly clear timely near =
    let situation = own_at journal now caller in
    let t = table_of journal in
    let is = without-fault (expected_of (book_behind journal).table) (wrong_class t.classes form.calendar form.moment form.prices) form.calendar form.moment now
    (not_broken situation (Request.Sheet form) clear Rule.SheetOutOfTurn) (not_broken situation (Request.Sheet form) clear Rule.SheetIncomplete) (not_broken situation (Request.Sheet form) clear Rule.TooSoon) in
    record {
      days = near.days;
      sheets = All-push IsSheetNear t.sheets (sheet_published t form.calendar form.moment form.prices) near.sheets
          (sheet_near t form.calendar form.moment form.prices orderly (sym (expected-corrected journal t) ∙ is.0) near.days);
    }
near_kind journal now caller kind orderly clear timely near = near

abbrev NearSoFar : Journal → Type 0
NearSoFar journal = IsTimely journal → IsNearTable (table_of journal)

near_more : (journal : Journal) (event : Event) → IsLawful journal → IsBrought journal event → NearSoFar journal → NearSoFar (with_event journal event)
near_more journal event lawful brought near timely =
    let P : CalendarForm → Type 0 = λ form. form.minute ≤ 1439 in
    let split = filter_map-append (λ (e : Event). calendar_in e.kind) journal (event ∷ []) in
    let both = subst (λ (forms : List CalendarForm). All P forms) split timely in
    let before = All-left P (calendars_of journal) (filter_map (λ (e : Event). calendar_in e.kind) (event ∷ [])) both in
    let here = All-right P (calendars_of journal) (filter_map (λ (e : Event). calendar_in e.kind) (event ∷ [])) both in
    subst IsNearTable (sym (table-one journal event))
    (near_kind journal event.moment brought.caller event.kind (orderly_tables journal lawful).published brought.clear here (near before))

near_first : NearSoFar []
unfolding table_behind
near_first timely = record { days = All-nil (λ (c : Listing). All IsDayNear c.days); sheets = All-nil IsSheetNear }

near_tables : (journal : Journal) → IsLawful journal → NearSoFar journal
near_tables = lawful-keeps NearSoFar near_more near_first

pub sheets_dated : (journal : Journal) → LawfulSheetsAreDated journal
sheets_dated journal lawful timely =
    let near = (near_tables journal lawful timely).sheets in
    record {
      in_turn = sheets_never_fall journal lawful;
      near = All-map IsSheetNear (sheet_as_corrected (each_in price_fix_in journal)) (table_of journal).sheets
          (λ k d short. (let here = near k d short in record { not_after = here.not_after; not_before = here.not_before }));
    }
