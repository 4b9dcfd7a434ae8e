-- The moments of a lawful journal's sheets never fall: a sheet has the least pricing moment that is awaited, and a class that is
-- opened later awaits later ones alone. So what is published before a sheet isn't later than it.
use Rattle.std.specs.Prelude.{AllPairs}
use Rattle.std.proofs.Common.{All, Bool, List, None, Some, [], ap, arith, cond, false, find, get_or, inl, inr, nat_lt, is_some, length, map, not, option_map, refl, subst, sym, take, true, ℕ, ◌&&◌, ◌++◌, ◌<◌, ◌==◌, ◌||◌, ◌∙◌, ◌∷◌, ◌≡◌, ◌≤◌}
use Rattle.std.proofs.lemmas.Bool.{and_from, and_parts, eqb-true, or_cases, true≢false}
use Rattle.std.proofs.lemmas.List.{get_or-map, get_or-take, length-map, length-take}
use Rattle.std.proofs.lemmas.List.Elements.{All-append, All-contains, All-map, All-nil, All-push, All-weaker}
use Rattle.std.proofs.lemmas.List.Folds.{list_any-append}
use Rattle.std.proofs.lemmas.List.Quantifiers.{all_pairs_push}
use Rattle.std.specs.List.{list_any}
use Rattle.agent_events.specs.Events.{Event, request_of}
use Rattle.agent_events.specs.declared.event.EventKind.{EventKind}
use Rattle.agent_events.specs.declared.reply.Refusal.{Refusal}
use Rattle.agent_events.specs.declared.request.ClassForm.{ClassForm}
use Rattle.agent_events.specs.declared.request.FixPriceForm.{FixPriceForm}
use Rattle.agent_events.specs.declared.request.Request.{Request}
use Rattle.agent_events.specs.declared.verdict.Caller.{Caller}
use Rattle.forward_price.proofs.OrderFacts.{closed_pairs, one_more}
use Rattle.forward_price.proofs.OrderlyFacts.{found_in}
use Rattle.forward_price.proofs.PricingFacts.{lt_fact}
use Rattle.forward_price.proofs.TurnFacts.{Tells, awaited_before, expected_best, never, told}
use Rattle.forward_price.specs.Choices.{IsBest}
use Rattle.forward_price.specs.PriceTables.{Table, calendar_numbered, closed_in, is_sheet_at, sheet_published, with_calendar, with_class, with_published, without_day_of}
use Rattle.forward_price.specs.Turns.{expected_of, is_awaited, is_offered_at, is_sooner, pairs_of, pricing_pair, pricing_pairs, wrong_class}
use Rattle.forward_price.specs.declared.price_sheet.Opening.{Opening}
use Rattle.forward_price.specs.declared.price_sheet.Sheet.{Sheet}
use Rattle.fund_calendar.specs.PricingDays.{Listing, without_day}
use Rattle.register_laws.proofs.Choosing.{some_none}
use Rattle.register_laws.proofs.LawfulJournals.{lawful-keeps}
use Rattle.register_laws.proofs.ListParts.{any-agree}
use Rattle.register_laws.proofs.NoIdentityTwice.{number_free}
use Rattle.register_laws.proofs.NoPricingTwice.{listing-number}
use Rattle.register_laws.proofs.RulesByName.{not_broken}
use Rattle.register_laws.proofs.Runs.{table-one}
use Rattle.register_laws.proofs.FixesOnePrice.{any-place, one-sheet}
use Rattle.register_laws.proofs.TablesAreOrderly.{calendar-unknown, expected-corrected, kept, numbered, orderly_tables, without-fault}
use Rattle.register_laws.specs.CorrectionReach.{LawfulSheetsNeverFall}
use Rattle.register_laws.proofs.Tests.{any-after, any-of-map, find-any}
use Rattle.register_laws.specs.Lawful.{IsBrought, book_behind, own_at}
use Rattle.register_machine.specs.journal.Journals.{Journal, last_moment, with_event}
use Rattle.register_machine.specs.journal.Lawful.{IsLawful}
use Rattle.register_machine.specs.pricing.PublishedTable.{listing_of, table_behind, table_by, table_of}
use Rattle.register_machine.specs.journal.Kinds.{each_in, price_fix_in}
use Rattle.register_machine.specs.pricing.CorrectedPrices.{sheet_as_corrected}
use Rattle.register_machine.specs.rules.NamedThings.{lists_at}
use Rattle.forward_price.specs.Sheets.{lists_class}
use Rattle.register_machine.specs.rules.InOrder.{Rule, broken_rule}

-- what is awaited isn't before any sheet, sheets don't fall, and each class has its calendar
pub record Climbs (t : Table) : Type 0 where
  pub ahead : All (λ (s : Sheet). All (λ (pair : ℕ × ℕ). is_awaited t.classes t.sheets pair ≡ true → s.moment ≤ pair.0) (pricing_pairs t.calendars)) t.sheets
  pub climbs : AllPairs (λ (a b : Sheet). a.moment ≤ b.moment) t.sheets
  pub known : All (λ (x : Opening). is_some (calendar_numbered t.calendars x.calendar) ≡ true) t.classes

-- ---- numbers of calendars

numbers-kept : (calendar day n : ℕ) (cs : List Listing) → is_some (calendar_numbered (map (closed_in calendar day) cs) n) ≡ is_some (calendar_numbered cs n)
numbers-kept calendar day n cs =
    find-any (λ (c : Listing). c.number == n) (map (closed_in calendar day) cs)
    ∙ (any-of-map (λ (c : Listing). c.number == n) (closed_in calendar day) cs
    ∙ (any-agree (λ (c : Listing). (closed_in calendar day c).number == n) (λ (c : Listing). c.number == n) (λ c. ap (λ m. m == n) (same c (c.number == calendar))) cs
    ∙ sym (find-any (λ (c : Listing). c.number == n) cs)))
  where
    same : (c : Listing) (b : Bool) → (cond b (without_day c day) c).number ≡ c.number
    same c true = refl
    same c false = refl

still-some : (n : ℕ) (cs : List Listing) (c : Listing) → is_some (calendar_numbered cs n) ≡ true → is_some (calendar_numbered (cs ++ c ∷ []) n) ≡ true
still-some n cs c e =
    find-any (λ (x : Listing). x.number == n) (cs ++ c ∷ [])
    ∙ any-after (λ (x : Listing). x.number == n) cs (c ∷ []) (sym (find-any (λ (x : Listing). x.number == n) cs) ∙ e)

-- ---- one event more

-- a calendar that is new has no class, so none of its moments is awaited
climbs-calendar : (t : Table) (c : Listing) → calendar_numbered t.calendars c.number ≡ None → Climbs t → Climbs (with_calendar t c)
climbs-calendar t c new is = record {
  ahead = λ k d short.
      let P = λ (pair : ℕ × ℕ). is_awaited t.classes t.sheets pair ≡ true → (get_or t.sheets k d).moment ≤ pair.0 in
      subst (All P) (sym (one_more t.calendars c))
      (All-append P (pricing_pairs t.calendars) (pairs_of c) (is.ahead k d short)
      (All-map P (pricing_pair c.number) c.days (λ i e within now. absurd (none (list_any (is_offered_at c.number (pricing_pair c.number (get_or c.days i e)).0) t.classes) (not (list_any (is_sheet_at c.number (pricing_pair c.number (get_or c.days i e)).0) t.sheets)) now (offered (pricing_pair c.number (get_or c.days i e)).0)))));
  climbs = is.climbs;
  known = All-weaker (λ (x : Opening). is_some (calendar_numbered t.calendars x.calendar) ≡ true) (λ (x : Opening). is_some (calendar_numbered (t.calendars ++ c ∷ []) x.calendar) ≡ true) (λ x e. still-some x.calendar t.calendars c e) t.classes is.known;
}
  where
    offered : (moment : ℕ) → list_any (is_offered_at c.number moment) t.classes ≡ true → ⊥
    offered moment e =
        let found = found_in (is_offered_at c.number moment) t.classes e in
        let named = eqb-true found.0.calendar c.number (and_parts (found.0.calendar == c.number) _ found.2).0 in
        let there = All-contains (λ (x : Opening). is_some (calendar_numbered t.calendars x.calendar) ≡ true) t.classes found.0 is.known found.1 in
        true≢false (sym there ∙ ap is_some (ap (calendar_numbered t.calendars) named ∙ new))

    none : (a b : Bool) → (a && b) ≡ true → (a ≡ true → ⊥) → ⊥
    none true b e never = never refl
    none false b e never = true≢false (sym e)

climbs-closure : (t : Table) (calendar day : ℕ) → Climbs t → Climbs (without_day_of t calendar day)
climbs-closure t calendar day is = record {
  ahead = λ k d short. closed_pairs (λ (pair : ℕ × ℕ). is_awaited t.classes t.sheets pair ≡ true → (get_or t.sheets k d).moment ≤ pair.0) calendar day t.calendars (is.ahead k d short);
  climbs = is.climbs;
  known = All-weaker (λ (x : Opening). is_some (calendar_numbered t.calendars x.calendar) ≡ true) (λ (x : Opening). is_some (calendar_numbered (map (closed_in calendar day) t.calendars) x.calendar) ≡ true) (λ x e. numbers-kept calendar day x.calendar t.calendars ∙ e) t.classes is.known;
}

-- a class awaits moments behind its opening, and no sheet is later than that
climbs-class : (t : Table) (class calendar now : ℕ) → All (λ (s : Sheet). s.moment ≤ now) t.sheets → is_some (calendar_numbered t.calendars calendar) ≡ true → Climbs t → Climbs (with_class t class calendar now)
climbs-class t class calendar now past there is = record {
  ahead = λ k d short i e within awaited.
      later (get_or t.sheets k d) (get_or (pricing_pairs t.calendars) i e) (past k d short) (is.ahead k d short i e within) awaited;
  climbs = is.climbs;
  known = All-push (λ (x : Opening). is_some (calendar_numbered t.calendars x.calendar) ≡ true) t.classes added is.known there;
}
  where
    added : Opening
    added = record { class = class; calendar = calendar; opened = now }

    later : (s : Sheet) (pair : ℕ × ℕ) → s.moment ≤ now → (is_awaited t.classes t.sheets pair ≡ true → s.moment ≤ pair.0) → is_awaited (t.classes ++ record { class = class; calendar = calendar; opened = now } ∷ []) t.sheets pair ≡ true → s.moment ≤ pair.0
    later s pair at_most old now_awaited =
        let parts = and_parts (list_any (is_offered_at pair.1 pair.0) (t.classes ++ added ∷ [])) (not (list_any (is_sheet_at pair.1 pair.0) t.sheets)) now_awaited in
        elim (or_cases (list_any (is_offered_at pair.1 pair.0) t.classes) (is_offered_at pair.1 pair.0 added || false) (sym (list_any-append (is_offered_at pair.1 pair.0) t.classes (added ∷ [])) ∙ parts.0)) [
          | inl before ↦ old (and_from (list_any (is_offered_at pair.1 pair.0) t.classes) (not (list_any (is_sheet_at pair.1 pair.0) t.sheets)) before parts.1)
          | inr new ↦
              let opened : now < pair.0 = lt_fact now pair.0 (opened-before new) in
              omega (arith, opened, at_most)
        ]
      where
        opened-before : (is_offered_at pair.1 pair.0 (record { class = class; calendar = calendar; opened = now }) || false) ≡ true → nat_lt now pair.0 ≡ true
        opened-before e = elim (or_cases (is_offered_at pair.1 pair.0 (record { class = class; calendar = calendar; opened = now })) false e) [
          | inl offered ↦ (and_parts (calendar == pair.1) (nat_lt now pair.0) offered).1
          | inr no_more ↦ absurd (true≢false (sym no_more))
        ]

-- a sheet has the least moment that is awaited
climbs-sheet : (t : Table) (calendar : ℕ) (moment : ℕ) (prices : List (ℕ × ℕ)) → expected_of t ≡ Some (moment, calendar) → Climbs t → Climbs (with_published t calendar moment prices)
climbs-sheet t calendar moment prices expected is = record {
  ahead = All-push (λ (s : Sheet). All (λ (pair : ℕ × ℕ). is_awaited t.classes (t.sheets ++ p ∷ []) pair ≡ true → s.moment ≤ pair.0) (pricing_pairs t.calendars)) t.sheets p
      (λ k d short i e within awaited. is.ahead k d short i e within (awaited_before t.classes t.sheets p (get_or (pricing_pairs t.calendars) i e) awaited))
      (λ i e within awaited.
      least (get_or (pricing_pairs t.calendars) i e)
      (told (get_or (pricing_pairs t.calendars) i e) (moment, calendar) false (best.best i e within (awaited_before t.classes t.sheets p (get_or (pricing_pairs t.calendars) i e) awaited))));
  climbs = all_pairs_push (λ (a b : Sheet). a.moment ≤ b.moment) t.sheets p is.climbs
      (λ k d short. All-contains (λ (pair : ℕ × ℕ). is_awaited t.classes t.sheets pair ≡ true → (get_or t.sheets k d).moment ≤ pair.0) (pricing_pairs t.calendars) (moment, calendar) (is.ahead k d short) best.among best.here);
  known = is.known;
}
  where
    p : Sheet
    p = sheet_published t calendar moment prices

    best : IsBest (is_awaited t.classes t.sheets) is_sooner (pricing_pairs t.calendars) (moment, calendar)
    best = expected_best t (moment, calendar) expected

    least : (pair : ℕ × ℕ) → Tells pair (moment, calendar) false → moment ≤ pair.0
    least pair (inl later) = omega (arith, later)
    least pair (inr same) = let at = same.0 in subst (λ m. m ≤ pair.0) at (itself pair.0)
      where
        itself : (z : ℕ) → z ≤ z
        itself z = omega arith

-- the calendar of a class stands
has-its-calendar : (journal : Journal) (now : ℕ) (caller : Caller) (form : ClassForm) → broken_rule (own_at journal now caller) (Request.Class form) ≡ None → is_some (calendar_numbered (table_of journal).calendars form.calendar) ≡ true
has-its-calendar journal now caller form clear =
    by (is_some (calendar_numbered (table_of journal).calendars form.calendar)) (not_broken (own_at journal now caller) (Request.Class form) clear Rule.NoSuch)
  where
    by : (b : Bool) → option_map (λ (field : ℕ × Bool). Refusal.NoSuch field.0) (find (λ (field : ℕ × Bool). not field.1) ((2, b) ∷ [])) ≡ None → b ≡ true
    by true e = refl
    by false e = absurd (some_none e)

climbs-kind : (journal : Journal) (now : ℕ) (caller : Caller) (kind : EventKind) → broken_rule (own_at journal now caller) (request_of kind) ≡ None → All (λ (s : Sheet). s.moment ≤ now) (table_of journal).sheets → Climbs (table_of journal) → Climbs (table_by (table_of journal) now kind)
climbs-kind journal now caller (EventKind.Calendar form) clear past is =
    climbs-calendar (table_of journal) (listing_of form)
    (subst (λ n. calendar_numbered (table_of journal).calendars n ≡ None) (sym (listing-number form)) (calendar-unknown (table_of journal) form.calendar (number_free (own_at journal now caller) (Request.Calendar form) clear))) is
climbs-kind journal now caller (EventKind.Close form) clear past is = climbs-closure (table_of journal) form.calendar form.day is
climbs-kind journal now caller (EventKind.Class form) clear past is =
    climbs-class (table_of journal) form.class form.calendar now past (has-its-calendar journal now caller form clear) is
climbs-kind journal now caller (EventKind.Sheet form) clear past is =
    let situation = own_at journal now caller in
    let t = table_of journal in
    let found = without-fault (expected_of (book_behind journal).table) (wrong_class t.classes form.calendar form.moment form.prices) form.calendar form.moment now
    (not_broken situation (Request.Sheet form) clear Rule.SheetOutOfTurn) (not_broken situation (Request.Sheet form) clear Rule.SheetIncomplete) (not_broken situation (Request.Sheet form) clear Rule.TooSoon) in
    climbs-sheet t form.calendar form.moment form.prices (sym (expected-corrected journal t) ∙ found.0) is
climbs-kind journal now caller kind clear past is = is

climbs-more : (journal : Journal) (event : Event) → IsLawful journal → IsBrought journal event → Climbs (table_of journal) → Climbs (table_of (with_event journal event))
climbs-more journal event lawful brought is =
    subst Climbs (sym (table-one journal event))
    (climbs-kind journal event.moment brought.caller event.kind brought.clear (still (table_of journal).sheets (kept journal lawful).past) is)
  where
    still : (sheets : List Sheet) → All (λ (s : Sheet). s.moment ≤ last_moment journal) sheets → All (λ (s : Sheet). s.moment ≤ event.moment) sheets
    still sheets past k d short = let here = past k d short in let le = brought.not_before in omega (arith, here, le)

climbs-first : Climbs (table_of [])
unfolding table_behind
climbs-first = record {
  ahead = All-nil (λ (s : Sheet). All (λ (pair : ℕ × ℕ). is_awaited [] [] pair ≡ true → s.moment ≤ pair.0) []);
  climbs = λ i j d lt within. absurd (omega (arith, within));
  known = All-nil (λ (x : Opening). is_some (calendar_numbered [] x.calendar) ≡ true);
}

pub sheets-climb : (journal : Journal) → IsLawful journal → Climbs (table_of journal)
sheets-climb = lawful-keeps (λ journal. Climbs (table_of journal)) climbs-more climbs-first

-- ---- by the numbers of the sheets

corrected-climb : (fixes : List FixPriceForm) (sheets : List Sheet) → AllPairs (λ (a b : Sheet). a.moment ≤ b.moment) sheets → AllPairs (λ (a b : Sheet). a.moment ≤ b.moment) (map (sheet_as_corrected fixes) sheets)
corrected-climb fixes sheets climb i j d lt within =
    let long : j < length sheets = subst (λ n. j < n) (length-map sheets (sheet_as_corrected fixes)) within in
    let first = get_or-map (sheet_as_corrected fixes) sheets i d d (omega (arith, lt, long)) in
    let second = get_or-map (sheet_as_corrected fixes) sheets j d d long in
    subst (λ (s : Sheet). s.moment ≤ (get_or (map (sheet_as_corrected fixes) sheets) j d).moment) (sym first)
    (subst (λ (s : Sheet). (get_or sheets i d).moment ≤ s.moment) (sym second) (climb i j d lt long))

pub moments-climb : (journal : Journal) → AllPairs (λ (a b : Sheet). a.moment ≤ b.moment) (table_of journal).sheets → AllPairs (λ (a b : Sheet). a.moment ≤ b.moment) (book_behind journal).table.sheets
moments-climb journal = corrected-climb (each_in price_fix_in journal) (table_of journal).sheets

pub sheets_never_fall : (journal : Journal) → LawfulSheetsNeverFall journal
sheets_never_fall journal lawful = moments-climb journal (sheets-climb journal lawful).climbs

-- a sheet numbered before that of a class at a moment isn't later, and doesn't list the class then
pub sheets-before : (journal : Journal) → IsLawful journal → (class moment fixed number : ℕ) → list_any (λ sheet. sheet.number == fixed && lists_at class moment sheet) (book_behind journal).table.sheets ≡ true → number < fixed → All (λ (sheet : Sheet). (lists_at class moment sheet ≡ false) × (sheet.moment ≤ moment)) (take number (book_behind journal).table.sheets)
sheets-before journal lawful class moment fixed number listed early k d short =
    let sheets = (book_behind journal).table.sheets in
    let place = any-place (λ sheet. sheet.number == fixed && lists_at class moment sheet) sheets listed in
    let j = place.0 in
    let there = get_or sheets j d in
    let parts = and_parts (there.number == fixed) (lists_at class moment there) (place.2 d) in
    let at = and_parts (there.moment == moment) (lists_class there.prices class) parts.1 in
    let numbered = (numbered journal lawful).corrected.each j d place.1 in
    let few : k < number = omega (arith, short, length-take number sheets) in
    let before : k < j = omega (arith, few, early, numbered, eqb-true there.number fixed parts.0) in
    subst (λ (sheet : Sheet). (lists_at class moment sheet ≡ false) × (sheet.moment ≤ moment)) (sym (get_or-take number sheets k d few)) (
      never (lists_at class moment (get_or sheets k d)) (λ here.
          let both = and_parts ((get_or sheets k d).moment == moment) (lists_class (get_or sheets k d).prices class) here in
          one-sheet (book_behind journal).table class k j d (orderly_tables journal lawful).corrected before place.1 both.1 at.1 (eqb-true (get_or sheets k d).moment moment both.0 ∙ sym (eqb-true there.moment moment at.0))),
      omega (arith, sheets_never_fall journal lawful k j d before place.1, eqb-true there.moment moment at.0),
    )
