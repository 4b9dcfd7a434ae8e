-- The sheet that an event of a lawful journal publishes stands among all of them by its calendar and moment, with the number
-- that it was given: one more than the sheets before it.
use Rattle.std.proofs.Common.{All, AllPairs, List, None, Option, Some, [], ap, append-nil, append_assoc, arith, cond, drop, false, find, length, map, refl, slice_get, subst, suc, sym, take, true, unwrap_or, zero, ℕ, ◌++◌, ◌+◌, ◌<◌, ◌==◌, ◌∙◌, ◌∷◌, ◌≡◌}
use Rattle.std.proofs.lemmas.Bool.{and_from, and_parts, eqb-true, true≢false}
use Rattle.std.proofs.lemmas.Bool.Decides.{Decides-eqb}
use Rattle.std.proofs.lemmas.List.{length-map, map-append}
use Rattle.std.proofs.lemmas.List.Elements.{All-head, All-map, All-tail}
use Rattle.std.specs.List.{cons_option}
use Rattle.std.specs.Prelude.{fold, option_map}
use Rattle.agent_events.specs.Events.{Event}
use Rattle.agent_events.specs.declared.event.EventKind.{EventKind}
use Rattle.agent_events.specs.declared.request.FixPriceForm.{FixPriceForm}
use Rattle.agent_events.specs.declared.request.SheetForm.{SheetForm}
use Rattle.holder_statements.specs.EventReplies.{CountsItsSheets, LawfulStandsAsNumbered, StandsAsNumbered}
use Rattle.forward_price.specs.PriceTables.{Table, is_sheet_at, number_at}
use Rattle.forward_price.specs.declared.price_sheet.Sheet.{Sheet}
use Rattle.register_laws.proofs.OrdersInTurn.{NumberedFrom, numbered-first, numbered-rest}
use Rattle.register_laws.proofs.TablesAreOrderly.{numbered, orderly_tables}
use Rattle.register_laws.specs.Lawful.{book_behind}
use Rattle.register_machine.specs.journal.Journals.{Journal}
use Rattle.register_machine.specs.journal.Kinds.{each_in, price_fix_in, sheet_in}
use Rattle.register_machine.specs.pricing.CorrectedPrices.{sheet_as_corrected}
use Rattle.register_machine.specs.pricing.PublishedTable.{empty_table, table_after, table_behind, table_by, table_of}
use Rattle.share_lots.proofs.LotLemmas.{AllPairs-head, AllPairs-tail}

-- a sheet by its calendar and moment, as published and as sent
record Mark : Type 0 where
  pub calendar : ℕ
  pub moment : ℕ

abbrev mark_of : Sheet → Mark
mark_of sheet = record { calendar = sheet.calendar; moment = sheet.moment }

abbrev mark_sent : SheetForm → Mark
mark_sent form = record { calendar = form.calendar; moment = form.moment }

-- ---- the sheets of a table are those that its journal publishes

kind-marks : (table : Table) (moment : ℕ) (kind : EventKind) (later : List SheetForm) → map mark_of (table_by table moment kind).sheets ++ map mark_sent later ≡ map mark_of table.sheets ++ map mark_sent (cons_option (sheet_in kind) later)
kind-marks table moment (EventKind.Calendar form) later = refl
kind-marks table moment (EventKind.Close form) later = refl
kind-marks table moment (EventKind.Class form) later = refl
kind-marks table moment (EventKind.Dealer form) later = refl
kind-marks table moment (EventKind.Household form) later = refl
kind-marks table moment (EventKind.Account form) later = refl
kind-marks table moment (EventKind.Order placed) later = refl
kind-marks table moment (EventKind.Cancel form) later = refl
kind-marks table moment (EventKind.Sheet form) later =
    ap (λ xs. xs ++ map mark_sent later) (map-append mark_of table.sheets (_ ∷ []))
    ∙ append_assoc (map mark_of table.sheets) (mark_sent form ∷ []) (map mark_sent later)
kind-marks table moment (EventKind.Dividend form) later = refl
kind-marks table moment (EventKind.FixPrice form) later = refl
kind-marks table moment (EventKind.FixRate form) later = refl
kind-marks table moment (EventKind.Enter form) later = refl
kind-marks table moment (EventKind.Replace form) later = refl
kind-marks table moment (EventKind.Void form) later = refl

folded-marks : (table : Table) (events : List Event) → map mark_of (fold table_after table events).sheets ≡ map mark_of table.sheets ++ map mark_sent (each_in sheet_in events)
folded-marks table [] = sym (append-nil (map mark_of table.sheets))
folded-marks table (event ∷ events) =
    folded-marks (table_after table event) events ∙ kind-marks table event.moment event.kind (each_in sheet_in events)

marks-are : (journal : Journal) → map mark_of (table_of journal).sheets ≡ map mark_sent (each_in sheet_in journal)
unfolding table_behind
marks-are journal = folded-marks empty_table journal

corrected-marks : (fixes : List FixPriceForm) (sheets : List Sheet) → map mark_of (map (sheet_as_corrected fixes) sheets) ≡ map mark_of sheets
corrected-marks fixes [] = refl
corrected-marks fixes (sheet ∷ sheets) = ap (λ xs. mark_of sheet ∷ xs) (corrected-marks fixes sheets)

-- ---- the sheet of an event among those of its journal

record Split (before : List SheetForm) (form : SheetForm) (all : List SheetForm) : Type 0 where
  pub behind : List SheetForm
  pub is : all ≡ before ++ form ∷ behind

one-more : (first : Option SheetForm) (before : List SheetForm) (form : SheetForm) (all : List SheetForm) → Split before form all → Split (cons_option first before) form (cons_option first all)
one-more None before form all split = split
one-more (Some x) before form all split = record { behind = split.behind; is = ap (λ xs. x ∷ xs) split.is }

some-event : (e event : Event) → Some e ≡ Some event → e ≡ event
some-event e event same = ap (λ (o : Option Event). unwrap_or o e) same

split-at : (journal : List Event) (place : ℕ) (event : Event) (form : SheetForm) → slice_get journal place ≡ Some event → sheet_in event.kind ≡ Some form → Split (each_in sheet_in (take place journal)) form (each_in sheet_in journal)
split-at [] place event form there kind = absurd (no-event there)
  where
    no-event : (None ≡ Some event) → ⊥
    no-event e = cc
split-at (e ∷ journal) zero event form there kind = record {
  behind = each_in sheet_in journal;
  is = ap (λ o. cons_option o (each_in sheet_in journal)) (ap (λ (x : Event). sheet_in x.kind) (some-event e event there) ∙ kind);
}
split-at (e ∷ journal) (suc place) event form there kind =
    one-more (sheet_in e.kind) (each_in sheet_in (take place journal)) form (each_in sheet_in journal) (split-at journal place event form there kind)

-- ---- it is the only one of its mark

all-middle : {X : Type 0} (P : X → Type 0) (xs : List X) (y : X) (ys : List X) → All P (xs ++ y ∷ ys) → P y
all-middle P [] y ys all = All-head P y ys all
all-middle P (x ∷ xs) y ys all = all-middle P xs y ys (All-tail P x (xs ++ y ∷ ys) all)

marks-differ : (sheet : Sheet) (sheets : List Sheet) → All (λ later. sheet.calendar ≡ later.calendar → sheet.moment < later.moment) sheets → All (λ mark. sheet.calendar ≡ mark.calendar → sheet.moment < mark.moment) (map mark_of sheets)
marks-differ sheet sheets rise = All-map (λ (mark : Mark). sheet.calendar ≡ mark.calendar → sheet.moment < mark.moment) mark_of sheets rise

elsewhere : (sheet : Sheet) (calendar : ℕ) (moment : ℕ) → (sheet.calendar ≡ calendar → sheet.moment < moment) → is_sheet_at calendar moment sheet ≡ false
elsewhere sheet calendar moment rises =
    elim (is_sheet_at calendar moment sheet) as (λ b. is_sheet_at calendar moment sheet ≡ b → b ≡ false) [
      | false ↦ λ e. refl
      | true ↦ λ e.
          let parts = and_parts (sheet.calendar == calendar) (sheet.moment == moment) e in
          let same = (Decides-eqb sheet.moment moment).0 parts.1 in
          let less = rises (eqb-true sheet.calendar calendar parts.0) in
          absurd (omega (arith, same, less))
    ] refl

first-mark : (a b : Mark) (xs ys : List Mark) → a ∷ xs ≡ b ∷ ys → a ≡ b
first-mark a b xs ys same = ap (λ (zs : List Mark). unwrap_or (slice_get zs 0) a) same

other-marks : (a b : Mark) (xs ys : List Mark) → a ∷ xs ≡ b ∷ ys → xs ≡ ys
other-marks a b xs ys same = ap (λ (zs : List Mark). drop 1 zs) same

found-as : (first : ℕ) (sheets : List Sheet) (before : List Mark) (calendar : ℕ) (moment : ℕ) (behind : List Mark) → NumberedFrom first sheets → AllPairs (λ a b. a.calendar ≡ b.calendar → a.moment < b.moment) sheets → map mark_of sheets ≡ before ++ record { calendar = calendar; moment = moment } ∷ behind → number_at sheets calendar moment ≡ Some (length before + first)
found-as first [] [] calendar moment behind numbers rise marks = absurd (no-mark marks)
  where
    no-mark : ([] ≡ record { calendar = calendar; moment = moment } ∷ behind) → ⊥
    no-mark e = cc
found-as first [] (mark ∷ before) calendar moment behind numbers rise marks = absurd (no-mark marks)
  where
    no-mark : ([] ≡ mark ∷ (before ++ record { calendar = calendar; moment = moment } ∷ behind)) → ⊥
    no-mark e = cc
found-as first (sheet ∷ sheets) [] calendar moment behind numbers rise marks =
    let mark = first-mark (mark_of sheet) (record { calendar = calendar; moment = moment }) (map mark_of sheets) behind marks in
    let here : is_sheet_at calendar moment sheet ≡ true = and_from (sheet.calendar == calendar) (sheet.moment == moment) ((Decides-eqb sheet.calendar calendar).1 (ap (λ (m : Mark). m.calendar) mark)) ((Decides-eqb sheet.moment moment).1 (ap (λ (m : Mark). m.moment) mark)) in
    ap (λ b. option_map (λ (s : Sheet). s.number) (cond b (Some sheet) (find (is_sheet_at calendar moment) sheets))) here
    ∙ ap (λ n. Some n) (numbered-first first sheet sheets numbers ∙ omega arith)
found-as first (sheet ∷ sheets) (mark ∷ before) calendar moment behind numbers rise marks =
    let own : Mark = record { calendar = calendar; moment = moment } in
    let rest = other-marks (mark_of sheet) mark (map mark_of sheets) (before ++ own ∷ behind) marks in
    let later = all-middle (λ (m : Mark). sheet.calendar ≡ m.calendar → sheet.moment < m.moment) before own behind
    (subst (All (λ (m : Mark). sheet.calendar ≡ m.calendar → sheet.moment < m.moment)) rest (marks-differ sheet sheets (AllPairs-head (λ (a b : Sheet). a.calendar ≡ b.calendar → a.moment < b.moment) sheet sheets rise))) in
    ap (λ b. option_map (λ (s : Sheet). s.number) (cond b (Some sheet) (find (is_sheet_at calendar moment) sheets))) (elsewhere sheet calendar moment later)
    ∙ (found-as (suc first) sheets before calendar moment behind (numbered-rest first sheet sheets numbers) (AllPairs-tail (λ (a b : Sheet). a.calendar ≡ b.calendar → a.moment < b.moment) sheet sheets rise) rest
    ∙ ap (λ n. Some n) (omega arith))

pub stands_as_numbered : (journal : Journal) (place : ℕ) (event : Event) → LawfulStandsAsNumbered journal place event
stands_as_numbered journal place event lawful there = by event.kind refl
  where
    by : (kind : EventKind) → event.kind ≡ kind → StandsAsNumbered (book_behind journal).table.sheets (take place journal) kind
    by (EventKind.Sheet form) is = λ sheet.
        let split = split-at journal place event form there (ap sheet_in is) in
        let sheets = (book_behind journal).table.sheets in
        let marks : map mark_of sheets ≡ map mark_sent (each_in sheet_in (take place journal)) ++ mark_sent form ∷ map mark_sent split.behind =
        corrected-marks (each_in price_fix_in journal) (table_of journal).sheets
        ∙ (marks-are journal ∙ (ap (map mark_sent) split.is ∙ map-append mark_sent (each_in sheet_in (take place journal)) (form ∷ split.behind))) in
        found-as 1 sheets (map mark_sent (each_in sheet_in (take place journal))) form.calendar form.moment (map mark_sent split.behind)
        (λ i d short. (numbered journal lawful).corrected.each i d short) (orderly_tables journal lawful).corrected.rises marks
        ∙ ap (λ n. Some (n + 1)) (length-map (each_in sheet_in (take place journal)) mark_sent)
    by (EventKind.Calendar form) is = λ sheet. absurd (true≢false (sym sheet))
    by (EventKind.Close form) is = λ sheet. absurd (true≢false (sym sheet))
    by (EventKind.Class form) is = λ sheet. absurd (true≢false (sym sheet))
    by (EventKind.Dealer form) is = λ sheet. absurd (true≢false (sym sheet))
    by (EventKind.Household form) is = λ sheet. absurd (true≢false (sym sheet))
    by (EventKind.Account form) is = λ sheet. absurd (true≢false (sym sheet))
    by (EventKind.Cancel form) is = λ sheet. absurd (true≢false (sym sheet))
    by (EventKind.Dividend form) is = λ sheet. absurd (true≢false (sym sheet))
    by (EventKind.FixPrice form) is = λ sheet. absurd (true≢false (sym sheet))
    by (EventKind.FixRate form) is = λ sheet. absurd (true≢false (sym sheet))
    by (EventKind.Enter form) is = λ sheet. absurd (true≢false (sym sheet))
    by (EventKind.Replace form) is = λ sheet. absurd (true≢false (sym sheet))
    by (EventKind.Void form) is = λ sheet. absurd (true≢false (sym sheet))
    by (EventKind.Order placed) is = λ sheet. absurd (true≢false (sym sheet))

pub counts_its_sheets : (journal : Journal) → CountsItsSheets journal
counts_its_sheets journal =
    let sheets = (book_behind journal).table.sheets in
    let marks = corrected-marks (each_in price_fix_in journal) (table_of journal).sheets ∙ marks-are journal in
    ap (λ n. n + 1)
    (sym (length-map sheets mark_of) ∙ (ap (λ (ms : List Mark). length ms) marks ∙ length-map (each_in sheet_in journal) mark_sent))
