-- What is read from a text has its lists in their forms.
use Rattle.std.proofs.Common.{Bool, Err, List, None, Ok, Option, Result, Some, cond, false, option_and_then, refl, subst, true, ℕ, ◌≡◌}
use Rattle.agent_events.specs.Fields.{are_holidays, bearer, corrected_rate, dividend_rate, each, holidays, identifier, if_holidays, if_rising, is_rising, list_items, moment, nav, pair, prices, reference, time, zone}
use Rattle.agent_events.specs.Forms.{at, field, sheet_form, ◌>>=◌}
use Rattle.agent_events.specs.Items.{asked_by, batch_line}
use Rattle.agent_events.specs.OrderForms.{carried_order, entry_form, line_asked, order_count, order_form}
use Rattle.agent_events.specs.VerbForms.{Asked}
use Rattle.agent_events.specs.declared.request.Request.{Request}
use Rattle.agent_events.specs.declared.request.SheetForm.{SheetForm}
use Rattle.fund_calendar.specs.DayText.{read_day}
use Rattle.register_laws.proofs.Choosing.{none_some}
use Rattle.register_laws.proofs.FormsByVerb.{OfEachForm, carried, of_verb}
use Rattle.register_laws.specs.RowForms.{asked_has_list_forms}

-- ---- what fields ask

by-parts : {A : Type 0} (read : Result A ℕ) (next : A → Asked) → ((x : A) → asked_has_list_forms (next x) ≡ true) → asked_has_list_forms (read >>= next) ≡ true
by-parts (Ok x) next all = all x
by-parts (Err place) next all = refl

by-last : {A : Type 0} (place : ℕ) (found : Option A) (next : A → Asked) → ((x : A) → found ≡ Some x → asked_has_list_forms (next x) ≡ true) → asked_has_list_forms (at place found >>= next) ≡ true
by-last place None next all = refl
by-last place (Some x) next all = all x refl

if-held : (ds days : List ℕ) (b : Bool) → are_holidays ds ≡ b → cond b (Some ds) None ≡ Some days → are_holidays days ≡ true
if-held ds days false is e = absurd (none_some e)
if-held ds days true is e = let same : ds ≡ days = cc in subst (λ d. are_holidays d ≡ true) same is

holidays-held : (found : Option (List ℕ)) (days : List ℕ) → option_and_then if_holidays found ≡ Some days → are_holidays days ≡ true
holidays-held None days e = absurd (none_some e)
holidays-held (Some ds) days e = if-held ds days (are_holidays ds) refl e

if-risen : (ps listed : List (ℕ × ℕ)) (b : Bool) → is_rising ps ≡ b → cond b (Some ps) None ≡ Some listed → is_rising listed ≡ true
if-risen ps listed false is e = absurd (none_some e)
if-risen ps listed true is e = let same : ps ≡ listed = cc in subst (λ p. is_rising p ≡ true) same is

prices-risen : (found : Option (List (ℕ × ℕ))) (listed : List (ℕ × ℕ)) → option_and_then if_rising found ≡ Some listed → is_rising listed ≡ true
prices-risen None listed e = absurd (none_some e)
prices-risen (Some ps) listed e = if-risen ps listed (is_rising ps) refl e

-- a sheet
abbrev sheet_forms : Result SheetForm ℕ → Bool
sheet_forms (Ok form) = is_rising form.prices
sheet_forms (Err place) = true

by-sheet : (read : Result SheetForm ℕ) → sheet_forms read ≡ true → asked_has_list_forms (read >>= λ form. Ok (Request.Sheet form)) ≡ true
by-sheet (Ok form) risen = risen
by-sheet (Err place) risen = refl

sheet-parts : {A : Type 0} (read : Result A ℕ) (next : A → Result SheetForm ℕ) → ((x : A) → sheet_forms (next x) ≡ true) → sheet_forms (read >>= next) ≡ true
sheet-parts (Ok x) next all = all x
sheet-parts (Err place) next all = refl

sheet-last : {A : Type 0} (place : ℕ) (found : Option A) (next : A → Result SheetForm ℕ) → ((x : A) → found ≡ Some x → sheet_forms (next x) ≡ true) → sheet_forms (at place found >>= next) ≡ true
sheet-last place None next all = refl
sheet-last place (Some x) next all = all x refl

sheet-risen : (fields : List (List ℕ)) → sheet_forms (sheet_form fields) ≡ true
unfolding sheet_form
sheet-risen fields =
    sheet-parts (at 1 (identifier (field fields 1))) _
    (λ calendar. sheet-parts (at 2 (moment (field fields 2))) _
    (λ priced. sheet-last 3 (prices (field fields 3)) _
    (λ listed risen. prices-risen (each (pair identifier nav) (list_items (field fields 3))) listed risen)))

-- ---- by the verb

abbrev HasForms : Asked → Type 0
HasForms asked = asked_has_list_forms asked ≡ true

list-forms : (fields : List (List ℕ)) → OfEachForm HasForms fields
list-forms fields = record {
  nothing = λ place. refl;
  calendar =
      by-parts (at 1 (identifier (field fields 1))) _
      (λ calendar. by-parts (at 2 (zone (field fields 2))) _
      (λ rule. by-parts (at 3 (time (field fields 3))) _
      (λ minute. by-parts (at 4 (read_day (field fields 4))) _
      (λ first. by-parts (at 5 (read_day (field fields 5))) _
      (λ last. by-last 6 (holidays (field fields 6)) _
      (λ days held. holidays-held (each read_day (list_items (field fields 6))) days held))))));
  sheet = by-sheet (sheet_form fields) (sheet-risen fields);
  dividend =
      by-parts (at 1 (identifier (field fields 1))) _
      (λ class. by-parts (at 2 (moment (field fields 2))) _ (λ priced. by-parts (at 3 (dividend_rate (field fields 3))) _ (λ rate. refl)));
  fixprice =
      by-parts (at 1 (reference (field fields 1))) _
      (λ fix. by-parts (at 2 (bearer (field fields 2))) _
      (λ borne. by-parts (at 3 (identifier (field fields 3))) _
      (λ class. by-parts (at 4 (moment (field fields 4))) _ (λ priced. by-parts (at 5 (nav (field fields 5))) _ (λ price. refl)))));
  fixrate =
      by-parts (at 1 (reference (field fields 1))) _
      (λ fix. by-parts (at 2 (bearer (field fields 2))) _
      (λ borne. by-parts (at 3 (identifier (field fields 3))) _
      (λ class. by-parts (at 4 (moment (field fields 4))) _ (λ priced. by-parts (at 5 (corrected_rate (field fields 5))) _ (λ rate. refl)))));
  enter = by-parts (entry_form fields) _ (λ form. refl);
  replace = by-parts (entry_form fields) _ (λ form. refl);
  line =
      by-parts (at 1 (moment (field fields 1))) _
      (λ receipt. by-parts (at 2 (order_count (field fields 2))) _ (λ count. by-parts (carried_order 2 fields) _ (λ order. refl)));
  order = λ verb. by-parts (order_form verb 0 fields) _ (λ order. refl);
  close = λ form. refl;
  class = λ form. refl;
  dealer = λ form. refl;
  household = λ form. refl;
  account = λ form. refl;
  void = λ form. refl;
  cancel = λ form. refl;
  show = λ account. refl;
  trace = λ form. refl;
  statement = λ form. refl;
  books = refl;
}

pub asked-forms : (verb : List ℕ) (fields : List (List ℕ)) → asked_has_list_forms (asked_by verb fields) ≡ true
asked-forms verb fields = of_verb HasForms verb fields (list-forms fields)

pub batch-forms : (fields : List (List ℕ)) → asked_has_list_forms (batch_line fields) ≡ true
batch-forms fields = carried HasForms (λ place. refl) 2 line_asked fields (list-forms fields).line
