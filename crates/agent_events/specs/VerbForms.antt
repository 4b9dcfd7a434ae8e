-- The forms of all verbs: what the fields of a verb ask, or the place of the first field that isn't in its form, from 1. An
-- unknown verb and a wrong number of fields are place 0, which is tried before all others.
use Rattle.std.specs.Prelude.{ℕ, List, Ok, Result}
use Rattle.fund_calendar.specs.DayText.{read_day}
use Rattle.agent_events.specs.Fields.{bearer, corrected_rate, dealer_key, dividend_rate, holidays, household_key, identifier, identifier_or_none, label, moment, nav, reference, time, window, zone}
use Rattle.agent_events.specs.Forms.{at, class_form, field, sheet_form, ◌>>=◌}
use Rattle.agent_events.specs.declared.request.Request.{Request}

-- what the fields ask, or the place of the first that isn't in its form
abbrev pub Asked : Type 0
Asked = Result Request ℕ

abbrev pub calendar_asked : List (List ℕ) → Asked
calendar_asked fields = do
  calendar ← at 1 (identifier (field fields 1))
  rule ← at 2 (zone (field fields 2))
  minute ← at 3 (time (field fields 3))
  first ← at 4 (read_day (field fields 4))
  last ← at 5 (read_day (field fields 5))
  days ← at 6 (holidays (field fields 6))
  Ok (Request.Calendar (record { calendar = calendar; zone = rule; minute = minute; first = first; last = last; holidays = days }))

abbrev pub close_asked : List (List ℕ) → Asked
close_asked fields = do
  calendar ← at 1 (identifier (field fields 1))
  day ← at 2 (read_day (field fields 2))
  Ok (Request.Close (record { calendar = calendar; day = day }))

abbrev pub class_asked : List (List ℕ) → Asked
class_asked fields = class_form fields >>= λ form. Ok (Request.Class form)

abbrev pub dealer_asked : List (List ℕ) → Asked
dealer_asked fields = do
  dealer ← at 1 (identifier (field fields 1))
  key ← at 2 (dealer_key (field fields 2))
  seconds ← at 3 (window (field fields 3))
  Ok (Request.Dealer (record { dealer = dealer; key = key; window = seconds }))

abbrev pub household_asked : List (List ℕ) → Asked
household_asked fields = do
  household ← at 1 (identifier (field fields 1))
  key ← at 2 (household_key (field fields 2))
  Ok (Request.Household (record { household = household; key = key }))

abbrev pub account_asked : List (List ℕ) → Asked
account_asked fields = do
  account ← at 1 (identifier (field fields 1))
  household ← at 2 (identifier (field fields 2))
  dealer ← at 3 (identifier_or_none (field fields 3))
  name ← at 4 (label (field fields 4))
  Ok (Request.Account (record { account = account; household = household; dealer = dealer; name = name }))

abbrev pub sheet_asked : List (List ℕ) → Asked
sheet_asked fields = sheet_form fields >>= λ form. Ok (Request.Sheet form)

abbrev pub dividend_asked : List (List ℕ) → Asked
dividend_asked fields = do
  class ← at 1 (identifier (field fields 1))
  priced ← at 2 (moment (field fields 2))
  rate ← at 3 (dividend_rate (field fields 3))
  Ok (Request.Dividend (record { class = class; moment = priced; rate = rate }))

abbrev pub fixprice_asked : List (List ℕ) → Asked
fixprice_asked fields = do
  fix ← at 1 (reference (field fields 1))
  borne ← at 2 (bearer (field fields 2))
  class ← at 3 (identifier (field fields 3))
  priced ← at 4 (moment (field fields 4))
  price ← at 5 (nav (field fields 5))
  Ok (Request.FixPrice (record { fix = fix; bearer = borne; class = class; moment = priced; nav = price }))

abbrev pub fixrate_asked : List (List ℕ) → Asked
fixrate_asked fields = do
  fix ← at 1 (reference (field fields 1))
  borne ← at 2 (bearer (field fields 2))
  class ← at 3 (identifier (field fields 3))
  priced ← at 4 (moment (field fields 4))
  rate ← at 5 (corrected_rate (field fields 5))
  Ok (Request.FixRate (record { fix = fix; bearer = borne; class = class; moment = priced; rate = rate }))

abbrev pub void_asked : List (List ℕ) → Asked
void_asked fields = do
  fix ← at 1 (reference (field fields 1))
  borne ← at 2 (bearer (field fields 2))
  account ← at 3 (identifier (field fields 3))
  ref_no ← at 4 (reference (field fields 4))
  Ok (Request.Void (record { fix = fix; bearer = borne; account = account; ref_no = ref_no }))

abbrev pub cancel_asked : List (List ℕ) → Asked
cancel_asked fields = do
  account ← at 1 (identifier (field fields 1))
  ref_no ← at 2 (reference (field fields 2))
  target ← at 3 (reference (field fields 3))
  Ok (Request.Cancel (record { account = account; ref_no = ref_no; target = target }))

abbrev pub show_asked : List (List ℕ) → Asked
show_asked fields = at 1 (identifier (field fields 1)) >>= λ account. Ok (Request.Show account)

abbrev pub trace_asked : List (List ℕ) → Asked
trace_asked fields = do
  account ← at 1 (identifier (field fields 1))
  ref_no ← at 2 (reference (field fields 2))
  Ok (Request.Trace (record { account = account; ref_no = ref_no }))

abbrev pub statement_asked : List (List ℕ) → Asked
statement_asked fields = do
  account ← at 1 (identifier (field fields 1))
  first ← at 2 (read_day (field fields 2))
  last ← at 3 (read_day (field fields 3))
  Ok (Request.Statement (record { account = account; first = first; last = last }))

abbrev pub books_asked : List (List ℕ) → Asked
books_asked fields = Ok Request.Books
