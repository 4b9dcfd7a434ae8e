-- All requests of a load with their moments, in order; each is the operator's.
use Rattle.std.specs.Prelude.{ℕ, zero, suc, ◌+◌, ◌-◌, if◌then◌else◌, List, [], ◌∷◌, ◌++◌, flat_map, map}
use Rattle.agent_events.specs.declared.request.Request.{Request}
use Rattle.load_requests.specs.Days.{correction_on, is_corrected, order_on, pricing_moment, sheet_on}
use Rattle.load_requests.specs.Opening.{account_form, deferred_class, front_class, household_form, load_calendar, opening_moment}
use Rattle.load_requests.specs.declared.load.Load.{Load}
use Rattle.load_requests.specs.declared.load.Sent.{Sent}

abbrev pub sent_at : ℕ → Request → Sent
sent_at moment request = record { moment = moment; request = request }

-- so many numbers from the first on
abbrev pub numbers_from : ℕ → ℕ → List ℕ
numbers_from zero first = []
numbers_from (suc count) first = first ∷ numbers_from count (first + 1)

-- the requests of the opening
abbrev pub calendar_sent : Sent
calendar_sent = sent_at opening_moment (Request.Calendar load_calendar)

abbrev pub front_class_sent : Sent
front_class_sent = sent_at opening_moment (Request.Class front_class)

abbrev pub deferred_class_sent : Sent
deferred_class_sent = sent_at opening_moment (Request.Class deferred_class)

abbrev pub household_sent : ℕ → Sent
household_sent household = sent_at opening_moment (Request.Household (household_form household))

abbrev pub account_sent : ℕ → Sent
account_sent household = sent_at opening_moment (Request.Account (account_form household))

-- the households and the accounts from this number to the last
abbrev pub households_from : Load → ℕ → List Sent
households_from load first = map household_sent (numbers_from (load.households + 1 - first) first)

abbrev pub accounts_from : Load → ℕ → List Sent
accounts_from load first = map account_sent (numbers_from (load.households + 1 - first) first)

-- the requests of a day: orders an hour before its pricing moment, a sheet and maybe a correction an hour behind it
abbrev pub order_sent : Load → ℕ → ℕ → Sent
order_sent load day household =
    sent_at (pricing_moment day - 3600) (Request.Order (order_on load day household))

abbrev pub sheet_sent : ℕ → Sent
sheet_sent day = sent_at (pricing_moment day + 3600) (Request.Sheet (sheet_on day))

abbrev pub correction_sent : ℕ → Sent
correction_sent day = sent_at (pricing_moment day + 3600) (Request.FixPrice (correction_on day))

-- the orders of a day from this household's to the last one's
abbrev pub orders_from : Load → ℕ → ℕ → List Sent
orders_from load day first =
    map (order_sent load day) (numbers_from (load.households + 1 - first) first)

abbrev pub corrections_on : ℕ → List Sent
corrections_on day = if is_corrected day then correction_sent day ∷ [] else []

abbrev pub requests_on : Load → ℕ → List Sent
requests_on load day = orders_from load day 1 ++ (sheet_sent day ∷ corrections_on day)

-- the requests of all days behind this one
abbrev pub days_after : Load → ℕ → List Sent
days_after load day = flat_map (requests_on load) (numbers_from (load.days - day) (day + 1))

-- all requests: a calendar, two classes, households, accounts, and then day by day
abbrev pub requests_of : Load → List Sent
requests_of load =
    calendar_sent ∷ front_class_sent ∷ deferred_class_sent
    ∷ households_from load 1 ++ (accounts_from load 1 ++ days_after load 0)
