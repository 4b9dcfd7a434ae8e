-- How far a load has come: the stage that is next, and what is to come from there on.
use Rattle.std.specs.Prelude.{ℕ, ◌≡◌, ◌+◌, ◌-◌, ◌*◌, ◌≤◌, ◌++◌, List, [], ◌∷◌, Option, None, Some, ⊤, true}
use Rattle.fund_calendar.specs.PricingDays.{Listing}
use Rattle.load_requests.specs.Days.{is_corrected, place_of_draw, pricing_moment}
use Rattle.load_requests.specs.Draws.{next_state, state_after}
use Rattle.load_requests.specs.Opening.{load_listing}
use Rattle.load_requests.specs.Requests.{accounts_from, account_sent, calendar_sent, correction_sent, corrections_on, days_after, deferred_class_sent, front_class_sent, household_sent, households_from, order_sent, orders_from, sheet_sent}
use Rattle.load_requests.specs.declared.load.Load.{Load}
use Rattle.load_requests.specs.declared.load.Sent.{Sent}
use Rattle.load_requests.specs.declared.progress.Progress.{Progress}
use Rattle.load_requests.specs.declared.progress.Stage.{Stage}

-- what is behind the opening and behind a day's sheet
abbrev pub behind_classes : Load → ℕ → List Sent
behind_classes load day = households_from load 1 ++ (accounts_from load 1 ++ days_after load day)

abbrev pub behind_sheet : Load → ℕ → List Sent
behind_sheet load day = corrections_on day ++ days_after load day

-- what is to come at a stage of a day; before the first day it is day 0
abbrev pub to_come_at : Load → ℕ → Stage → List Sent
to_come_at load day Stage.Calendar =
    calendar_sent ∷ front_class_sent ∷ deferred_class_sent ∷ behind_classes load day
to_come_at load day Stage.FrontClass = front_class_sent ∷ deferred_class_sent ∷ behind_classes load day
to_come_at load day Stage.DeferredClass = deferred_class_sent ∷ behind_classes load day
to_come_at load day (Stage.Household number) =
    households_from load number ++ (accounts_from load 1 ++ days_after load day)
to_come_at load day (Stage.Account number) = accounts_from load number ++ days_after load day
to_come_at load day (Stage.Order household) =
    orders_from load day household ++ (sheet_sent day ∷ behind_sheet load day)
to_come_at load day Stage.Sheet = sheet_sent day ∷ behind_sheet load day
to_come_at load day Stage.Correction = correction_sent day ∷ days_after load day
to_come_at load day Stage.End = []

abbrev pub to_come : Load → Progress → List Sent
to_come load progress = to_come_at load progress.day progress.stage

-- the request that is next at a stage
abbrev pub first_at : Load → ℕ → Stage → Option Sent
first_at load day Stage.Calendar = Some calendar_sent
first_at load day Stage.FrontClass = Some front_class_sent
first_at load day Stage.DeferredClass = Some deferred_class_sent
first_at load day (Stage.Household number) = Some (household_sent number)
first_at load day (Stage.Account number) = Some (account_sent number)
first_at load day (Stage.Order household) = Some (order_sent load day household)
first_at load day Stage.Sheet = Some (sheet_sent day)
first_at load day Stage.Correction = Some (correction_sent day)
first_at load day Stage.End = None

-- what is to come behind it
abbrev pub rest_at : Load → ℕ → Stage → List Sent
rest_at load day Stage.Calendar = front_class_sent ∷ deferred_class_sent ∷ behind_classes load day
rest_at load day Stage.FrontClass = deferred_class_sent ∷ behind_classes load day
rest_at load day Stage.DeferredClass = behind_classes load day
rest_at load day (Stage.Household number) =
    households_from load (number + 1) ++ (accounts_from load 1 ++ days_after load day)
rest_at load day (Stage.Account number) = accounts_from load (number + 1) ++ days_after load day
rest_at load day (Stage.Order household) =
    orders_from load day (household + 1) ++ (sheet_sent day ∷ behind_sheet load day)
rest_at load day Stage.Sheet = behind_sheet load day
rest_at load day Stage.Correction = days_after load day
rest_at load day Stage.End = []

-- the same progress at another stage of its day
abbrev pub with_stage : Progress → Stage → Progress
with_stage progress stage = record {
  stage = stage;
  day = progress.day;
  pricing = progress.pricing;
  corrected = progress.corrected;
  drawn = progress.drawn;
}

-- how many draws were made, that of the order which is next among them
abbrev pub draws_made : Load → ℕ → Stage → ℕ
draws_made load day (Stage.Order household) = place_of_draw load.households day household
draws_made load day _ = day * load.households

-- a number from 1 to the last
pub record IsNumbered (last number : ℕ) : Type 0 where
  pub least : 1 ≤ number
  pub most : number ≤ last

-- what is so at a stage
abbrev pub FitsStage : Load → ℕ → Stage → Type 0
FitsStage load day (Stage.Household number) = IsNumbered load.households number
FitsStage load day (Stage.Account number) = IsNumbered load.households number
FitsStage load day (Stage.Order household) = (1 ≤ day) × IsNumbered load.households household
FitsStage load day Stage.Sheet = 1 ≤ day
FitsStage load day Stage.Correction = (1 ≤ day) × (is_corrected day ≡ true)
FitsStage load day _ = ⊤

-- a load has 1 to 1,000 households and at most 2,000 days
pub record IsLoad (load : Load) : Type 0 where
  pub some : 1 ≤ load.households
  pub few : load.households ≤ 1000
  pub short : load.days ≤ 2000

-- a progress tells its day's moments and its last draw
pub record IsProgress (load : Load) (progress : Progress) : Type 0 where
  pub within : progress.day ≤ load.days
  pub pricing : progress.pricing ≡ pricing_moment progress.day
  pub corrected : progress.corrected ≡ pricing_moment (progress.day - 5)
  pub drawn : progress.drawn ≡ state_after load.number (draws_made load progress.day progress.stage)
  pub stage : FitsStage load progress.day progress.stage

-- the same progress with one draw more
abbrev pub with_draw : Progress → Stage → Progress
with_draw progress stage = record {
  stage = stage;
  day = progress.day;
  pricing = progress.pricing;
  corrected = progress.corrected;
  drawn = next_state progress.drawn;
}

-- the progress at the first order of the next day
abbrev pub day_behind : Progress → Progress
day_behind progress = record {
  stage = Stage.Order 1;
  day = progress.day + 1;
  pricing = pricing_moment (progress.day + 1);
  corrected = pricing_moment (progress.day + 1 - 5);
  drawn = next_state progress.drawn;
}

-- a load under way: its size, its pricing days, and how far it has come
pub record IsUnderWay (load : Load) (listing : Listing) (progress : Progress) : Type 0 where
  pub size : IsLoad load
  pub pricing_days : listing ≡ load_listing
  pub come_to : IsProgress load progress
