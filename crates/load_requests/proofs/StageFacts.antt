-- What is next at a stage, and what is to come behind it.
use Rattle.std.proofs.Common.{◌≡◌, ℕ, ◌<◌, ◌≤◌, ◌+◌, true, false, List, ◌∷◌, ◌++◌, drop, slice_get, refl, sym, ap}
use Rattle.load_requests.specs.Days.{is_corrected}
use Rattle.load_requests.specs.Requests.{account_sent, accounts_from, days_after, household_sent, order_sent, sheet_sent}
use Rattle.load_requests.specs.ToCome.{FitsStage, behind_sheet, first_at, rest_at, to_come_at}
use Rattle.load_requests.specs.declared.load.Load.{Load}
use Rattle.load_requests.specs.declared.load.Sent.{Sent}
use Rattle.load_requests.specs.declared.progress.Stage.{Stage}
use Rattle.load_requests.proofs.NumberFacts.{behind_last, from_here, next_days, no_days}

pub next_is : (load : Load) (day : ℕ) (stage : Stage) → FitsStage load day stage → slice_get (to_come_at load day stage) 0 ≡ first_at load day stage
next_is load day Stage.Calendar fits = refl
next_is load day Stage.FrontClass fits = refl
next_is load day Stage.DeferredClass fits = refl
next_is load day (Stage.Household number) fits =
    ap (λ (sent : List Sent). slice_get (sent ++ (accounts_from load 1 ++ days_after load day)) 0)
    (from_here household_sent load.households number fits.most)
next_is load day (Stage.Account number) fits =
    ap (λ (sent : List Sent). slice_get (sent ++ days_after load day) 0)
    (from_here account_sent load.households number fits.most)
next_is load day (Stage.Order household) fits =
    ap (λ (sent : List Sent). slice_get (sent ++ (sheet_sent day ∷ behind_sheet load day)) 0)
    (from_here (order_sent load day) load.households household fits.1.most)
next_is load day Stage.Sheet fits = refl
next_is load day Stage.Correction fits = refl
next_is load day Stage.End fits = refl

pub rest_is : (load : Load) (day : ℕ) (stage : Stage) → FitsStage load day stage → drop 1 (to_come_at load day stage) ≡ rest_at load day stage
rest_is load day Stage.Calendar fits = refl
rest_is load day Stage.FrontClass fits = refl
rest_is load day Stage.DeferredClass fits = refl
rest_is load day (Stage.Household number) fits =
    ap (λ (sent : List Sent). drop 1 (sent ++ (accounts_from load 1 ++ days_after load day)))
    (from_here household_sent load.households number fits.most)
rest_is load day (Stage.Account number) fits =
    ap (λ (sent : List Sent). drop 1 (sent ++ days_after load day))
    (from_here account_sent load.households number fits.most)
rest_is load day (Stage.Order household) fits =
    ap (λ (sent : List Sent). drop 1 (sent ++ (sheet_sent day ∷ behind_sheet load day)))
    (from_here (order_sent load day) load.households household fits.1.most)
rest_is load day Stage.Sheet fits = refl
rest_is load day Stage.Correction fits = refl
rest_is load day Stage.End fits = refl

-- behind the last household come the accounts, behind the last account the days, behind the last order the sheet
pub behind_households : (load : Load) (day number : ℕ) → load.households ≤ number → to_come_at load day (Stage.Account 1) ≡ rest_at load day (Stage.Household number)
behind_households load day number last =
    sym (ap (λ (sent : List Sent). sent ++ (accounts_from load 1 ++ days_after load day)) (behind_last household_sent load.households number last))

pub behind_accounts : (load : Load) (day number : ℕ) → load.households ≤ number → days_after load day ≡ rest_at load day (Stage.Account number)
behind_accounts load day number last =
    sym (ap (λ (sent : List Sent). sent ++ days_after load day) (behind_last account_sent load.households number last))

pub behind_orders : (load : Load) (day household : ℕ) → load.households ≤ household → to_come_at load day Stage.Sheet ≡ rest_at load day (Stage.Order household)
behind_orders load day household last =
    sym (ap (λ (sent : List Sent). sent ++ (sheet_sent day ∷ behind_sheet load day)) (behind_last (order_sent load day) load.households household last))

-- behind a sheet comes a correction or the next day
pub behind_corrected : (load : Load) (day : ℕ) → is_corrected day ≡ true → to_come_at load day Stage.Correction ≡ rest_at load day Stage.Sheet
behind_corrected load day tenth = rw tenth refl

pub behind_uncorrected : (load : Load) (day : ℕ) → is_corrected day ≡ false → days_after load day ≡ rest_at load day Stage.Sheet
behind_uncorrected load day other = rw other refl

pub behind_day : (load : Load) (day : ℕ) → day < load.days → to_come_at load (day + 1) (Stage.Order 1) ≡ days_after load day
behind_day load day more = sym (next_days load day more)

pub behind_last_day : (load : Load) (day : ℕ) → load.days ≤ day → to_come_at load day Stage.End ≡ days_after load day
behind_last_day load day last = sym (no_days load day last)
