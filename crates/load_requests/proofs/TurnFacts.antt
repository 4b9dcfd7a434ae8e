-- No request of a load comes before the one before it, so that none comes before the last moment of the journal.
use Rattle.std.proofs.Common.{◌≡◌, ℕ, zero, suc, ◌≤◌, ◌+◌, ◌-◌, Bool, true, false, List, [], ◌∷◌, ◌++◌, map, fold, refl, sym, subst, arith, append-nil, append_assoc}
use Rattle.std.specs.Prelude.{flat_map}
use Rattle.register_laws.proofs.AnswersByCases.{each-new}
use Rattle.register_laws.proofs.MomentsNeverFall.{last-more}
use Rattle.register_machine.specs.journal.Journals.{Journal, last_moment}
use Rattle.load_requests.specs.Days.{is_corrected, pricing_moment}
use Rattle.load_requests.specs.Opening.{opening_moment}
use Rattle.load_requests.specs.Requests.{account_sent, corrections_on, days_after, household_sent, numbers_from, order_sent, orders_from, requests_of, requests_on, sheet_sent}
use Rattle.load_requests.specs.Runs.{LoadRun, NeverFall, answer_to, load_step, operator_at}
use Rattle.load_requests.specs.declared.load.Load.{Load}
use Rattle.load_requests.specs.declared.load.Sent.{Sent}
use Rattle.load_requests.proofs.PricingFacts.{days_apart}

pub from_lower : (low high : ℕ) (sent : List Sent) → low ≤ high → NeverFall high sent → NeverFall low sent
from_lower low high [] le falls = tt
from_lower low high (one ∷ later) le falls = (let first = falls.0 in omega (arith, le, first), falls.1)

-- requests of one moment before others
of_one_moment : (f : ℕ → Sent) (moment : ℕ) (numbers : List ℕ) (later : List Sent) → ((n : ℕ) → (f n).moment ≡ moment) → (low : ℕ) → low ≤ moment → NeverFall moment later → NeverFall low (map f numbers ++ later)
of_one_moment f moment [] later same low le falls = from_lower low moment later le falls
of_one_moment f moment (n ∷ numbers) later same low le falls =
    let at = same n in
    (omega (arith, le, at), of_one_moment f moment numbers later same (f n).moment (omega (arith, at)) falls)

corrections_before : (day : ℕ) (later : List Sent) → NeverFall (pricing_moment day + 3600) later → NeverFall (pricing_moment day + 3600) (corrections_on day ++ later)
corrections_before day later falls = by_test (is_corrected day) refl
  where
    by_test : (test : Bool) → is_corrected day ≡ test → NeverFall (pricing_moment day + 3600) (corrections_on day ++ later)
    by_test true tenth = rw tenth (omega arith, falls)
    by_test false other = rw other falls

days_never_fall : (load : Load) (count day : ℕ) → day + count ≤ 2000 → NeverFall (pricing_moment day + 3600) (flat_map (requests_on load) (numbers_from count (day + 1)))
days_never_fall load zero day h = tt
days_never_fall load (suc count) day h =
    let later = flat_map (requests_on load) (numbers_from count (day + 1 + 1)) in
    let gap = days_apart day (omega (arith, h)) in
    subst (NeverFall (pricing_moment day + 3600)) (sym (append_assoc (orders_from load (day + 1) 1) (sheet_sent (day + 1) ∷ corrections_on (day + 1)) later))
    (of_one_moment (order_sent load (day + 1)) (pricing_moment (day + 1) - 3600) (numbers_from (load.households + 1 - 1) 1) (sheet_sent (day + 1) ∷ (corrections_on (day + 1) ++ later)) (λ n. refl) (pricing_moment day + 3600) (omega (arith, gap))
    (omega (arith, gap), corrections_before (day + 1) later (days_never_fall load count (day + 1) (omega (arith, h)))))

pub never_fall : (load : Load) → load.days ≤ 2000 → NeverFall 0 (requests_of load)
never_fall load short =
    let days = from_lower opening_moment (pricing_moment 0 + 3600) (days_after load 0) (omega arith) (days_never_fall load (load.days - 0) 0 (omega (arith, short))) in
    let accounts = of_one_moment account_sent opening_moment (numbers_from (load.households + 1 - 1) 1) (days_after load 0) (λ n. refl) opening_moment (omega arith) days in
    (omega arith, (omega arith, (omega arith, of_one_moment household_sent opening_moment (numbers_from (load.households + 1 - 1) 1) (map account_sent (numbers_from (load.households + 1 - 1) 1) ++ days_after load 0) (λ n. refl) opening_moment (omega arith) accounts)))

-- an answer leaves the journal's last moment at or before the request's
pub ends_by : (journal : Journal) (sent : Sent) → last_moment journal ≤ sent.moment → last_moment (journal ++ (answer_to journal sent).events) ≤ sent.moment
ends_by journal sent late =
    each-new (λ said. last_moment (journal ++ said.events) ≤ sent.moment) (operator_at journal sent.moment) sent.request
    (λ reply. subst (λ (j : Journal). last_moment j ≤ sent.moment) (sym (append-nil journal)) late)
    (λ allowed new clear kind brings keeps. let last = last-more journal (record { moment = sent.moment; kind = kind }) in omega (arith, last))

pub step_ends_by : (run : LoadRun) (sent : Sent) → last_moment run.journal ≤ sent.moment → last_moment (load_step run sent).journal ≤ sent.moment
unfolding load_step
step_ends_by run sent late = ends_by run.journal sent late

pub run_ends_by : (run : LoadRun) (low : ℕ) (before : List Sent) (sent : Sent) (later : List Sent) → last_moment run.journal ≤ low → NeverFall low (before ++ sent ∷ later) → last_moment (fold load_step run before).journal ≤ sent.moment
run_ends_by run low [] sent later last falls = let first = falls.0 in omega (arith, last, first)
run_ends_by run low (one ∷ before) sent later last falls =
    let first = falls.0 in
    run_ends_by (load_step run one) one.moment before sent later (step_ends_by run one (omega (arith, last, first))) falls.1
