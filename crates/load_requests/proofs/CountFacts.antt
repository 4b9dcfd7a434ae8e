-- How many requests a load has, and how a run goes on.
use Rattle.std.proofs.Common.{◌≡◌, ℕ, zero, suc, ◌+◌, ◌-◌, ◌*◌, ◌/◌, ◌%◌, Bool, true, false, List, [], ◌∷◌, ◌++◌, length, map, refl, sym, ap, ◌∙◌, inl, inr, arith}
use Rattle.std.specs.Prelude.{flat_map}
use Rattle.std.proofs.lemmas.Bool.{true≢false}
use Rattle.std.proofs.lemmas.Bool.Decides.{eqb_tells}
use Rattle.std.proofs.lemmas.List.Sums.{fold-append}
use Rattle.std.proofs.lemmas.List.{length-append, length-map}
use Rattle.load_requests.specs.Days.{is_corrected}
use Rattle.load_requests.specs.Requests.{account_sent, accounts_from, corrections_on, days_after, household_sent, households_from, numbers_from, order_sent, orders_from, requests_of, requests_on, sheet_sent}
use Rattle.load_requests.specs.Runs.{answer_to, first_run, load_step, run_after, run_over}
use Rattle.load_requests.specs.declared.load.Load.{Load}
use Rattle.load_requests.specs.declared.load.Sent.{Sent}

count_numbers : (count first : ℕ) → length (numbers_from count first) ≡ count
count_numbers zero first = refl
count_numbers (suc count) first = ap suc (count_numbers count (first + 1))

count_all : (f : ℕ → Sent) (last : ℕ) → length (map f (numbers_from (last + 1 - 1) 1)) ≡ last
count_all f last =
    let same : last + 1 - 1 ≡ last = omega arith in
    length-map (numbers_from (last + 1 - 1) 1) f ∙ (count_numbers (last + 1 - 1) 1 ∙ same)

-- a tenth day has a correction more
count_corrections : (day : ℕ) → length (corrections_on (day + 1)) + day / 10 ≡ (day + 1) / 10
count_corrections day = by_test (is_corrected (day + 1)) refl
  where
    by_test : (test : Bool) → is_corrected (day + 1) ≡ test → length (corrections_on (day + 1)) + day / 10 ≡ (day + 1) / 10
    by_test true tenth = rw tenth (elim (eqb_tells ((day + 1) % 10) 0) [
      | inl (_, none) ↦ omega (arith, none)
      | inr (f, _) ↦ absurd (true≢false (sym tenth ∙ f))
    ])
    by_test false other = rw other (elim (eqb_tells ((day + 1) % 10) 0) [
      | inl (t, _) ↦ absurd (true≢false (sym t ∙ other))
      | inr (_, some) ↦ no_tenth some
    ])
      where
        no_tenth : ¬ ((day + 1) % 10 ≡ 0) → 0 + day / 10 ≡ (day + 1) / 10
        no_tenth some = omega (arith, some)

count_day : (load : Load) (day : ℕ) → length (requests_on load day) ≡ load.households + 1 + length (corrections_on day)
count_day load day =
    let all = count_all (order_sent load day) load.households in
    let parts = length-append (orders_from load day 1) (sheet_sent day ∷ corrections_on day) in
    omega (arith, all, parts)

count_days : (load : Load) (count day : ℕ) → length (flat_map (requests_on load) (numbers_from count (day + 1))) + day / 10 ≡ count * (load.households + 1) + (day + count) / 10
count_days load zero day = omega arith
count_days load (suc count) day =
    let later = flat_map (requests_on load) (numbers_from count (day + 1 + 1)) in
    let parts = length-append (requests_on load (day + 1)) later in
    let here = count_day load (day + 1) in
    let tens = count_corrections day in
    let rest = count_days load count (day + 1) in
    let more : suc count * (load.households + 1) ≡ count * (load.households + 1) + (load.households + 1) = omega arith in
    let same : (day + 1 + count) / 10 ≡ (day + suc count) / 10 = ap (λ (n : ℕ). n / 10) (omega arith) in
    omega (arith, parts, here, tens, rest, more, same)

pub count_requests : (load : Load) → length (requests_of load) ≡ 3 + 2 * load.households + load.days * (load.households + 1) + load.days / 10
count_requests load =
    let households = count_all household_sent load.households in
    let accounts = count_all account_sent load.households in
    let parts = length-append (households_from load 1) (accounts_from load 1 ++ days_after load 0) in
    let later = length-append (accounts_from load 1) (days_after load 0) in
    let days = count_days load (load.days - 0) 0 in
    let same : load.days - 0 ≡ load.days = omega arith in
    let days_so : length (days_after load 0) + 0 / 10 ≡ load.days * (load.households + 1) + (0 + load.days) / 10 = days ∙ ap (λ (n : ℕ). n * (load.households + 1) + (0 + n) / 10) same in
    omega (arith, households, accounts, parts, later, days_so)

pub run_begins : run_over [] ≡ first_run
unfolding run_over
run_begins = refl

pub run_goes_on : (before : List Sent) (sent : Sent) → run_over (before ++ sent ∷ []) ≡ run_after (run_over before) (answer_to (run_over before).journal sent)
unfolding run_over load_step
run_goes_on before sent = fold-append load_step first_run before (sent ∷ [])
