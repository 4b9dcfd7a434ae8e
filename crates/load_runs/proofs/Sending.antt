-- One request after the other: what is sent is a step of the run, and the rest comes no earlier.
use Rattle.std.proofs.Common.{Bool, List, None, Some, [], ap, arith, cond, drop, false, fold, length, refl, slice_get, subst, sym, true, ℕ, ◌++◌, ◌+◌, ◌∙◌, ◌∷◌, ◌≡◌, ◌≤◌}
use Rattle.std.proofs.Math.Nat.{mul-le-mul}
use Rattle.agent_events.specs.declared.reply.Reply.{Reply}
use Rattle.agent_events.specs.declared.verdict.Caller.{Caller}
use Rattle.load_requests.proofs.CountFacts.{count_requests}
use Rattle.load_requests.proofs.TurnFacts.{from_lower, never_fall, step_ends_by}
use Rattle.load_requests.specs.Requests.{requests_of}
use Rattle.load_requests.specs.Runs.{LoadRun, NeverFall, answer_to, first_run, is_refusal, load_step, run_over}
use Rattle.load_requests.specs.declared.load.Load.{Load}
use Rattle.load_requests.specs.declared.load.Sent.{Sent}
use Rattle.load_runs.specs.Running.{most_requests}
use Rattle.register_laws.specs.Lawful.{own_at}
use Rattle.register_machine.specs.journal.Journals.{Journal, last_moment}
use Rattle.register_machine.specs.run.Answers.{Answer, answer}

-- ---- a step

-- what was answered, what was kept of it, and how many were refused before and now
pub record IsSent (run : LoadRun) (sent : Sent) (reply : Reply) (events : Journal) (next : LoadRun) : Type 0 where
  pub answered : answer (own_at run.journal sent.moment Caller.Operator) sent.request ≡ record { reply = reply; events = events }
  pub journal : next.journal ≡ run.journal ++ events
  pub refused : next.refused ≡ run.refused + cond (is_refusal reply) 1 0

same-run : (run next : LoadRun) (said : Answer) (reply : Reply) (events : Journal) → said ≡ record { reply = reply; events = events } → next.journal ≡ run.journal ++ events → next.refused ≡ run.refused + cond (is_refusal reply) 1 0 → next ≡ record { journal = run.journal ++ said.events; refused = run.refused + cond (is_refusal said.reply) 1 0 }
same-run run next said reply events is journal refused =
    subst (λ (other : Answer). next ≡ record { journal = run.journal ++ other.events; refused = run.refused + cond (is_refusal other.reply) 1 0 }) (sym is)
    (both next.journal (run.journal ++ events) next.refused (run.refused + cond (is_refusal reply) 1 0) journal refused)
  where
    run-of : Journal → ℕ → LoadRun
    run-of j n = record { journal = j; refused = n }

    both : (j k : Journal) (m n : ℕ) → j ≡ k → m ≡ n → run-of j m ≡ run-of k n
    both j k m n e f = ap (λ i. run-of i m) e ∙ ap (λ i. run-of k i) f

pub step_is : (run : LoadRun) (sent : Sent) (reply : Reply) (events : Journal) (next : LoadRun) → IsSent run sent reply events next → next ≡ load_step run sent
unfolding load_step
step_is run sent reply events next is = same-run run next (answer_to run.journal sent) reply events is.answered is.journal is.refused

-- ---- moments

-- ---- the request that is next

some-same : {X : Type 0} (x y : X) → Some x ≡ Some y → x ≡ y
some-same x y e = cc

none-next : {X : Type 0} (x : X) → None ≡ Some x → ⊥
none-next x e = cc

-- the next request comes no earlier than the last event
pub comes_later : (journal : Journal) (requests : List Sent) (sent : Sent) → slice_get requests 0 ≡ Some sent → NeverFall (last_moment journal) requests → last_moment journal ≤ sent.moment
comes_later journal [] sent is falls = absurd (none-next sent is)
comes_later journal (first ∷ later) sent is falls =
    subst (λ (one : Sent). last_moment journal ≤ one.moment) (some-same first sent is) falls.0

-- and those behind it no earlier than what it leaves
pub falls_on : (run next : LoadRun) (requests rest : List Sent) (sent : Sent) → slice_get requests 0 ≡ Some sent → rest ≡ drop 1 requests → next ≡ load_step run sent → NeverFall (last_moment run.journal) requests → NeverFall (last_moment next.journal) rest
falls_on run next [] rest sent is drops step falls = absurd (none-next sent is)
falls_on run next (first ∷ later) rest sent is drops step falls =
    subst (λ (sents : List Sent). NeverFall (last_moment next.journal) sents) (sym drops)
    (subst (λ (after : LoadRun). NeverFall (last_moment after.journal) later) (sym (step ∙ ap (load_step run) (sym (some-same first sent is))))
    (from_lower (last_moment (load_step run first).journal) first.moment later (step_ends_by run first falls.0) falls.1))

-- the run over all is that over the rest, from what it leaves on
pub goes_on : (run next : LoadRun) (requests rest : List Sent) (sent : Sent) → slice_get requests 0 ≡ Some sent → rest ≡ drop 1 requests → next ≡ load_step run sent → fold load_step next rest ≡ fold load_step run requests
goes_on run next [] rest sent is drops step = absurd (none-next sent is)
goes_on run next (first ∷ later) rest sent is drops step =
    ap (λ (sents : List Sent). fold load_step next sents) drops
    ∙ ap (λ (after : LoadRun). fold load_step after later) (step ∙ ap (load_step run) (sym (some-same first sent is)))

-- one request fewer is left
pub fewer : (requests rest : List Sent) (sent : Sent) → slice_get requests 0 ≡ Some sent → rest ≡ drop 1 requests → length requests ≡ length rest + 1
fewer [] rest sent is drops = absurd (none-next sent is)
fewer (first ∷ later) rest sent is drops = let same = ap (λ (sents : List Sent). length sents) drops in omega (arith, same)

step-refuses : (run : LoadRun) (sent : Sent) → (load_step run sent).refused ≤ run.refused + 1
unfolding load_step
step-refuses run sent = by (is_refusal (answer_to run.journal sent).reply)
  where
    by : (b : Bool) → run.refused + cond b 1 0 ≤ run.refused + 1
    by true = omega arith
    by false = omega arith

-- so no more are refused than were sent
pub few_on : (run next : LoadRun) (requests rest : List Sent) (sent : Sent) → slice_get requests 0 ≡ Some sent → rest ≡ drop 1 requests → next ≡ load_step run sent → run.refused + length requests ≤ most_requests → next.refused + length rest ≤ most_requests
few_on run next requests rest sent is drops step few =
    let now = ap (λ (after : LoadRun). after.refused) step in
    let more = step-refuses run sent in
    let left = fewer requests rest sent is drops in
    omega (arith, now, more, left, few)

-- without a next request nothing is left
pub none_left : (requests : List Sent) → slice_get requests 0 ≡ None → requests ≡ []
none_left [] is = refl
none_left (first ∷ later) is = absurd (none-next first (sym is))

-- ---- all of them

pub few_requests : (load : Load) → load.households ≤ 1000 → load.days ≤ 2000 → length (requests_of load) ≤ most_requests
few_requests load few short =
    let count = count_requests load in
    let days = mul-le-mul {n₁ = load.days} {m₁ = load.households + 1} {n₂ = 2000} {m₂ = 1001} short (omega (arith, few)) in
    omega (arith, count, days, few, short)

pub run_of_all : (load : Load) → fold load_step first_run (requests_of load) ≡ run_over (requests_of load)
unfolding run_over
run_of_all load = refl

-- ---- from the first request to the last

pub falls_first : (run : LoadRun) (requests : List Sent) (load : Load) → run ≡ first_run → requests ≡ requests_of load → load.days ≤ 2000 → NeverFall (last_moment run.journal) requests
falls_first run requests load begins all short =
    subst (λ (before : LoadRun). NeverFall (last_moment before.journal) requests) (sym begins)
    (subst (λ (sents : List Sent). NeverFall 0 sents) (sym all) (never_fall load short))

pub few_first : (run : LoadRun) (requests : List Sent) (load : Load) → run ≡ first_run → requests ≡ requests_of load → load.households ≤ 1000 → load.days ≤ 2000 → run.refused + length requests ≤ most_requests
few_first run requests load begins all few short =
    let none = ap (λ (before : LoadRun). before.refused) begins in
    let same = ap (λ (sents : List Sent). length sents) all in
    let most = few_requests load few short in
    omega (arith, none, same, most)

pub run_first : (run last : LoadRun) (requests : List Sent) (load : Load) → last ≡ fold load_step run requests → run ≡ first_run → requests ≡ requests_of load → last ≡ run_over (requests_of load)
run_first run last requests load ends begins all =
    ends
    ∙ (ap (λ (before : LoadRun). fold load_step before requests) begins
    ∙ (ap (λ (sents : List Sent). fold load_step first_run sents) all ∙ run_of_all load))
