-- Numbers that are counted up, and the days that come one behind the other.
use Rattle.std.proofs.Common.{◌≡◌, ℕ, suc, ◌<◌, ◌≤◌, ◌+◌, ◌-◌, [], ◌∷◌, ◌++◌, map, refl, arith, append_assoc}
use Rattle.load_requests.specs.Requests.{corrections_on, days_after, numbers_from, orders_from, sheet_sent}
use Rattle.load_requests.specs.declared.load.Load.{Load}

-- the number at which the counting stands is the first, and behind the last there is none
pub from_here : {X : Type 0} (f : ℕ → X) (last first : ℕ) → first ≤ last → map f (numbers_from (last + 1 - first) first) ≡ f first ∷ map f (numbers_from (last + 1 - (first + 1)) (first + 1))
from_here f last first h =
    let e : last + 1 - first ≡ suc (last + 1 - (first + 1)) = omega arith in rw e refl

pub behind_last : {X : Type 0} (f : ℕ → X) (last first : ℕ) → last ≤ first → map f (numbers_from (last + 1 - (first + 1)) (first + 1)) ≡ []
behind_last f last first h =
    let e : last + 1 - (first + 1) ≡ 0 = omega arith in rw e refl

-- the day behind one, and none behind the last
pub next_days : (load : Load) (day : ℕ) → day < load.days → days_after load day ≡ orders_from load (day + 1) 1 ++ (sheet_sent (day + 1) ∷ (corrections_on (day + 1) ++ days_after load (day + 1)))
next_days load day h =
    let e : load.days - day ≡ suc (load.days - (day + 1)) = omega arith in
    rw e (append_assoc (orders_from load (day + 1) 1) (sheet_sent (day + 1) ∷ corrections_on (day + 1)) (days_after load (day + 1)))

pub no_days : (load : Load) (day : ℕ) → load.days ≤ day → days_after load day ≡ []
no_days load day h = let e : load.days - day ≡ 0 = omega arith in rw e refl
