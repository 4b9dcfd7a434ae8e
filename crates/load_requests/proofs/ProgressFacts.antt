-- A progress that moves from stage to stage tells its moments and its draws.
use Rattle.std.proofs.Common.{◌≡◌, ℕ, zero, suc, ◌<◌, ◌≤◌, ◌+◌, ◌-◌, ◌*◌, ◌%◌, true, inl, inr, refl, sym, subst, ap, ◌∙◌, arith}
use Rattle.std.proofs.lemmas.Bool.{true≢false}
use Rattle.std.proofs.lemmas.Bool.Decides.{eqb_tells}
use Rattle.load_requests.specs.Days.{is_corrected, place_of_draw, pricing_after, pricing_moment, state_on}
use Rattle.load_requests.specs.Draws.{next_state, state_after}
use Rattle.load_requests.specs.Opening.{load_listing}
use Rattle.load_requests.specs.ToCome.{FitsStage, IsProgress, day_behind, draws_made, with_draw, with_stage}
use Rattle.load_requests.specs.declared.load.Load.{Load}
use Rattle.load_requests.specs.declared.progress.Progress.{Progress}
use Rattle.load_requests.specs.declared.progress.Stage.{Stage}

-- what the last draw was, where the stage is known
drawn_at : (load : Load) (p : Progress) (stage : Stage) → IsProgress load p → p.stage ≡ stage → p.drawn ≡ state_after load.number (draws_made load p.day stage)
drawn_at load p stage is e = is.drawn ∙ ap (λ (s : Stage). state_after load.number (draws_made load p.day s)) e

fits_at : (load : Load) (p : Progress) (stage : Stage) → IsProgress load p → p.stage ≡ stage → FitsStage load p.day stage
fits_at load p stage is e = subst (FitsStage load p.day) e is.stage

moved_on : (load : Load) (p : Progress) (stage : Stage) → IsProgress load p → p.drawn ≡ state_after load.number (draws_made load p.day stage) → FitsStage load p.day stage → IsProgress load (with_stage p stage)
moved_on load p stage is drawn fits = record {
  within = is.within;
  pricing = is.pricing;
  corrected = is.corrected;
  drawn = drawn;
  stage = fits;
}

pub front_class_next : (load : Load) (p : Progress) → IsProgress load p → p.stage ≡ Stage.Calendar → IsProgress load (with_stage p Stage.FrontClass)
front_class_next load p is e = moved_on load p Stage.FrontClass is (drawn_at load p Stage.Calendar is e) tt

pub deferred_class_next : (load : Load) (p : Progress) → IsProgress load p → p.stage ≡ Stage.FrontClass → IsProgress load (with_stage p Stage.DeferredClass)
deferred_class_next load p is e = moved_on load p Stage.DeferredClass is (drawn_at load p Stage.FrontClass is e) tt

pub first_household_next : (load : Load) (p : Progress) → IsProgress load p → p.stage ≡ Stage.DeferredClass → 1 ≤ load.households → IsProgress load (with_stage p (Stage.Household 1))
first_household_next load p is e some =
    moved_on load p (Stage.Household 1) is (drawn_at load p Stage.DeferredClass is e) (record { least = omega arith; most = some })

pub household_next : (load : Load) (p : Progress) (number : ℕ) → IsProgress load p → p.stage ≡ Stage.Household number → number < load.households → IsProgress load (with_stage p (Stage.Household (number + 1)))
household_next load p number is e more =
    moved_on load p (Stage.Household (number + 1)) is (drawn_at load p (Stage.Household number) is e) (record { least = omega arith; most = omega arith })

pub first_account_next : (load : Load) (p : Progress) (number : ℕ) → IsProgress load p → p.stage ≡ Stage.Household number → 1 ≤ load.households → IsProgress load (with_stage p (Stage.Account 1))
first_account_next load p number is e some =
    moved_on load p (Stage.Account 1) is (drawn_at load p (Stage.Household number) is e) (record { least = omega arith; most = some })

pub account_next : (load : Load) (p : Progress) (number : ℕ) → IsProgress load p → p.stage ≡ Stage.Account number → number < load.households → IsProgress load (with_stage p (Stage.Account (number + 1)))
account_next load p number is e more =
    moved_on load p (Stage.Account (number + 1)) is (drawn_at load p (Stage.Account number) is e) (record { least = omega arith; most = omega arith })

-- all households' draws of a day are as many as the households
draws_of_days : (day households : ℕ) → 1 ≤ day → (day - 1) * households + households ≡ day * households
draws_of_days zero households h = absurd (omega arith)
draws_of_days (suc day) households h =
    let e : suc day - 1 ≡ day = omega arith in rw e (omega arith)

pub order_next : (load : Load) (p : Progress) (household : ℕ) → IsProgress load p → p.stage ≡ Stage.Order household → household < load.households → IsProgress load (with_draw p (Stage.Order (household + 1)))
order_next load p household is e more = record {
  within = is.within;
  pricing = is.pricing;
  corrected = is.corrected;
  drawn =
      ap next_state (drawn_at load p (Stage.Order household) is e)
      ∙ ap (state_after load.number) (let same : suc (place_of_draw load.households p.day household) ≡ place_of_draw load.households p.day (household + 1) = omega arith in same);
  stage = ((fits_at load p (Stage.Order household) is e).0, record { least = omega arith; most = omega arith });
}

pub sheet_next : (load : Load) (p : Progress) (household : ℕ) → IsProgress load p → p.stage ≡ Stage.Order household → load.households ≤ household → IsProgress load (with_stage p Stage.Sheet)
sheet_next load p household is e last =
    let fits = fits_at load p (Stage.Order household) is e in
    let whole : household ≡ load.households = omega (arith, fits.1.most) in
    moved_on load p Stage.Sheet is
    (drawn_at load p (Stage.Order household) is e
    ∙ ap (state_after load.number) (ap (place_of_draw load.households p.day) whole ∙ draws_of_days p.day load.households fits.0))
    fits.0

pub correction_next : (load : Load) (p : Progress) → IsProgress load p → p.stage ≡ Stage.Sheet → is_corrected p.day ≡ true → IsProgress load (with_stage p Stage.Correction)
correction_next load p is e tenth =
    moved_on load p Stage.Correction is (drawn_at load p Stage.Sheet is e) (fits_at load p Stage.Sheet is e, tenth)

-- between two days all draws of the days so far were made
pub drawn_behind_account : (load : Load) (p : Progress) (number : ℕ) → IsProgress load p → p.stage ≡ Stage.Account number → p.drawn ≡ state_after load.number (p.day * load.households)
drawn_behind_account load p number is e = drawn_at load p (Stage.Account number) is e

pub drawn_behind_sheet : (load : Load) (p : Progress) → IsProgress load p → p.stage ≡ Stage.Sheet → p.drawn ≡ state_after load.number (p.day * load.households)
drawn_behind_sheet load p is e = drawn_at load p Stage.Sheet is e

pub drawn_behind_correction : (load : Load) (p : Progress) → IsProgress load p → p.stage ≡ Stage.Correction → p.drawn ≡ state_after load.number (p.day * load.households)
drawn_behind_correction load p is e = drawn_at load p Stage.Correction is e

pub end_next : (load : Load) (p : Progress) → IsProgress load p → p.drawn ≡ state_after load.number (p.day * load.households) → IsProgress load (with_stage p Stage.End)
end_next load p is drawn = moved_on load p Stage.End is drawn tt

pub day_next : (load : Load) (p : Progress) → IsProgress load p → p.drawn ≡ state_after load.number (p.day * load.households) → p.day < load.days → 1 ≤ load.households → IsProgress load (day_behind p)
day_next load p is drawn more some = record {
  within = omega arith;
  pricing = refl;
  corrected = refl;
  drawn =
      ap next_state drawn
      ∙ ap (state_after load.number) (let same : suc (p.day * load.households) ≡ place_of_draw load.households (p.day + 1) 1 = let e : p.day + 1 - 1 ≡ p.day = omega arith in rw e (omega arith) in same);
  stage = (omega arith, record { least = omega arith; most = some });
}

-- the moment of five days before, as the day moves on
pub early_correction : (day : ℕ) → day < 5 → pricing_moment (day - 5) ≡ pricing_moment (day + 1 - 5)
early_correction day early =
    let none : day - 5 ≡ 0 = omega arith in
    let still : day + 1 - 5 ≡ 0 = omega arith in
    ap pricing_moment (none ∙ sym still)

pub later_correction : (day : ℕ) → 5 ≤ day → pricing_after load_listing (pricing_moment (day - 5)) ≡ pricing_moment (day + 1 - 5)
later_correction day late =
    let same : suc (day - 5) ≡ day + 1 - 5 = omega arith in
    ap pricing_moment same

pub next_pricing : (day : ℕ) → pricing_after load_listing (pricing_moment day) ≡ pricing_moment (day + 1)
next_pricing day = let same : suc day ≡ day + 1 = omega arith in ap pricing_moment same

-- what is so at a stage
pub household_fits : (load : Load) (p : Progress) (number : ℕ) → IsProgress load p → p.stage ≡ Stage.Household number → 1 ≤ number
household_fits load p number is e = (fits_at load p (Stage.Household number) is e).least

pub account_fits : (load : Load) (p : Progress) (number : ℕ) → IsProgress load p → p.stage ≡ Stage.Account number → 1 ≤ number
account_fits load p number is e = (fits_at load p (Stage.Account number) is e).least

pub order_fits : (load : Load) (p : Progress) (household : ℕ) → IsProgress load p → p.stage ≡ Stage.Order household → (1 ≤ p.day) × (1 ≤ household)
order_fits load p household is e = let fits = fits_at load p (Stage.Order household) is e in (fits.0, fits.1.least)

tenth_is_late : (day : ℕ) → 1 ≤ day → is_corrected day ≡ true → 5 ≤ day
tenth_is_late day some tenth = elim (eqb_tells (day % 10) 0) [
  | inl (_, none) ↦ omega arith
  | inr (f, _) ↦ absurd (true≢false (sym tenth ∙ f))
]

pub correction_fits : (load : Load) (p : Progress) → IsProgress load p → p.stage ≡ Stage.Correction → 5 ≤ p.day
correction_fits load p is e = let fits = fits_at load p Stage.Correction is e in tenth_is_late p.day fits.0 fits.1

-- the draw that is next is that of the household
pub order_is : (load : Load) (p : Progress) (household : ℕ) → IsProgress load p → p.stage ≡ Stage.Order household → p.drawn ≡ state_on load p.day household
order_is load p household is e = drawn_at load p (Stage.Order household) is e
