-- A day that isn't listed leaves the calendars as they are.
use Rattle.std.proofs.Common.{◌≡◌, ℕ, Bool, true, false, not, ◌||◌, ◌==◌, List, [], ◌∷◌, map, filter, refl, ap, ◌∙◌, inl, inr, ◌⊎◌}
use Rattle.std.specs.List.{list_any}
use Rattle.std.specs.Bool.{OnFalse}
use Rattle.std.proofs.lemmas.Bool.{true≢false}
use Rattle.fund_calendar.specs.declared.pricing_day.PricingDay.{PricingDay}
use Rattle.fund_calendar.specs.PricingDays.{Listing}
use Rattle.forward_price.specs.PriceTables.{closed_in, is_priced, is_priced_day}

tested : (b : Bool) → (b ≡ true) ⊎ (b ≡ false)
tested true = inl refl
tested false = inr refl

or_parts : (a b : Bool) → (a || b) ≡ false → (a ≡ false) × (b ≡ false)
or_parts true b e = absurd (true≢false e)
or_parts false b e = (refl, e)

all_kept : (day : ℕ) (days : List PricingDay) → list_any (λ e. e.day == day) days ≡ false → filter (λ e. not (e.day == day)) days ≡ days
all_kept day [] e = refl
all_kept day (x ∷ xs) e =
    let parts = or_parts (x.day == day) (list_any (λ e. e.day == day) xs) e in
    rw parts.0 (ap (λ rest. x ∷ rest) (all_kept day xs parts.1))

kept : (number day : ℕ) (c : Listing) → is_priced_day number day c ≡ false → closed_in number day c ≡ c
kept number day c e = elim (tested (c.number == number)) [
  | inl here ↦ rw here (ap (λ days. record { number = c.number; days = days }) (all_kept day c.days (rw here at e)))
  | inr apart ↦ rw apart refl
]

pub none_closed : (number day : ℕ) (calendars : List Listing) → is_priced calendars number day ≡ false → map (closed_in number day) calendars ≡ calendars
none_closed number day [] e = refl
none_closed number day (c ∷ cs) e =
    let parts = or_parts (is_priced_day number day c) (is_priced cs number day) e in
    ap (λ x. x ∷ map (closed_in number day) cs) (kept number day c parts.0) ∙ ap (λ rest. c ∷ rest) (none_closed number day cs parts.1)

pub on_false : (P : Type 0) (b : Bool) → (b ≡ false → P) → OnFalse b P
on_false P true h = tt
on_false P false h = h refl
