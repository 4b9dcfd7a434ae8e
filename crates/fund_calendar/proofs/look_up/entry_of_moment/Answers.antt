-- That `entry_of_moment` keeps its contract.
use Rattle.std.proofs.Common.{◌≡◌, ℕ, List, Option, sym, ap, ◌∙◌, Some, None, find, slice_get, nat_le, ◌==◌, true, false, AllPairs, ◌<◌}
use Rattle.fund_calendar.specs.declared.pricing_day.PricingDay.{PricingDay}
use Rattle.fund_calendar.proofs.LookUpLemmas.{moment_found, with_moment}
use Rattle.fund_calendar.proofs.look_up.entry_of_moment.Goals as goal

-- what stands where the seconds of the moment are reached
found_at : (days : List PricingDay) (moment seconds place : ℕ) (o : Option PricingDay) → AllPairs (λ a b. a.moment < b.moment) days → seconds ≡ moment → slice_get days place ≡ find (λ e. nat_le seconds e.moment) days → slice_get days place ≡ o → with_moment moment o ≡ find (λ e. e.moment == moment) days
found_at days moment seconds place o rise same found is =
    moment_found days moment (slice_get days place) o rise (found ∙ ap (λ n. find (λ (e : PricingDay). nat_le n e.moment) days) same) is

pub returns-then-eq : goal.returns-then-eq
returns-then-eq c =
    let found = found_at c.args.listed.now c.args.moment _ _ (Some c.in-Some.entry) c.requires.moments_rise c.seconds.ensures.value c.first_place_from-place.ensures.value (sym c.entry_at.ensures.value ∙ c.in-Some.is) in
    let here : (c.in-Some.entry.moment == c.args.moment) ≡ true = sym c.eq.ensures ∙ c.if-eq.true in
    rw here at found

pub returns-else-eq : goal.returns-else-eq
returns-else-eq c =
    let found = found_at c.args.listed.now c.args.moment _ _ (Some c.in-Some.entry) c.requires.moments_rise c.seconds.ensures.value c.first_place_from-place.ensures.value (sym c.entry_at.ensures.value ∙ c.in-Some.is) in
    let apart : (c.in-Some.entry.moment == c.args.moment) ≡ false = sym c.eq.ensures ∙ c.if-eq.false in
    rw apart at found

pub returns-in-None : goal.returns-in-None
returns-in-None c =
    found_at c.args.listed.now c.args.moment _ _ None c.requires.moments_rise c.seconds.ensures.value c.first_place_from-place.ensures.value (sym c.entry_at.ensures.value ∙ c.in-None.is)
