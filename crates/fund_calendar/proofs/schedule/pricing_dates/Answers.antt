-- That `pricing_dates` keeps its contract.
use Rattle.std.proofs.Common.{◌≡◌, ◌+◌, ◌-◌, sym, ◌∙◌, arith, rules}
use Rattle.fund_calendar.specs.PricingDays.{days_from, pricing_dates}
use Rattle.fund_calendar.proofs.ScheduleLemmas.{kept_more, passed_more, pricing_dates-rise, length-pricing_dates}
use Rattle.fund_calendar.proofs.schedule.pricing_dates.Goals as goal
use Rattle.fund_calendar.proofs.schedule.pricing_dates.Goals.{then-is_priced+in_ok-push, else-is_priced}

pub loop-later-init : goal.loop-later-init
unfolding days_from
loop-later-init c = search rules

pub loop-later-preserved : goal.loop-later-preserved
loop-later-preserved c =
    elim c.if-is_priced.branch [
      | then-is_priced+in_ok-push w ↦ kept_more c.args.holidays.now c.loop-later.later c.args.first c.plus-day.result c.loop-later.dates.items c.if-is_priced.dates.items c.loop-later.invariant c.plus-day.ensures (sym c.is_priced.ensures ∙ w.if-is_priced.true) (rw w.dates-is w.in_ok-push.ensures.items)
      | else-is_priced w ↦ rw w.dates-is (passed_more c.args.holidays.now c.loop-later.later c.args.first c.plus-day.result c.loop-later.dates.items c.loop-later.invariant c.plus-day.ensures (sym c.is_priced.ensures ∙ w.if-is_priced.false))
    ]

dates_are : (c : goal.After-loop-later) → c.loop-later.dates.items ≡ pricing_dates c.args.holidays.now c.args.first c.args.last
unfolding pricing_dates
dates_are c =
    let count : c.loop-later.later ≡ c.args.last + 1 - c.args.first = omega (arith, c.requires, c.days_after-later-end.ensures.value) in
    rw (← count) c.loop-later.invariant

pub returns-clause-dates : goal.returns-clause-dates
returns-clause-dates c = dates_are c

pub returns-clause-rise : goal.returns-clause-rise
returns-clause-rise c = rw (dates_are c) (pricing_dates-rise c.args.holidays.now c.args.first c.args.last)

pub returns-clause-few : goal.returns-clause-few
returns-clause-few c = rw (dates_are c) (length-pricing_dates c.args.holidays.now c.args.first c.args.last)
