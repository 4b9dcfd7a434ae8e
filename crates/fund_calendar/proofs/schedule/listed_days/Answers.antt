-- That `listed_days` keeps its contract.
use Rattle.std.proofs.Common.{◌≡◌, sym, ap, ◌∙◌, arith}
use Rattle.std.proofs.lemmas.Grind.{common_steps}
use Rattle.fund_calendar.specs.PricingDays.{instant_on, rising}
use Rattle.fund_calendar.proofs.ScheduleLemmas.{IsListing-days_on, fault_from-more, listed_all, listed_more, not_rising_here}
use Rattle.fund_calendar.proofs.schedule.listed_days.Goals as goal

pub returns-in-None-clause-refused : goal.returns-in-None-clause-refused
returns-in-None-clause-refused c =
    let none = ap (rising c.loop-day.least) (sym c.instant.ensures) ∙ (sym c.rising.ensures ∙ c.in-None.is) in
    let here = not_rising_here (instant_on c.args.rule.now c.args.minute) c.args.dates.now c.loop-day.day-index c.loop-day.least c.day-item.result
    c.loop-day-test.true c.day-item.is none c.loop-day.invariant.fault in
    let items = c.loop-day.invariant.listed in
    let place : c.len.result ≡ c.loop-day.day-index = grind (arith, common_steps) in
    rw place here

pub loop-day-preserved : goal.loop-day-preserved
loop-day-preserved c =
    let some = ap (rising c.loop-day.least) (sym c.instant.ensures) ∙ (sym c.rising.ensures ∙ c.in-Some.is) in
    record {
      listed = listed_more (instant_on c.args.rule.now c.args.minute) c.args.dates.now c.loop-day.listed.items c.push.new.self.items c.loop-day.day-index c.day-item.result c.loop-day.least c.in-Some.moment
          c.loop-day-test.true c.day-item.is some c.loop-day.invariant.listed c.in_ok-push-in-Some.ensures.items;
      fault = rw c.seconds-least.ensures.value (c.loop-day.invariant.fault ∙ fault_from-more (instant_on c.args.rule.now c.args.minute) c.args.dates.now c.loop-day.day-index c.loop-day.least c.day-item.result c.in-Some.moment
          c.loop-day-test.true c.day-item.is some);
      small = omega (arith, c.seconds-least.ensures.most);
    }

pub returns-clause-listed : goal.returns-clause-listed
returns-clause-listed c =
    listed_all (instant_on c.args.rule.now c.args.minute) c.args.dates.now c.loop-day.listed.items c.loop-day.day-index c.loop-day.least c.loop-day-test.false c.loop-day.invariant.listed c.loop-day.invariant.fault

pub returns-clause-listing : goal.returns-clause-listing
returns-clause-listing c =
    IsListing-days_on (instant_on c.args.rule.now c.args.minute) c.args.dates.now c.loop-day.listed.items c.requires.rise (returns-clause-listed c)
