-- That `prices_at` keeps its contract.
use Rattle.std.proofs.Common.{rules, ◌==◌}
use Rattle.fund_calendar.specs.declared.pricing_day.PricingDay.{PricingDay}
use Rattle.request_rules.proofs.LookUps.{found_any}
use Rattle.request_rules.proofs.inquiry.prices_at.Goals as goal

pub returns : goal.returns
returns c =
    rw (← found_any (λ (e : PricingDay). e.day) (λ (e : PricingDay). e.moment == c.args.moment) c.args.listing.now.days)
    (search rules)
