-- That `Calendar::date_of` keeps its contract.
use Rattle.std.proofs.Common.{◌==◌, ap, ◌∙◌, find, option_map}
use Rattle.fund_calendar.specs.declared.pricing_day.PricingDay.{PricingDay}
use Rattle.fund_calendar.specs.PricingDays.{Listing}
use Rattle.fund_calendar.proofs.calendar.Calendar.date_of.Goals as goal

pub returns : goal.returns
returns c =
    ap (option_map (λ (e : PricingDay). e.day)) (c.in_ok-found.ensures ∙ ap (find (λ (e : PricingDay). e.moment == c.args.moment)) (c.deref.ensures.value ∙ ap (λ (l : Listing). l.days) c.self.view_is))
