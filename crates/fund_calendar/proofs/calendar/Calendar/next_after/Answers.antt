-- That `Calendar::next_after` keeps its contract.
use Rattle.std.proofs.Common.{◌≡◌, ap, ◌∙◌}
use Rattle.fund_calendar.specs.PricingDays.{first_above}
use Rattle.fund_calendar.proofs.LookUpLemmas.{least_if_some, none_above_if_none}
use Rattle.fund_calendar.proofs.calendar.Calendar.next_after.Goals as goal

next_is : (c : goal.After-next_moment) → c.next_moment.result ≡ first_above c.self.inside.listed.items c.args.moment
next_is c =
    c.next_moment.ensures ∙ ap (λ days. first_above days c.args.moment) c.deref.ensures.value

pub returns-clause-least : goal.returns-clause-least
returns-clause-least c =
    rw (← c.self.view_is) (least_if_some c.self.inside.listed.items c.args.moment c.next_moment.result c.self.invariant.moments_rise (next_is c))

pub returns-clause-none : goal.returns-clause-none
returns-clause-none c =
    rw (← c.self.view_is) (none_above_if_none c.self.inside.listed.items c.args.moment c.next_moment.result (next_is c))
