-- That `Inquiry::has_day` keeps its contract.
use Rattle.std.proofs.Common.{rules}
use Rattle.fund_calendar.specs.PricingDays.{Listing, lists_day}
use Rattle.request_rules.proofs.LookUps.{one_has}
use Rattle.request_rules.proofs.inquiry.Inquiry.has_day.Goals as goal

pub returns : goal.returns
returns c =
    rw (one_has (λ (l : Listing). l.number) (λ (l : Listing). lists_day l c.args.day) c.args.calendar c.args.self.now.book.table.calendars c.calendar_lists_day.ensures.orderly.calendars_differ)
    (search rules)
