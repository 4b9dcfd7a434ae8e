-- That `Inquiry::has_moment` keeps its contract.
use Rattle.std.proofs.Common.{rules}
use Rattle.forward_price.specs.declared.price_sheet.Opening.{Opening}
use Rattle.request_rules.proofs.LookUps.{one_has}
use Rattle.request_rules.proofs.inquiry.Inquiry.has_moment.Goals as goal
use Rattle.request_rules.specs.Inquiries.{opening_prices_at}

pub returns : goal.returns
returns c =
    rw (one_has (λ (o : Opening). o.class) (opening_prices_at c.args.self.now.book.table.calendars c.args.moment) c.args.class c.args.self.now.book.table.classes c.class_has_moment.ensures.orderly.classes_differ)
    (search rules)
