-- That `Inquiry::is_declared` keeps its contract.
use Rattle.std.proofs.Common.{rules}
use Rattle.request_rules.proofs.inquiry.Inquiry.is_declared.Goals as goal
use Rattle.register_machine.specs.pricing.DividendRates.{declares}
use Rattle.register_laws.proofs.Tests.{find-any}

pub returns : goal.returns
returns c =
    rw (← find-any (declares c.args.class c.args.moment) c.args.self.now.book.rates.declared)
    (search rules)
