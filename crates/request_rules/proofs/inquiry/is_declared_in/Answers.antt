-- That `is_declared_in` keeps its contract.
use Rattle.std.proofs.Common.{rules}
use Rattle.request_rules.proofs.Declared.{declared_by_class}
use Rattle.request_rules.proofs.inquiry.is_declared_in.Goals as goal

pub returns : goal.returns
returns c =
    rw (declared_by_class c.args.inquiry.now.book c.args.calendar c.args.moment c.declares_in.ensures.once)
    (search rules)
