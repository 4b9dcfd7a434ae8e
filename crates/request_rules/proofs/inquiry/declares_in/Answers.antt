-- That `declares_in` keeps its contract.
use Rattle.std.proofs.Common.{arith}
use Rattle.request_rules.proofs.Classes.{any_all, any_more}
use Rattle.request_rules.proofs.inquiry.declares_in.Goals as goal
use Rattle.request_rules.specs.VerbRules.{class_declares}

pub loop-place-preserved : goal.loop-place-preserved
loop-place-preserved c =
    let more = any_more (class_declares c.args.inquiry.now.book.rates.declared c.args.calendar c.args.moment) c.args.inquiry.now.book.classes c.loop-place.place in cc

pub returns-clause-declared : goal.returns-clause-declared
returns-clause-declared c =
    let all = any_all (class_declares c.args.inquiry.now.book.rates.declared c.args.calendar c.args.moment) c.args.inquiry.now.book.classes c.loop-place.place (omega arith) in cc
