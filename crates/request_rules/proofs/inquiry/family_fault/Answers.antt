-- That `family_fault` keeps its contract.
use Rattle.std.proofs.Common.{arith}
use Rattle.request_rules.proofs.Classes.{least_all, least_more}
use Rattle.request_rules.proofs.inquiry.family_fault.Goals as goal
use Rattle.register_machine.specs.rules.Terms.{terms_of}

pub loop-place-preserved : goal.loop-place-preserved
loop-place-preserved c =
    let more = least_more (terms_of c.args.form.now) c.args.inquiry.now.book.classes c.loop-place.place in cc

pub returns : goal.returns
returns c =
    let all = least_all (terms_of c.args.form.now) c.args.inquiry.now.book.classes c.loop-place.place (omega arith) in cc
