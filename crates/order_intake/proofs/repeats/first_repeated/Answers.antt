-- That `first_repeated` keeps its contract.
use Rattle.std.proofs.Common.{◌∙◌}
use Rattle.order_intake.proofs.Repeated.{found_by_identity}
use Rattle.order_intake.proofs.repeats.first_repeated.Goals as goal

pub returns : goal.returns
returns c = c.place_asked.ensures ∙ found_by_identity c.args.request.now c.args.book.now.journal c.requires
