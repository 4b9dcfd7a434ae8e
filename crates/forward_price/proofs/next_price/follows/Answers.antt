-- That `follows` keeps its contract.
use Rattle.std.proofs.Common.{sym, ◌∙◌}
use Rattle.forward_price.proofs.SearchFacts.{last_is_most}
use Rattle.forward_price.proofs.next_price.follows.Goals as goal

pub returns-in-Some-clause-rising : goal.returns-in-Some-clause-rising
returns-in-Some-clause-rising c = λ e never. last_is_most c.args.sheets.now c.args.moment c.in-Some.last.now never (sym c.in-Some.ensures.value) (sym c.is_up_to.ensures ∙ e)
