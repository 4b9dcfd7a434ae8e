-- The proof of the law `complete_lists_have_no_wrong_class`.
use Rattle.forward_price.proofs.KeptFacts.{complete_all, none_wrong_from, least_wrong}
use Rattle.forward_price.proofs.laws.complete_lists_have_no_wrong_class.Goals as goal

pub returns-clause-complete : goal.returns-clause-complete
returns-clause-complete c = λ classes calendar moment prices rises right. record { rises = rises; lists = complete_all classes calendar moment prices right }

pub returns-clause-none_wrong : goal.returns-clause-none_wrong
returns-clause-none_wrong c = λ classes calendar moment prices complete. none_wrong_from classes calendar moment prices complete.lists

pub returns-clause-least : goal.returns-clause-least
returns-clause-least c = least_wrong
