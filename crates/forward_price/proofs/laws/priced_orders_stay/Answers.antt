-- The proof of the law `priced_orders_stay`.
use Rattle.std.proofs.Common.{refl}
use Rattle.forward_price.proofs.KeptFacts.{priced_stays, corrected_stays}
use Rattle.forward_price.proofs.laws.priced_orders_stay.Goals as goal

pub returns-clause-sheet : goal.returns-clause-sheet
returns-clause-sheet c = priced_stays

pub returns-clause-calendar : goal.returns-clause-calendar
returns-clause-calendar c = λ t added asked receipt. refl

pub returns-clause-class : goal.returns-clause-class
returns-clause-class c = λ t class calendar opened asked receipt. refl

pub returns-clause-closure : goal.returns-clause-closure
returns-clause-closure c = λ t calendar day asked receipt. refl

pub returns-clause-correction : goal.returns-clause-correction
returns-clause-correction c = λ t class number nav asked receipt. corrected_stays class number nav t.sheets asked receipt
