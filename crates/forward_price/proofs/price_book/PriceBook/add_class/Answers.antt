-- That `PriceBook::add_class` keeps its contract.
use Rattle.std.proofs.Common.{◌≤◌, ap, arith, refl}
use Rattle.forward_price.proofs.BookFacts.{keeps_unpassed}
use Rattle.forward_price.proofs.price_book.PriceBook.add_class.Goals as goal

pub invariant_of-self : goal.invariant_of-self
invariant_of-self c =
    let room : 1 ≤ c.self.inside.spare = omega (arith, ap (λ b. b.spare) c.self.view_is, c.requires.room) in
    keeps_unpassed c.self.inside _ c.self.invariant (omega arith) (omega arith) refl refl refl refl c.start-self-inside.ensures
