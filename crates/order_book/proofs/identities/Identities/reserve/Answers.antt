-- That `Identities::reserve` keeps its contract.
use Rattle.std.proofs.Common.{◌∙◌, sym}
use Rattle.order_book.proofs.SameIdentities.{got-by, same-tables}
use Rattle.order_book.proofs.identities.Identities.reserve.Goals as goal

pub returns-in_err-reserve-2-clause-same : goal.returns-in_err-reserve-2-clause-same
returns-in_err-reserve-2-clause-same c =
    same-tables c.args.self.now (record { references = c.reserve.new.self; others = c.reserve-2.new.self })
    (λ q. sym (got-by c.reserve.new.self q) ∙ (c.reserve.ensures.entries.2 q ∙ got-by c.args.self.now.references q))
    (λ q. sym (got-by c.reserve-2.new.self q) ∙ (c.reserve-2.ensures.entries.2 q ∙ got-by c.args.self.now.others q))

pub returns-clause-same : goal.returns-clause-same
returns-clause-same c =
    same-tables c.args.self.now (record { references = c.reserve.new.self; others = c.reserve-2.new.self })
    (λ q. sym (got-by c.reserve.new.self q) ∙ (c.reserve.ensures.entries.2 q ∙ got-by c.args.self.now.references q))
    (λ q. sym (got-by c.reserve-2.new.self q) ∙ (c.reserve-2.ensures.entries.2 q ∙ got-by c.args.self.now.others q))
