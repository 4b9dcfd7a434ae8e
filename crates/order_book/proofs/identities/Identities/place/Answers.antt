-- That `Identities::place` keeps its contract.
use Rattle.std.proofs.Common.{ap, cond, sym, ◌∙◌}
use Rattle.std.specs.HashMap.{get}
use Rattle.order_book.proofs.SameIdentities.{got-by}
use Rattle.order_book.specs.Brought.{same_identity}
use Rattle.order_book.specs.Indexes.{is_reference}
use Rattle.order_book.proofs.identities.Identities.place.Goals as goal

pub returns-then-is_reference : goal.returns-then-is_reference
returns-then-is_reference c =
    let s = c.args.self.now in
    let q = c.args.identity in
    (c.copied.ensures ∙ (c.get.ensures.value ∙ got-by s.references q))
    ∙ ap (λ is. cond is (get same_identity s.references q) (get same_identity s.others q)) (sym (sym c.is_reference.ensures ∙ c.if-is_reference.true))

pub returns-else-is_reference : goal.returns-else-is_reference
returns-else-is_reference c =
    let s = c.args.self.now in
    let q = c.args.identity in
    (c.copied-else-is_reference.ensures ∙ (c.get-else-is_reference.ensures.value ∙ got-by s.others q))
    ∙ ap (λ is. cond is (get same_identity s.references q) (get same_identity s.others q)) (sym (sym c.is_reference.ensures ∙ c.if-is_reference.false))
