-- That `Identities::put` keeps its contract.
use Rattle.std.proofs.Common.{None, Option, Some, ap, cond, not, sym, ◌∙◌, ℕ}
use Rattle.std.specs.HashMap.{get}
use Rattle.std.specs.Option.{option_or}
use Rattle.order_book.proofs.SameIdentities.{put-apart, turned}
use Rattle.order_book.specs.Brought.{same_identity}
use Rattle.order_book.specs.Indexes.{is_reference}
use Rattle.order_book.proofs.identities.Identities.put.Goals as goal

pub returns-then-is_reference-clause-places : goal.returns-then-is_reference-clause-places
returns-then-is_reference-clause-places c =
    let old = c.args.self.now in
    put-apart is_reference (get same_identity old.references) (get same_identity c.put_first.new.places) (get same_identity old.others)
    c.args.identity c.args.place (sym c.is_reference.ensures ∙ c.if-is_reference.true) c.put_first.ensures.places

pub returns-else-is_reference-clause-places : goal.returns-else-is_reference-clause-places
returns-else-is_reference-clause-places c = λ q.
    let old = c.args.self.now in
    sym (turned (is_reference q) (get same_identity c.put_first-else-is_reference.new.places q) (get same_identity old.references q))
    ∙ (put-apart (λ q. not (is_reference q)) (get same_identity old.others) (get same_identity c.put_first-else-is_reference.new.places) (get same_identity old.references)
    c.args.identity c.args.place (ap not (sym c.is_reference.ensures ∙ c.if-is_reference.false)) c.put_first-else-is_reference.ensures.places q
    ∙ ap (λ (found : Option ℕ). option_or found (cond (same_identity c.args.identity q) (Some c.args.place) None)) (turned (is_reference q) (get same_identity old.others q) (get same_identity old.references q)))
