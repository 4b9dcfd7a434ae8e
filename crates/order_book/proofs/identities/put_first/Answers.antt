-- That `put_first` keeps its contract.
use Rattle.std.proofs.Common.{ap, arith, ◌∙◌}
use Rattle.std.specs.HashMap.Entry.{map_with_value}
use Rattle.std.specs.Option.{unwrap_or}
use Rattle.order_book.proofs.SameIdentities.{place-entered}
use Rattle.order_book.proofs.identities.put_first.Goals as goal

pub returns-clause-places : goal.returns-clause-places
returns-clause-places c =
    let update = rw c.unwrap.ensures at c.entry-entry.ensures.update in
    let value = rw c.unwrap.ensures at c.entry-entry.ensures.value in
    let kept = c.or_insert-kept.result.now in
    let entered = place-entered c.args.places.now (map_with_value c.unwrap.result kept) c.args.identity
    c.args.place kept
    (c.or_insert-kept.ensures.value ∙ ap (λ found. unwrap_or found c.args.place) value) (update.0 kept) in
    λ q. grind (arith, entered q)
