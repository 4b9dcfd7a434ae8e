-- That `put_first` keeps its contract.
use Rattle.std.proofs.Common.{ap, arith, ◌∙◌}
use Rattle.std.specs.HashMap.{get}
use Rattle.std.specs.HashMap.Entry.{map_with_value}
use Rattle.std.specs.Option.{unwrap_or}
use Rattle.order_book.proofs.Names.{one-name}
use Rattle.order_book.proofs.Places.{put-or-kept}
use Rattle.order_book.specs.Orders.{same_name}
use Rattle.order_book.proofs.order_index.put_first.Goals as goal

pub returns-clause-places : goal.returns-clause-places
returns-clause-places c =
    let update = rw c.unwrap.ensures at c.entry-entry.ensures.update in
    let value = rw c.unwrap.ensures at c.entry-entry.ensures.value in
    let kept = c.or_insert-kept.result.now in
    let entered = put-or-kept same_name one-name (get same_name c.args.places.now)
    (get same_name (map_with_value c.unwrap.result kept)) c.args.name c.args.place kept
    (c.or_insert-kept.ensures.value ∙ ap (λ found. unwrap_or found c.args.place) value) (update.0 kept).0 in
    λ q. grind (arith, entered q)
