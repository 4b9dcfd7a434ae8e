-- That `put_in_turn` keeps its contract.
use Rattle.std.proofs.Common.{rules}
use Rattle.std.proofs.lemmas.List.Sorted.{answers_always}
use Rattle.standing_orders.proofs.SortedEntries.{receipt_in, sorted-turn}
use Rattle.standing_orders.proofs.entries.put_in_turn.Goals as goal

pub returns-clause-turn : goal.returns-clause-turn
returns-clause-turn c =
    sorted-turn _ _ (c.in_ok-sort_by_key.ensures.sorted receipt_in (answers_always _ _ _ (λ f a r g h. search rules)))
    (c.sort_by_key.ensures.stable receipt_in (answers_always _ _ _ (λ f a r g h. search rules)))
