-- That `put_by_number` keeps its contract.
use Rattle.std.proofs.Common.{rules}
use Rattle.std.proofs.lemmas.List.Sorted.{IsNonDecreasingBy-from_sort_by_key, answers_always}
use Rattle.standing_orders.proofs.SortedEntries.{sorted-under}
use Rattle.standing_orders.specs.declared.entries.NumberedRow.{NumberedRow}
use Rattle.standing_orders.proofs.entries.put_by_number.Goals as goal

pub returns-clause-same : goal.returns-clause-same
returns-clause-same c = λ number.
    sorted-under _ _ (c.sort_by_key.ensures.stable (λ (entry : NumberedRow). entry.number) (answers_always _ _ _ (λ f a r g h. search rules))) number

pub returns-clause-rising : goal.returns-clause-rising
returns-clause-rising c =
    IsNonDecreasingBy-from_sort_by_key (λ (entry : NumberedRow). entry.number) _ c.in_ok-sort_by_key.ensures.sorted (λ a r q k. search rules)
