-- What is gathered, in front of what is still read, is the whole list.
use Rattle.std.proofs.Common.{◌≡◌, drop, map}
use Rattle.agent_events.specs.Fields.{each, identifier, list_items, nav, pair}
use Rattle.request_fields.proofs.ItemLists.{with_front}
use Rattle.request_fields.proofs.list_forms.listed_prices.Given as goal

abbrev pub invariant-loop-item : goal.invariant-loop-item
invariant-loop-item l =
    with_front l.prices (each (pair identifier nav) (drop l.item-index (map (λ item. item.now) l.item-items))) ≡ each (pair identifier nav) (list_items l.text)
