-- That `listed_prices` keeps its contract.
use Rattle.std.proofs.Common.{[], sym, ◌∙◌}
use Rattle.agent_events.specs.Fields.{each, identifier, list_items, nav, pair}
use Rattle.request_fields.proofs.ItemLists.{goes_on, stops}
use Rattle.request_fields.proofs.list_forms.listed_prices.Goals as goal

pub returns-in_default : goal.returns-in_default
returns-in_default c =
    stops (pair identifier nav) c.loop-item.prices c.deref-item-items.result.now c.loop-item.item-index (record { ref_ptr = (0, 0); now = [] }) (each (pair identifier nav) (list_items c.args.text.now))
    c.loop-item-test.true (sym c.price_of.ensures ∙ c.in_default.is) c.loop-item.invariant

pub loop-item-preserved : goal.loop-item-preserved
loop-item-preserved c =
    rw c.in_ok-push.ensures.ok (goes_on (pair identifier nav) c.loop-item.prices c.deref-item-items.result.now c.loop-item.item-index (record { ref_ptr = (0, 0); now = [] }) c.in-Some.price
    (each (pair identifier nav) (list_items c.args.text.now)) c.loop-item-test.true (sym c.price_of.ensures ∙ c.in-Some.is) c.loop-item.invariant)
