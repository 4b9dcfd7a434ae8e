-- That `listed_days` keeps its contract.
use Rattle.std.proofs.Common.{[], sym, ◌∙◌}
use Rattle.agent_events.specs.Fields.{each, list_items}
use Rattle.fund_calendar.specs.DayText.{read_day}
use Rattle.request_fields.proofs.ItemLists.{goes_on, stops}
use Rattle.request_fields.proofs.list_forms.listed_days.Goals as goal

pub returns-in_default : goal.returns-in_default
returns-in_default c =
    stops read_day c.loop-item.days c.deref-item-items.result.now c.loop-item.item-index (record { ref_ptr = (0, 0); now = [] }) (each read_day (list_items c.args.text.now))
    c.loop-item-test.true (sym c.read_day.ensures ∙ c.in_default.is) c.loop-item.invariant

pub loop-item-preserved : goal.loop-item-preserved
loop-item-preserved c =
    rw c.in_ok-push.ensures.ok (goes_on read_day c.loop-item.days c.deref-item-items.result.now c.loop-item.item-index (record { ref_ptr = (0, 0); now = [] }) c.in-Some.day
    (each read_day (list_items c.args.text.now)) c.loop-item-test.true (sym c.read_day.ensures ∙ c.in-Some.is) c.loop-item.invariant)
