-- What is gathered, in front of what is still read, is the whole list.
use Rattle.std.proofs.Common.{◌≡◌, drop, map}
use Rattle.agent_events.specs.Fields.{each, list_items}
use Rattle.fund_calendar.specs.DayText.{read_day}
use Rattle.request_fields.proofs.ItemLists.{with_front}
use Rattle.request_fields.proofs.list_forms.listed_days.Given as goal

abbrev pub invariant-loop-item : goal.invariant-loop-item
invariant-loop-item l =
    with_front l.days (each read_day (drop l.item-index (map (λ item. item.now) l.item-items))) ≡ each read_day (list_items l.text)
