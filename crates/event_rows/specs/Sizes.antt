-- How much an event holds besides its numbers: the bytes of its texts and the items of its lists.
use Rattle.std.specs.Prelude.{ℕ, ◌+◌, length}
use Rattle.agent_events.specs.declared.event.EventKind.{EventKind}

abbrev pub content_size : EventKind → ℕ
content_size (EventKind.Calendar form) = length form.zone + length form.holidays
content_size (EventKind.Class form) = length form.name + (length form.front + length form.deferred)
content_size (EventKind.Dealer form) = length form.key
content_size (EventKind.Household form) = length form.key
content_size (EventKind.Account form) = length form.name
content_size (EventKind.Sheet form) = length form.prices
content_size kind = 0
