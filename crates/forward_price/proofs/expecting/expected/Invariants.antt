-- What holds at each turn of the loops of `expected`.
use Rattle.std.proofs.Common.{take}
use Rattle.forward_price.specs.Choices.{IsChoice}
use Rattle.forward_price.specs.Turns.{is_awaited, is_sooner, pricing_pairs}
use Rattle.forward_price.proofs.expecting.expected.Given as goal

abbrev pub invariant-loop-calendar : goal.invariant-loop-calendar
invariant-loop-calendar l =
    IsChoice (is_awaited l.classes l.sheets) is_sooner (pricing_pairs (take l.calendar-index l.calendars)) l.found
