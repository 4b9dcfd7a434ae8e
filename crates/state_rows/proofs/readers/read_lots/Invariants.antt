-- What was read so far and what is still read make all of it.
use Rattle.std.proofs.Common.{◌≡◌, ◌-◌}
use Rattle.event_rows.specs.FieldReading.{with_front, items_at}
use Rattle.state_rows.specs.Reading.{lot_at}
use Rattle.state_rows.proofs.readers.read_lots.Given as goal

abbrev pub invariant-loop : goal.invariant-loop
invariant-loop l = with_front l.lots (items_at lot_at (l.count - l.counter) l.row) ≡ items_at lot_at l.count l.fn.row
