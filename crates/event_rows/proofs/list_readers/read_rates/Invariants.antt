-- What was read so far and what is still read make all of it.
use Rattle.std.proofs.Common.{◌≡◌, ◌-◌}
use Rattle.event_rows.specs.FieldReading.{with_front, items_at}
use Rattle.event_rows.specs.Readers.{rate_at}
use Rattle.event_rows.proofs.list_readers.read_rates.Given as goal

abbrev pub invariant-loop : goal.invariant-loop
invariant-loop l = with_front l.rates (items_at rate_at (l.count - l.counter) l.row) ≡ items_at rate_at l.count l.fn.row
