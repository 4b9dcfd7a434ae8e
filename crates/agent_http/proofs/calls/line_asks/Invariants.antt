-- What holds at each turn of the loops of `line_asks`.
use Rattle.std.proofs.Common.{◌≡◌, map, take}
use Rattle.agent_events.specs.Items.{batch_line}
use Rattle.agent_http.proofs.calls.line_asks.Given as goal

abbrev pub invariant-loop-row : goal.invariant-loop-row
invariant-loop-row l = l.asks ≡ map batch_line (take l.row-index l.rows)
