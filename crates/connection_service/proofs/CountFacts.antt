-- The links' count behind a text that was written.
use Rattle.std.proofs.Common.{Err, OnErr, OnOk, Ok, Result, ℕ, ◌≡◌}
use Rattle.agent_edge.specs.Counts.{Rose}
use Rattle.agent_edge.specs.declared.doors.LinkFault.{LinkFault}
use Rattle.connection_service.specs.Serving.{CountsGoing, going_on, going_over}

pub counts-on : (written : Result Unit LinkFault) (before now : ℕ) → OnErr written (Rose before now) → OnOk written (now ≡ before) → CountsGoing (going_on written) before now
counts-on (Ok done) before now fault same = same
counts-on (Err e) before now fault same = fault

pub counts-over : (written : Result Unit LinkFault) (before now : ℕ) → OnErr written (Rose before now) → OnOk written (now ≡ before) → CountsGoing (going_over written) before now
counts-over (Ok done) before now fault same = same
counts-over (Err e) before now fault same = fault
