-- These members were read so far.
use Rattle.std.proofs.Common.{length, map}
use Rattle.agent_http.specs.Views.{member_view}
use Rattle.agent_http.proofs.FlatReads.{IsRead}
use Rattle.agent_http.proofs.flat.members_behind.Given as goal

abbrev pub invariant-turns : goal.invariant-turns
invariant-turns l = IsRead l.fn.reader l.reader (map member_view l.members.items)

abbrev pub decreases-turns : goal.decreases-turns
decreases-turns l = length l.reader
