-- What holds at each turn of the loops of `member_named`.
use Rattle.std.proofs.Common.{◌≡◌, map, take}
use Rattle.std.specs.Prelude.{option_map}
use Rattle.agent_events.specs.JsonForms.{member_named}
use Rattle.agent_http.specs.Views.{member_view}
use Rattle.agent_http.proofs.members.member_named.Given as goal

abbrev pub invariant-loop-member : goal.invariant-loop-member
invariant-loop-member l =
    option_map (λ member. member_view member.now) l.found ≡ member_named (map member_view (take l.member-index l.members)) l.name
