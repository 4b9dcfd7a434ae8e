-- What was read, and what is still left of the object, are all of its members.
use Rattle.std.proofs.Common.{◌≡◌, ◌++◌, map}
use Rattle.serde_json.specs.View.{members_view}
use Rattle.agent_http.specs.Bodies.{members_in}
use Rattle.agent_http.specs.Views.{member_view}
use Rattle.agent_http.proofs.members.members_of.Given as goal

abbrev pub invariant-loop-name : goal.invariant-loop-name
invariant-loop-name l =
    map member_view l.members.items ++ members_in (members_view l.name-iterator) ≡ members_in (members_view l.object.entries)
