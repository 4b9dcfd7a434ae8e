-- What holds at each turn of the loops of `texts_named`.
use Rattle.std.proofs.Common.{◌≡◌, map, take}
use Rattle.agent_events.specs.JsonForms.{texts_named}
use Rattle.agent_http.specs.Views.{member_view}
use Rattle.agent_http.proofs.body.texts_named.Given as goal

abbrev pub invariant-loop-name : goal.invariant-loop-name
invariant-loop-name l =
    map (λ text. text.now) l.texts.items ≡ texts_named (map member_view l.members) (map (λ name. name.now) (take l.name-index l.names))
