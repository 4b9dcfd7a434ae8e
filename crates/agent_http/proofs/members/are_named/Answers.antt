-- That `are_named` keeps its contract.
use Rattle.std.proofs.Common.{◌∙◌, map, sym}
use Rattle.std.specs.Prelude.{bytes_eq}
use Rattle.std.specs.List.{list_any}
use Rattle.std.proofs.lemmas.List.Folds.{list_all-map}
use Rattle.agent_events.specs.JsonForms.{Member}
use Rattle.agent_http.specs.Views.{member_view}
use Rattle.agent_http.proofs.members.are_named.Goals as goal

pub returns : goal.returns
returns c =
    c.all_among.ensures
    ∙ sym (list_all-map (λ (member : Member). list_any (bytes_eq member.name) (map (λ name. name.now) c.args.names.now)) member_view c.args.members.now)
