-- That `is_among` keeps its contract.
use Rattle.std.proofs.Common.{◌∙◌, sym}
use Rattle.std.specs.Prelude.{bytes_eq}
use Rattle.agent_http.proofs.MemberLaws.{list_any-map}
use Rattle.agent_http.proofs.members.is_among.Goals as goal

pub returns : goal.returns
returns c = c.is_one_of.ensures ∙ sym (list_any-map (bytes_eq c.args.text.now) (λ name. name.now) c.args.names.now)
