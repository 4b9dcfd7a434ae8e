-- That `json_body` keeps its contract.
use Rattle.std.proofs.Common.{◌≡◌, ◌∙◌, ap, subst}
use Rattle.std.specs.Prelude.{IfOk}
use Rattle.serde_json.specs.Data.{Members, object}
use Rattle.serde_json.specs.Written.{compact_text}
use Rattle.agent_http.specs.ReplyBodies.{without_ok}
use Rattle.agent_http.specs.Members.{members_at}
use Rattle.agent_http.proofs.ObjectLaws.{same-members}
use Rattle.agent_http.proofs.bodies.json_body.Goals as goal

pub returns : goal.returns
returns c =
    let P : Members → Type 0 = λ members. IfOk c.object_text.result (λ body. body.items ≡ compact_text (object members)) in
    subst P (ap (λ members. members_at members c.without_ok.result.now) c.members_of.ensures
    ∙ (ap (members_at _) (c.without_ok.ensures ∙ ap without_ok (c.as_slice.ensures ∙ c.in_ok-fields.ensures)) ∙ same-members c.args.reply.now)) c.object_text.ensures
