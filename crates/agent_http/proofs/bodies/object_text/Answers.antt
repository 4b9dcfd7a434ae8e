-- That `object_text` keeps its contract.
use Rattle.agent_http.proofs.ObjectLaws.{object-written}
use Rattle.agent_http.proofs.bodies.object_text.Goals as goal

pub returns : goal.returns
returns c =
    object-written (λ member. (member.0.now, member.1)) c.args.members.now c.args.texts.now _ _ _ _ _ _ _ _ _ _ c.in_ok-with_capacity.ensures.items c.new-out.ensures.before
    c.in_ok-begin_object.ensures.room.0 c.in_ok-write_members.ensures.before c.in_ok-end_object.ensures.room.0 c.new-out.ensures.tokens c.in_ok-begin_object.ensures.ok
    c.in_ok-write_members.ensures.tokens c.in_ok-end_object.ensures.ok c.into_inner.ensures.items
