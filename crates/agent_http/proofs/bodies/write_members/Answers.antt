-- That `write_members` keeps its contract.
use Rattle.std.proofs.Common.{◌∙◌, ap, slice_get}
use Rattle.agent_http.specs.Members.{member_tokens}
use Rattle.agent_http.proofs.ObjectLaws.{found-at, written-more}
use Rattle.agent_http.proofs.bodies.write_members.Goals as goal

pub loop-member-preserved : goal.loop-member-preserved
loop-member-preserved c = record {
  tokens =
      written-more (λ member. member_tokens member.0.now (slice_get c.args.texts.now member.1)) _ _ _ _ c.args.members.now c.loop-member.member-index _ c.loop-member-test.true
      c.loop-member.invariant.tokens c.in_ok-write_member.ensures.tokens (ap (member_tokens _) (found-at c.args.texts.now _ c.get.result c.get.ensures.lookup));
  before = c.in_ok-write_member.ensures.before ∙ c.loop-member.invariant.before;
}
