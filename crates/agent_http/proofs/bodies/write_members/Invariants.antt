-- The members so far are written.
use Rattle.std.proofs.Common.{◌≡◌, ◌++◌, flat_map, slice_get, take}
use Rattle.agent_http.specs.Members.{member_tokens}
use Rattle.agent_http.proofs.bodies.write_members.Given as goal

abbrev pub invariant-loop-member : goal.invariant-loop-member
invariant-loop-member l = record {
  tokens : l.out.tokens ≡ l.fn.out.tokens ++ flat_map (λ member. member_tokens member.0.now (slice_get l.texts member.1)) (take l.member-index l.members);
  before : l.out.before ≡ l.fn.out.before;
}
