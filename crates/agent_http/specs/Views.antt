-- A member as the definitions see it.
use Rattle.std.specs.Prelude.{ℕ, List, Option, Some, None}
use Rattle.agent_events.specs.JsonForms.{Member}
use Rattle.agent_http.specs.declared.members.MemberText.{MemberText}
use Rattle.agent_http.specs.declared.members.ValueText.{ValueText}

abbrev pub text_view : ValueText → Option (List ℕ)
text_view ValueText.Missing = None
text_view (ValueText.Number digits) = Some digits
text_view (ValueText.String text) = Some text.now

abbrev pub member_view : MemberText → Member
member_view member = record { name = member.name.now; text = text_view member.text }
