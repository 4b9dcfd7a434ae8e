-- The proof of the law `refusals_append_nothing`.
use Rattle.std.proofs.Common.{[], refl, ◌≡◌}
use Rattle.agent_events.specs.declared.reply.Reply.{Reply}
use Rattle.register_machine.specs.rules.Situations.{event_at}
use Rattle.register_laws.proofs.AnswersByCases.{each-answer, no_refusal}
use Rattle.register_laws.proofs.machine_laws.refusals_append_nothing.Goals as goal

pub returns : goal.returns
returns c situation request refusal =
    each-answer (λ said. said.reply ≡ Reply.Refused refusal → said.events ≡ []) situation request (λ reply e. refl)
    (λ kind e refused. absurd (no_refusal situation (event_at situation kind) kind refusal refused))
