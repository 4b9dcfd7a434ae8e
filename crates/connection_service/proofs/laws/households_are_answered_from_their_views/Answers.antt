-- The proof of the law `households_are_answered_from_their_views`.
use Rattle.std.proofs.Common.{ap, max, subst}
use Rattle.connection_service.proofs.laws.households_are_answered_from_their_views.Goals as goal
use Rattle.connection_service.specs.Answers.{AnswersBy, Gets, IsAnswered, Said, said_once, said_to_request}
use Rattle.agent_http.specs.Calls.{item_key}
use Rattle.register_machine.specs.journal.Journals.{last_moment}

pub returns : goal.returns
returns c operator item request household last old bytes new lawful short asks own answers =
    let is : IsAnswered operator (item_key item) last (said_to_request last request) old bytes new =
    subst (λ answer. AnswersBy operator (item_key item) last answer old bytes new) asks answers in
    record {
      reading = is.reading;
      read = is.read;
      gets = subst (λ (said : Said). Gets last said old.kept bytes new.kept)
          (ap (said_once last)
          (c.households_are_isolated.ensures old.kept.journal household lawful short operator (item_key item) (max is.reading (last_moment old.kept.journal)) request own))
          is.gets;
    }
