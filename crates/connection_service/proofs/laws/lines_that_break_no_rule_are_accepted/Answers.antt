-- The proof of the law `lines_that_break_no_rule_are_accepted`.
use Rattle.std.proofs.Common.{[], ◌∷◌}
use Rattle.std.proofs.lemmas.List.Sums.{fold-append}
use Rattle.std.specs.Prelude.{Ok}
use Rattle.connection_service.proofs.laws.lines_that_break_no_rule_are_accepted.Goals as goal
use Rattle.connection_service.specs.Requests.{situation_of_line}
use Rattle.register_machine.specs.run.Batches.{batch_after_line}

pub returns : goal.returns
returns c situation front request = record {
  said = fold-append (batch_after_line situation) (record { replies = []; events = [] }) front (Ok request ∷ []);
  refused = c.requests_are_refused_by_the_first_rule_broken.ensures (situation_of_line situation front) request;
  brings = c.requests_that_break_no_rule_bring_their_event.ensures (situation_of_line situation front) request;
}
