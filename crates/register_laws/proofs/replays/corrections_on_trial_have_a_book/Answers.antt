-- That `corrections_on_trial_have_a_book` keeps its contract.
use Rattle.register_laws.proofs.TriedCorrections.{many-tried, names-tried, numbered-tried}
use Rattle.register_laws.proofs.replays.corrections_on_trial_have_a_book.Goals as goal
use Rattle.register_laws.proofs.ExecutedInTurn.{orders_in_turn}
use Rattle.register_machine.specs.journal.Journals.{with_event}

pub returns : goal.returns
returns c journal event lawful tried = record {
  numbered = numbered-tried journal event lawful tried;
  as_many = many-tried journal event lawful tried;
  names = names-tried journal event lawful tried;
  turns = (orders_in_turn (with_event journal event)).each;
}
