-- The proof of the law `households_are_replayed_in_their_views`.
use Rattle.std.proofs.Common.{ap, sym, take, ◌∙◌}
use Rattle.register_laws.proofs.ViewBooks.{part-in-view, view-sheets, whole_in_view}
use Rattle.register_laws.proofs.household_laws.households_are_replayed_in_their_views.Goals as goal
use Rattle.register_laws.specs.Lawful.{book_behind}
use Rattle.register_machine.specs.journal.Views.{view}
use Rattle.register_machine.specs.replay.Replay.{replay_over}

pub returns : goal.returns
returns c journal household lawful = record {
  whole = whole_in_view journal household lawful;
  up_to = λ number.
      part-in-view journal household lawful (take number (book_behind journal).table.sheets)
      ∙ ap (λ sheets. replay_over (book_behind (view household journal)) (take number sheets)) (sym (view-sheets journal household));
}
