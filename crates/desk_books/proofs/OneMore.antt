-- What the replay of one household makes.
use Rattle.std.proofs.Common.{Err, List, Ok, Result, [], ap, sym, ℕ, ◌∙◌, ◌∷◌, ◌≡◌}
use Rattle.std.specs.Prelude.{IfOk}
use Rattle.agent_events.specs.Events.{Event}
use Rattle.checkpoint_replay.specs.Moves.{part_after}
use Rattle.checkpoint_replay.specs.Parts.{first_day}
use Rattle.checkpoint_replay.specs.Reopenings.{move_by_replay}
use Rattle.checkpoint_replay.specs.declared.change.HouseholdMove.{HouseholdMove}
use Rattle.checkpoint_replay.specs.declared.reopening.ReplayStart.{ReplayStart}
use Rattle.desk_books.specs.Reopened.{IsOneMore}
use Rattle.desk_books.specs.declared.books.DeskBooks.{DeskBooks}
use Rattle.ledger_laws.specs.PartsByFacts.{AreRowsOf}
use Rattle.household_fold.specs.Facts.{Known}
use Rattle.checkpoint_replay.specs.Replays.{NumberedOrder, days_behind}
use Rattle.register_laws.specs.Lawful.{book_behind}
use Rattle.register_machine.specs.journal.Journals.{with_event}

pub one_more : {E : Type 0} (books : DeskBooks) (event : Event) (known : Known) (household : ℕ) (rows late : List NumberedOrder) (start : ReplayStart) (made : Result HouseholdMove E) → AreRowsOf rows (book_behind (with_event books.book.journal event)) household → start.household ≡ household → part_after (move_by_replay known late start ∷ []) books.ledger.parts household ≡ days_behind known rows 0 known.sheet first_day → IfOk made (λ moved. moved ≡ move_by_replay known late start) → IfOk made (IsOneMore books event known household)
one_more books event known household rows late start (Ok moved) orders own day is = record {
  rows = rows;
  orders = orders;
  only = ap (λ (change : HouseholdMove). change.household) is ∙ own;
  own = ap (λ (change : HouseholdMove). change.state.number) is ∙ sym (ap (λ (change : HouseholdMove). change.household) is);
  day = ap (λ (change : HouseholdMove). part_after (change ∷ []) books.ledger.parts household) is ∙ day;
}
one_more books event known household rows late start (Err e) orders own day is = tt
