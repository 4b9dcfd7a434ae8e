-- The replay of one household from the start that is kept of it, by its late orders.
use Rattle.std.proofs.Common.{List, Some, [], subst, sym, ℕ, ◌-◌, ◌∷◌, ◌≡◌}
use Rattle.agent_events.specs.Events.{Event}
use Rattle.checkpoint_replay.proofs.ReopenedDay.{AreTheLateOnes, late-day, ready-late}
use Rattle.checkpoint_replay.specs.Moves.{part_after}
use Rattle.checkpoint_replay.specs.Parts.{first_day, part_in}
use Rattle.checkpoint_replay.specs.Reopenings.{IsReplayedTo, move_by_replay}
use Rattle.checkpoint_replay.specs.declared.change.HouseholdMove.{HouseholdMove}
use Rattle.desk_books.proofs.StartsServe.{Serves, start_serves}
use Rattle.desk_books.proofs.TrialSteps.{all_rows, can_reopen, late_rows, own_rows}
use Rattle.desk_books.specs.Reopened.{IsTriedOver}
use Rattle.desk_books.specs.Starts.{LeavesBefore, start_by}
use Rattle.desk_books.specs.declared.starts.KeptStart.{KeptStart}
use Rattle.desk_books.specs.declared.books.DeskBooks.{DeskBooks}
use Rattle.household_fold.specs.Facts.{Known}
use Rattle.household_fold.specs.Households.{first_of}
use Rattle.checkpoint_replay.specs.Premises.{CanBeReplayed}
use Rattle.checkpoint_replay.specs.Replays.{NumberedOrder, days_behind}
use Rattle.checkpoint_replay.specs.KeptStates.{last_before, states_in}
use Rattle.standing_orders.specs.Priced.{AreOwnOnTrial}

module _ (books : DeskBooks) (event : Event) (known : Known) (household before : ℕ) (start : KeptStart) (late : List NumberedOrder)
    (is : IsTriedOver books event known) (leaves : LeavesBefore books.book.journal event before)
    (at : start ≡ start_by household (last_before before (states_in books.kept household)))
    (own : AreOwnOnTrial books.book.journal (Some event) books.prices.table.sheets books.orders.owners household start.orders late) where
  pub serves : Serves known books.book.journal event (all_rows books event household) (part_in books.ledger.parts household).trades household start
  serves = start_serves books event known household before (all_rows books event household) start is (own_rows books event known household is) leaves at

  replayed : IsReplayedTo known (all_rows books event household) start.replay (part_in books.ledger.parts start.replay.household).trades
  replayed = subst (λ number. IsReplayedTo known (all_rows books event household) start.replay (part_in books.ledger.parts number).trades) (sym serves.own) serves.replayed

  lates : AreTheLateOnes known (all_rows books event household) late start.replay
  lates = late_rows books event known household start.orders start.replay late is own serves.settled

  pub ready : CanBeReplayed known start.replay.household late start.replay.sheet (known.sheet - start.replay.sheet) (first_of start.replay.state.register)
  ready =
      ready-late known (all_rows books event household) late start.replay (part_in books.ledger.parts start.replay.household).trades serves.begin replayed lates
      (subst (λ number. CanBeReplayed known number (all_rows books event household) 0 known.sheet first_day) (sym serves.own) (can_reopen books event known household is))

  pub day : (moves : List HouseholdMove) → moves ≡ move_by_replay known late start.replay ∷ [] → part_after moves books.ledger.parts household ≡ days_behind known (all_rows books event household) 0 known.sheet first_day
  day moves only =
      subst (λ number. part_after moves books.ledger.parts number ≡ days_behind known (all_rows books event household) 0 known.sheet first_day) serves.own
      (late-day known (all_rows books event household) late books.ledger.parts start.replay serves.begin replayed lates moves only)
