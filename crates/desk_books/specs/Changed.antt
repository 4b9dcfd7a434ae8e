-- What the trial makes of the ledger.
use Rattle.std.specs.Prelude.{List, Some, ℕ, ◌≡◌, ◌≤◌}
use Rattle.std.specs.List.Sorted.{IsStrictlyIncreasing}
use Rattle.agent_events.specs.Events.{Event}
use Rattle.agent_events.specs.declared.order.Bearer.{Bearer}
use Rattle.agent_events.specs.declared.reply_lists.ClassGain.{ClassGain}
use Rattle.agent_events.specs.declared.totals.Changes.{Changes}
use Rattle.checkpoint_replay.specs.Differences.{AreChangesOf}
use Rattle.checkpoint_replay.specs.Moves.{Moves}
use Rattle.checkpoint_replay.specs.declared.change.HouseholdMove.{HouseholdMove}
use Rattle.checkpoint_replay.specs.declared.part.HouseholdPart.{HouseholdPart}
use Rattle.desk_books.specs.declared.correction_trial.Tried.{Tried}
use Rattle.desk_books.specs.declared.change.LedgerChange.{LedgerChange}
use Rattle.forward_price.specs.declared.price_sheet.Sheet.{Sheet}
use Rattle.gain_loss_book.specs.ClassGains.{HasChanged, gains_in, most_mils, size_of_mils}
use Rattle.gain_loss_book.specs.Posted.{most_cash, most_gains, size_of_cash, size_of_gains}
use Rattle.register_machine.specs.corrections.Payments.{bearer_in}

-- the gains of these changes over any rising list of classes among which are all that change
abbrev pub AreGainsOf : Changes → List Sheet → List ClassGain → Type 0
AreGainsOf changes sheets gains =
    (classes : List ℕ) → IsStrictlyIncreasing classes → HasChanged classes changes
    → gains ≡ gains_in changes sheets classes

-- They are within the limits of a post.
pub record AreWithin (changes : Changes) (gains : List ClassGain) : Type 0 where
  pub cash : size_of_cash changes.cash ≤ most_cash
  pub mils : size_of_mils changes.outstanding ≤ most_mils
  pub gains_fit : size_of_gains gains ≤ most_gains

-- the change with its gains, which this one bears
abbrev pub change_with : Moves → Bearer → List ClassGain → LedgerChange
change_with change bearer gains =
    record { change = change; correction = Some (record { bearer = bearer; gains = gains }) }

-- It is so, with gains of the changes over these sheets, within the limits.
pub record IsChangeWith (change : Moves) (bearer : Bearer) (sheets : List Sheet) (moved : LedgerChange) : Type 0 where
  pub gains : List ClassGain
  pub made : moved ≡ change_with change bearer gains
  pub are : AreGainsOf change.changes sheets gains
  pub within : AreWithin change.changes gains

-- what the trial then says
abbrev pub IsMovedWith : Moves → Bearer → List Sheet → Tried → Type 0
IsMovedWith change bearer sheets tried =
    (moved : LedgerChange) × IsChangeWith change bearer sheets moved × (tried ≡ Tried.Moves moved)

-- A change of these moves, with what they change.
pub record IsMadeOf (parts : List (ℕ × HouseholdPart)) (moves : List HouseholdMove) (made : Moves) : Type 0 where
  pub moves_are : made.moves ≡ moves
  pub differences : AreChangesOf made.changes parts made.moves

-- so it is said of the event
pub record AreMovesOf (event : Event) (sheets : List Sheet) (parts : List (ℕ × HouseholdPart)) (moves : List HouseholdMove) (tried : Tried) : Type 0 where
  pub made : Moves
  pub of : IsMadeOf parts moves made
  pub bearer : Bearer
  pub bears : bearer_in event.kind ≡ Some bearer
  pub gained : IsMovedWith made bearer sheets tried
