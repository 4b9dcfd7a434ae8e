-- The totals of a ledger, and by how much they differ between two.
use Rattle.std.specs.Prelude.{All, List, filter, is_some, pos, true, ℕ, ◌≡◌}
use Rattle.agent_events.specs.declared.order.OrderRow.{OrderRow}
use Rattle.agent_events.specs.declared.order.Party.{Party}
use Rattle.agent_events.specs.declared.totals.Changes.{Changes}
use Rattle.checkpoint_replay.specs.Differences.{AreChangesOf}
use Rattle.checkpoint_replay.specs.Moves.{AreApart, part_after}
use Rattle.checkpoint_replay.specs.Parts.{Households, part_in}
use Rattle.checkpoint_replay.specs.Tallied.{IsTallied}
use Rattle.checkpoint_replay.specs.Totals.{cents_held, mils_held}
use Rattle.checkpoint_replay.specs.declared.change.HouseholdMove.{HouseholdMove}
use Rattle.checkpoint_replay.specs.declared.part.HouseholdPart.{HouseholdPart}
use Rattle.gain_loss_book.specs.Booked.{AreDifferences}
use Rattle.ledger_laws.specs.Ledgers.{IsLedgerOf}
use Rattle.register_laws.specs.Lawful.{book_behind}
use Rattle.register_laws.specs.Trades.{IsOrderly}
use Rattle.register_machine.specs.corrections.Cash.{cash_of, outstanding}
use Rattle.register_machine.specs.journal.Journals.{Journal}
use Rattle.register_machine.specs.journal.Kinds.{household_of}
use Rattle.register_machine.specs.journal.Lawful.{IsLawful}
use Rattle.register_machine.specs.pricing.CorrectedBook.{Book}
use Rattle.register_machine.specs.pricing.CorrectedOrders.{stands}
use Rattle.register_machine.specs.replay.Replay.{replay}

-- ---- Books whose trades are all of some household.

-- the account of the order is one of a household
abbrev pub IsOfAHousehold : Book → OrderRow → Type 0
IsOfAHousehold book row = is_some (household_of book.accounts row.order.account) ≡ true

-- An orderly book with standing orders of households alone, as that of a lawful journal is.
pub record IsOfHouseholds (book : Book) : Type 0 where
  pub orderly : IsOrderly book
  pub owned : All (IsOfAHousehold book) (filter stands book.orders)

abbrev pub LawfulIsOfHouseholds : Journal → Type 0
LawfulIsOfHouseholds journal = IsLawful journal → IsOfHouseholds (book_behind journal)

-- ---- Totals.

-- The totals are those of the whole replay: the outstanding mils of each class, and the cash of each party by all trades.
pub record HasTotalsOf (ledger : Households) (book : Book) : Type 0 where
  pub mils : (class : ℕ) → mils_held ledger.totals class ≡ pos (outstanding (replay book).register class)
  pub cash : (party : Party) → cents_held ledger.totals party ≡ cash_of (replay book).trades party

-- So it is in a ledger whose totals are the sums over its trades.
abbrev pub TalliedHasTotals : Households → Book → Type 0
TalliedHasTotals ledger book =
    IsOfHouseholds book → IsTallied ledger → IsLedgerOf book ledger.parts → HasTotalsOf ledger book

-- ---- Differences.

-- Moves that make of a ledger of one book a ledger of another differ by what differs between the two replays.
pub record MovesLedger (before after : Book) (parts new : List (ℕ × HouseholdPart)) (moves : List HouseholdMove) : Type 0 where
  pub from : IsLedgerOf before parts
  pub to : IsLedgerOf after new
  pub apart : AreApart moves
  pub moved : (household : ℕ) → part_in new household ≡ part_after moves parts household

abbrev pub ChangesAreDifferences : Changes → Book → Book → List (ℕ × HouseholdPart) → List (ℕ × HouseholdPart) → List HouseholdMove → Type 0
ChangesAreDifferences changes before after parts new moves =
    IsOfHouseholds before → IsOfHouseholds after → MovesLedger before after parts new moves
    → AreChangesOf changes parts moves → AreDifferences changes (replay before) (replay after)
