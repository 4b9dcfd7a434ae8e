-- What holds of a correction on trial before it is known whether it breaks an order.
use Rattle.std.specs.Prelude.{Some, is_some, true, ◌≡◌}
use Rattle.agent_events.specs.Events.{Event}
use Rattle.agent_events.specs.declared.event.EventKind.{EventKind}
use Rattle.agent_events.specs.declared.order.Order.{Order}
use Rattle.desk_books.specs.CorrectionTrials.{IsFresh}
use Rattle.register_laws.specs.EventReplays.{is_correction}
use Rattle.register_laws.specs.TriedCorrections.{HasABookOnTrial}
use Rattle.ledger_laws.specs.TrialBooks.{IsSoundOnTrial}
use Rattle.order_book.specs.Books.{Fits}
use Rattle.register_laws.specs.CorrectionReach.{EventReach}
use Rattle.register_machine.specs.journal.Journals.{Journal}
use Rattle.register_machine.specs.journal.Kinds.{accounts_of, household_of}
use Rattle.register_machine.specs.journal.Lawful.{IsLawful}
use Rattle.register_machine.specs.rules.Breaks.{order_corrected}

-- the account of the order that it enters or replaces is one of a household
abbrev pub KnowsItsAccount : Journal → EventKind → Type 0
KnowsItsAccount journal kind =
    (order : Order) → order_corrected kind ≡ Some order
    → is_some (household_of (accounts_of journal) order.account) ≡ true

-- It can be noted, its book is sound and orderly, and it reaches so far.
pub record IsOnTrial (journal : Journal) (event : Event) : Type 0 where
  pub sound : IsSoundOnTrial journal event
  pub fits : Fits journal event
  pub reach : EventReach journal event
  pub orders : HasABookOnTrial journal event
  pub owned : KnowsItsAccount journal event.kind

-- So it is behind a lawful journal.
abbrev pub FreshIsOnTrial : Journal → Event → Type 0
FreshIsOnTrial journal event =
    IsLawful journal → is_correction event.kind ≡ true → IsFresh journal event → IsOnTrial journal event
