-- What a trial leaves of the kept states: where it breaks no order, those that its correction doesn't touch.
use Rattle.std.specs.List.{list_any}
use Rattle.std.specs.Prelude.{List, false, filter, length, nat_eq, nat_lt, not, true, ℕ, ◌||◌, ◌≡◌}
use Rattle.agent_events.specs.Events.{Event}
use Rattle.desk_books.specs.Starts.{LeavesBefore}
use Rattle.desk_books.specs.CorrectionTrials.{Says}
use Rattle.desk_books.specs.declared.correction_trial.Trial.{Trial}
use Rattle.desk_books.specs.declared.correction_trial.Tried.{Tried}
use Rattle.desk_books.specs.declared.books.DeskBooks.{DeskBooks}
use Rattle.register_laws.specs.EventReplays.{is_correction}
use Rattle.ledger_laws.specs.KeptOfBooks.{AreKeptOf, AreLikeLong}
use Rattle.checkpoint_replay.specs.KeptStates.{states_in}
use Rattle.checkpoint_replay.specs.declared.states.KeptState.{KeptState}
use Rattle.register_laws.specs.CorrectionReach.{LeavesPart}
use Rattle.register_laws.specs.Lawful.{book_behind}
use Rattle.register_laws.specs.OneEventMore.{book_after}
use Rattle.register_machine.specs.journal.Journals.{Journal, with_event}
use Rattle.standing_orders.specs.SettledOrders.{ReplacesNone}

-- The trial of a correction: what it says, whose parts and orders stay, and before which sheet nothing changes.
pub record IsTrialOf (books : DeskBooks) (event : Event) (trial : Trial) : Type 0 where
  pub says : Says books.book.journal event books.ledger.parts trial.tried
  pub left : (household : ℕ) → list_any (nat_eq household) trial.households.items ≡ false
      → LeavesPart (book_behind books.book.journal) (book_behind (with_event books.book.journal event)) household
  pub unreplaced : (household : ℕ) → list_any (nat_eq household) trial.households.items ≡ false
      → ReplacesNone books.book.journal event.kind household
  pub like : AreLikeLong (book_behind books.book.journal) (book_behind (with_event books.book.journal event))
  pub before : LeavesBefore books.book.journal event trial.before
  pub goes_on : book_behind (with_event books.book.journal event)
      ≡ book_after (length books.book.journal) (book_behind books.book.journal) event.moment event.kind
  pub corrects : is_correction event.kind ≡ true

-- of these households the states behind sheets before this one, of others all
abbrev pub states_left : List ℕ → ℕ → List (ℕ × List KeptState) → ℕ → List KeptState
states_left households before old household =
    filter (λ state. not (list_any (nat_eq household) households) || nat_lt state.sheet before) (states_in old household)

abbrev pub AreBefore : List ℕ → ℕ → List (ℕ × List KeptState) → List (ℕ × List KeptState) → Type 0
AreBefore households before old new = (household : ℕ) → states_in new household ≡ states_left households before old household

abbrev pub AreForgottenBy : Tried → List ℕ → ℕ → List (ℕ × List KeptState) → List (ℕ × List KeptState) → Type 0
AreForgottenBy (Tried.Breaks _) households before old new = new ≡ old
AreForgottenBy (Tried.Moves change) households before old new = AreBefore households before old new

-- where the trial breaks no order
abbrev pub AreForgotten : Trial → List (ℕ × List KeptState) → List (ℕ × List KeptState) → Type 0
AreForgotten trial old new = AreForgottenBy trial.tried trial.households.items trial.before old new

-- behind a correction that breaks no order the kept states are what their households came to
abbrev pub KeepsStates : Journal → Event → List (ℕ × List KeptState) → Tried → Type 0
KeepsStates journal event rows (Tried.Breaks _) = Unit {0}
KeepsStates journal event rows (Tried.Moves change) = AreKeptOf (book_behind (with_event journal event)) rows
