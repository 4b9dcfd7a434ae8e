-- What the states kept of households are to a book: what each household came to behind a sheet of its replay.
use Rattle.std.specs.Prelude.{All, List, false, length, take, ℕ, ◌<◌, ◌≡◌, ◌≤◌}
use Rattle.agent_events.specs.Events.{Event}
use Rattle.agent_events.specs.declared.event.EventKind.{EventKind}
use Rattle.agent_events.specs.declared.request.FixPriceForm.{FixPriceForm}
use Rattle.register_laws.specs.EventReplays.{is_correction}
use Rattle.checkpoint_replay.specs.KeptStates.{states_in}
use Rattle.checkpoint_replay.specs.declared.states.KeptState.{KeptState}
use Rattle.register_laws.specs.CorrectionReach.{EventReach, IsListedOn, LeavesPart}
use Rattle.register_laws.specs.Households.{part_of}
use Rattle.register_laws.specs.Lawful.{book_behind}
use Rattle.register_machine.specs.journal.Journals.{Journal, with_event}
use Rattle.register_machine.specs.journal.Lawful.{IsLawful}
use Rattle.register_machine.specs.pricing.CorrectedBook.{Book}
use Rattle.register_machine.specs.replay.Replay.{replay, replay_to}
use Rattle.register_machine.specs.replay.Trades.{Day}
use Rattle.standing_orders.specs.SettledOrders.{AreSettled}

-- the part of a household behind so many sheets of a book
abbrev pub part_to : Book → ℕ → ℕ → Day
part_to book household sheet = part_of book.accounts household (replay_to book sheet)

-- A kept state is what a household came to behind its sheet, which is one of the book or 0. Its orders among the first of the book
-- that the state counts are settled by then.
pub record IsAsOf (book : Book) (household : ℕ) (kept : KeptState) : Type 0 where
  pub published : kept.sheet ≤ length book.table.sheets
  pub own : kept.state.number ≡ household
  pub register : kept.state.register ≡ (part_to book household kept.sheet).register
  pub counted : kept.trades ≡ length (part_to book household kept.sheet).trades
  pub begun : kept.orders ≤ length book.orders
  pub settled : AreSettled book household kept.orders kept.sheet

-- so is each one of each household
abbrev pub AreKeptOf : Book → List (ℕ × List KeptState) → Type 0
AreKeptOf book rows = (household : ℕ) → All (IsAsOf book household) (states_in rows household)

-- ---- What is kept, and what leaves it so.

-- Behind the last sheet a household came to its part of the whole replay.
pub record IsLast (book : Book) (household : ℕ) (kept : KeptState) : Type 0 where
  pub sheet : kept.sheet ≡ length book.table.sheets
  pub own : kept.state.number ≡ household
  pub register : kept.state.register ≡ (part_of book.accounts household (replay book)).register
  pub counted : kept.trades ≡ length (part_of book.accounts household (replay book)).trades
  pub begun : kept.orders ≤ length book.orders
  pub settled : AreSettled book household kept.orders kept.sheet

abbrev pub LastIsAsOf : Book → ℕ → KeptState → Type 0
LastIsAsOf book household kept = IsLast book household kept → IsAsOf book household kept

-- An event that is no correction leaves them.
abbrev pub LawfulLeavesKept : Journal → Event → List (ℕ × List KeptState) → Type 0
LawfulLeavesKept journal event rows =
    IsLawful (with_event journal event) → is_correction event.kind ≡ false
    → AreKeptOf (book_behind journal) rows → AreKeptOf (book_behind (with_event journal event)) rows

-- two books of the same accounts, as many sheets, and no fewer orders
pub record AreLikeLong (before after : Book) : Type 0 where
  pub accounts : after.accounts ≡ before.accounts
  pub sheets : length after.table.sheets ≡ length before.table.sheets
  pub orders : length before.orders ≤ length after.orders

-- what is settled of the household in the one book is settled in the other
abbrev pub LeavesSettled : Book → Book → ℕ → KeptState → Type 0
LeavesSettled before after household kept =
    AreSettled before household kept.orders kept.sheet → AreSettled after household kept.orders kept.sheet

abbrev pub LeftIsAsOf : Book → Book → ℕ → KeptState → Type 0
LeftIsAsOf before after household kept =
    AreLikeLong before after → LeavesPart before after household → LeavesSettled before after household kept
    → IsAsOf before household kept → IsAsOf after household kept

-- A corrected price on the sheet of this number leaves those behind sheets before it.
abbrev pub PriceLeavesKept : Journal → Event → FixPriceForm → ℕ → ℕ → KeptState → Type 0
PriceLeavesKept journal event form fixed household kept =
    EventReach journal event → AreLikeLong (book_behind journal) (book_behind (with_event journal event))
    → event.kind ≡ EventKind.FixPrice form → IsListedOn (book_behind journal) form.class form.moment fixed
    → kept.sheet < fixed → LeavesSettled (book_behind journal) (book_behind (with_event journal event)) household kept
    → IsAsOf (book_behind journal) household kept
    → IsAsOf (book_behind (with_event journal event)) household kept

-- ---- Where a replay goes on.

-- The trades so far come first among all trades of the household.
abbrev pub TradesLead : Book → ℕ → KeptState → Type 0
TradesLead book household kept =
    IsAsOf book household kept
    → take kept.trades (part_of book.accounts household (replay book)).trades
    ≡ (part_to book household kept.sheet).trades
