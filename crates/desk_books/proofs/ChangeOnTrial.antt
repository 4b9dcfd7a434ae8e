-- What is made of the ledger, where it keeps the limits of a post.
use Rattle.std.proofs.Common.{All, Err, List, None, Ok, Result, Some, length, subst, sym, ℕ, ◌+◌, ◌≡◌, ◌≤◌}
use Rattle.std.specs.Prelude.{IfOk}
use Rattle.agent_events.specs.Events.{Event}
use Rattle.checkpoint_replay.specs.Differences.{AreChangesOf}
use Rattle.checkpoint_replay.specs.Moves.{AreMoves, Moves, households_of, part_after}
use Rattle.checkpoint_replay.specs.Parts.{part_in}
use Rattle.checkpoint_replay.specs.Sheets.{IsReached as IsMoved}
use Rattle.checkpoint_replay.specs.declared.change.HouseholdMove.{HouseholdMove}
use Rattle.desk_books.specs.LedgerChanges.{IsLedgerChange}
use Rattle.desk_books.specs.declared.books.DeskBooks.{DeskBooks}
use Rattle.desk_books.specs.declared.change.LedgerChange.{LedgerChange}
use Rattle.gain_loss_book.specs.ClassGains.{most_mils, size_of_mils}
use Rattle.gain_loss_book.specs.Posted.{most_cash, size_of_cash}
use Rattle.checkpoint_replay.specs.Replays.{NumberedOrder, day_behind, orders_under}
use Rattle.order_book.specs.Books.{NotedJournal}
use Rattle.register_machine.specs.pricing.CorrectedOrders.{orders_of}
use Rattle.desk_books.proofs.SheetOnTrial.{ArePriced, moves-ledger, steps-taken}
use Rattle.desk_books.specs.SheetReach.{TakeOneStepEach}
use Rattle.desk_books.specs.SheetTrials.{IsOnTrial, known_on_sheet}
use Rattle.standing_orders.specs.Priced.{ArePricedOn}

-- the orders that were found through the book of orders
pub priced-there : (books : DeskBooks) (number : ℕ) (rows : List NumberedOrder) (noted : NotedJournal) → noted ≡ books.book → ArePricedOn number (orders_of noted.journal) books.prices.table.sheets books.orders.owners books.orders.waiting rows → ArePriced books number rows
priced-there books number rows noted same priced =
    subst (λ (n : NotedJournal). ArePricedOn number (orders_of n.journal) books.prices.table.sheets books.orders.owners books.orders.waiting rows) same priced

-- each household goes on by its step
abbrev GoOn : DeskBooks → ℕ → List NumberedOrder → List HouseholdMove → Type 0
GoOn books number rows moves =
    (household : ℕ) → part_after moves books.ledger.parts household ≡ day_behind (known_on_sheet books number) (orders_under household rows) (part_in books.ledger.parts household)

pub made-change : {E : Type 0} (books : DeskBooks) (number : ℕ) (rows : List NumberedOrder) → ArePriced books number rows → (change : Moves) → GoOn books number rows change.moves → AreChangesOf change.changes books.ledger.parts change.moves → (made : Result LedgerChange E) → IfOk made (λ m. m.change ≡ change) → IfOk made (λ m. AreMoves m.change.moves) → IfOk made (λ m. m.correction ≡ None) → IfOk made (λ m. size_of_cash m.change.changes.cash ≤ most_cash) → IfOk made (λ m. size_of_mils m.change.changes.outstanding ≤ most_mils) → IfOk made (λ m. (event : Event) → IsOnTrial books number event → IsLedgerChange books.book.journal event books.ledger.parts (Some m))
made-change books number rows priced change days differences (Ok m) same moves none cash mils = λ event on.
    moves-ledger books number event on rows priced m moves.apart
    (subst (λ (c : Moves). GoOn books number rows c.moves) (sym same) days)
    (subst (λ (c : Moves). AreChangesOf c.changes books.ledger.parts c.moves) (sym same) differences)
    none cash mils
made-change books number rows priced change days differences (Err why) same moves none cash mils = tt

pub made-steps : {E : Type 0} (books : DeskBooks) (number : ℕ) (rows : List NumberedOrder) → ArePriced books number rows → (change : Moves) → All (IsMoved (known_on_sheet books number) rows books.ledger.parts) change.moves → (before after : ℕ) → after ≡ before + length change.moves → (made : Result LedgerChange E) → IfOk made (λ m. m.change ≡ change) → IfOk made (λ m. AreMoves m.change.moves) → IfOk made (λ m. (event : Event) → IsOnTrial books number event → TakeOneStepEach books.book.journal event (households_of m.change.moves) before after)
made-steps books number rows priced change reached before after count (Ok m) same moves = λ event on.
    steps-taken books number event on rows priced m.change.moves moves.apart
    (subst (λ (c : Moves). All (IsMoved (known_on_sheet books number) rows books.ledger.parts) c.moves) (sym same) reached)
    before after
    (subst (λ (c : Moves). after ≡ before + length c.moves) (sym same) count)
made-steps books number rows priced change reached before after count (Err why) same moves = tt
