-- What the trial says, once all households that the correction reaches are reopened.
use Rattle.std.proofs.Common.{All, List, None, Option, Some, ap, nat_eq, subst, sym, ◌<◌, ◌∙◌, ◌≡◌}
use Rattle.std.specs.List.{IsDistinct}
use Rattle.agent_events.specs.Events.{Event}
use Rattle.forward_price.specs.declared.price_sheet.Sheet.{Sheet}
use Rattle.agent_events.specs.declared.order.Bearer.{Bearer}
use Rattle.agent_events.specs.declared.reply.Refusal.{Refusal}
use Rattle.checkpoint_replay.specs.Moves.{AreApart, AreMoves, Moves}
use Rattle.checkpoint_replay.specs.declared.change.HouseholdMove.{HouseholdMove}
use Rattle.desk_books.specs.declared.least.BrokenTrade.{BrokenTrade}
use Rattle.desk_books.proofs.BrokenOfAll.{last_is}
use Rattle.desk_books.proofs.TrialChange.{changes_ledger}
use Rattle.desk_books.proofs.TrialSteps.{rising_differ}
use Rattle.desk_books.specs.Changed.{AreMovesOf, IsChangeWith, IsMadeOf}
use Rattle.desk_books.specs.Reopened.{AreReopened, IsReopenedWhole, IsTriedOver}
use Rattle.desk_books.specs.CorrectionTrials.{Says}
use Rattle.desk_books.specs.declared.correction_trial.Tried.{Tried}
use Rattle.desk_books.specs.LedgerChanges.{IsLedgerChange}
use Rattle.desk_books.specs.declared.books.DeskBooks.{DeskBooks}
use Rattle.desk_books.specs.declared.change.LedgerChange.{LedgerChange}
use Rattle.household_fold.specs.Facts.{Known, sheets_known}
use Rattle.register_machine.specs.corrections.Payments.{bearer_in}
use Rattle.register_machine.specs.pricing.CorrectedOrders.{orders_of}

pub says_breaks : (books : DeskBooks) (event : Event) (known : Known) (moves : List HouseholdMove) (broken : BrokenTrade) (why : Refusal) → IsTriedOver books event known → IsReopenedWhole books event known moves (Some broken) → All (λ row. 0 < row.order.ref_no) (orders_of books.book.journal) → why ≡ Refusal.Breaks broken.trade.account broken.trade.ref_no → Says books.book.journal event books.ledger.parts (Tried.Breaks why)
says_breaks books event known moves broken why is whole numbered named =
    last_is books event known whole.households moves (Some broken) is whole.reached numbered whole.all
    ∙ ap (λ (r : Refusal). Some r) (sym named)

-- the households that are moved are those that are reached, each once
pub are_moves : (books : DeskBooks) (event : Event) (known : Known) (moves : List HouseholdMove) (first : Option BrokenTrade) → IsReopenedWhole books event known moves first → AreMoves moves
are_moves books event known moves first whole = record {
  apart = subst (IsDistinct nat_eq) (sym whole.all.households) (rising_differ whole.households whole.rising);
  own = whole.all.own;
}

pub says_moves : (books : DeskBooks) (event : Event) (known : Known) (moves : List HouseholdMove) (made : Moves) (bearer : Bearer) (moved : LedgerChange) → IsTriedOver books event known → IsReopenedWhole books event known moves None → All (λ row. 0 < row.order.ref_no) (orders_of books.book.journal) → IsMadeOf books.ledger.parts moves made → bearer_in event.kind ≡ Some bearer → IsChangeWith made bearer (sheets_known known) moved → Says books.book.journal event books.ledger.parts (Tried.Moves moved)
says_moves books event known moves made bearer moved is whole numbered of bears gained =
    let all : AreReopened books event known whole.households made.moves None = subst (λ (ms : List HouseholdMove). AreReopened books event known whole.households ms None) (sym of.moves_are) whole.all in
    let apart : AreApart made.moves = subst AreApart (sym of.moves_are) (are_moves books event known moves None whole).apart in (
      last_is books event known whole.households moves None is whole.reached numbered whole.all,
      λ lawful. subst (λ (m : LedgerChange). IsLedgerChange books.book.journal event books.ledger.parts (Some m)) (sym gained.made)
          (changes_ledger books event known whole.households made None is whole.reached all of.differences apart lawful bearer gained.gains bears gained.are gained.within),
    )

pub says_moved : (books : DeskBooks) (event : Event) (known : Known) (moves : List HouseholdMove) (sheets : List Sheet) (tried : Tried) → IsTriedOver books event known → IsReopenedWhole books event known moves None → All (λ row. 0 < row.order.ref_no) (orders_of books.book.journal) → sheets ≡ sheets_known known → AreMovesOf event sheets books.ledger.parts moves tried → Says books.book.journal event books.ledger.parts tried
says_moved books event known moves sheets tried is whole numbered same are =
    subst (Says books.book.journal event books.ledger.parts) (sym are.gained.2)
    (says_moves books event known moves are.made are.bearer are.gained.0 is whole numbered are.of are.bears
    (subst (λ (all : List Sheet). IsChangeWith are.made are.bearer all are.gained.0) same are.gained.1))
