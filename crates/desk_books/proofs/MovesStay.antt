-- What moves a ledger moves one that shows the same, as one in which room was made.
use Rattle.std.proofs.Common.{List, None, Option, Some, [], ap, drop, fold, refl, sym, ℕ, ◌∙◌, ◌∷◌, ◌≡◌}
use Rattle.agent_events.specs.Events.{Event}
use Rattle.checkpoint_replay.specs.Differences.{trades_cash, with_cash_of, with_mils_of}
use Rattle.checkpoint_replay.specs.Moves.{day_if_moved}
use Rattle.checkpoint_replay.specs.Parts.{part_in}
use Rattle.checkpoint_replay.specs.declared.change.HouseholdMove.{HouseholdMove}
use Rattle.checkpoint_replay.specs.declared.part.HouseholdPart.{HouseholdPart}
use Rattle.desk_books.specs.LedgerChanges.{IsLedgerChange, MovesLedger}
use Rattle.desk_books.specs.declared.change.LedgerChange.{LedgerChange}
use Rattle.gain_loss_book.specs.Flows.{net, no_flow, reverse_flow, with_flow}
use Rattle.gain_loss_book.specs.Movements.{trades_mils}
use Rattle.gain_loss_book.specs.declared.flows.Flow.{Flow}
use Rattle.register_machine.specs.journal.Journals.{Journal}
use Rattle.register_machine.specs.replay.Trades.{Day}

fold-same : (f g : Flow → HouseholdMove → Flow) → ((flow : Flow) (move : HouseholdMove) → f flow move ≡ g flow move) → (flow : Flow) (moves : List HouseholdMove) → fold f flow moves ≡ fold g flow moves
fold-same f g same flow [] = refl
fold-same f g same flow (move ∷ moves) =
    ap (λ (x : Flow). fold f x moves) (same flow move) ∙ fold-same f g same (g flow move) moves

same-moves : (journal : Journal) (event : Event) (parts others : List (ℕ × HouseholdPart)) (change : LedgerChange) → ((household : ℕ) → part_in others household ≡ part_in parts household) → MovesLedger journal event parts change → MovesLedger journal event others change
same-moves journal event parts others change same moves = record {
  leads = λ new to.
      moves.leads new
      (λ household. to household ∙ ap (λ (day : Day). fold (day_if_moved household) day change.change.moves) (same household));
  changes = record {
    cash = λ party.
        moves.changes.cash party
        ∙ ap net
        (fold-same (with_cash_of parts party) (with_cash_of others party)
        (λ flow move. ap (λ (day : Day). with_flow (with_flow flow (trades_cash move.trades party)) (reverse_flow (trades_cash (drop move.kept day.trades) party))) (sym (same move.household)))
        no_flow change.change.moves);
    mils = λ class.
        moves.changes.mils class
        ∙ ap net
        (fold-same (with_mils_of parts class) (with_mils_of others class)
        (λ flow move. ap (λ (day : Day). with_flow (with_flow flow (trades_mils move.trades class)) (reverse_flow (trades_mils (drop move.kept day.trades) class))) (sym (same move.household)))
        no_flow change.change.moves);
  };
  differences = moves.differences;
  correction = moves.correction;
  cash = moves.cash;
  mils = moves.mils;
  gains = moves.gains;
}

-- What an event makes of a ledger it makes of one that shows the same.
pub stays_a_change : (journal : Journal) (event : Event) (parts others : List (ℕ × HouseholdPart)) (change : Option LedgerChange) → ((household : ℕ) → part_in others household ≡ part_in parts household) → IsLedgerChange journal event parts change → IsLedgerChange journal event others change
stays_a_change journal event parts others None same plain = plain
stays_a_change journal event parts others (Some change) same moves =
    (moves.0, same-moves journal event parts others change same moves.1)
