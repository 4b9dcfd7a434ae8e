-- The totals of a ledger, and by how much they differ between two.
use Rattle.std.proofs.Common.{List, ap, sym, ℕ, ℤ, ◌∙◌, ◌≡◌}
use Rattle.agent_events.specs.declared.totals.Changes.{Changes}
use Rattle.agent_events.specs.declared.trade.Trade.{Trade}
use Rattle.checkpoint_replay.proofs.FlowsOfMoves.{IsAdditive, cash-additive, mils-additive}
use Rattle.checkpoint_replay.specs.Differences.{trades_cash}
use Rattle.checkpoint_replay.specs.Parts.{Households, part_in}
use Rattle.checkpoint_replay.specs.Tallied.{IsSumOver}
use Rattle.checkpoint_replay.specs.Totals.{cents_held, mils_held}
use Rattle.checkpoint_replay.specs.declared.change.HouseholdMove.{HouseholdMove}
use Rattle.checkpoint_replay.specs.declared.part.HouseholdPart.{HouseholdPart}
use Rattle.gain_loss_book.specs.Flows.{net}
use Rattle.gain_loss_book.specs.Movements.{trades_mils}
use Rattle.gain_loss_book.specs.declared.flows.Flow.{Flow}
use Rattle.ledger_laws.proofs.ClassTotals.{totals_by_differences}
use Rattle.ledger_laws.proofs.HouseholdBooks.{trades-owned}
use Rattle.ledger_laws.proofs.MovedDays.{differences-by-days}
use Rattle.ledger_laws.proofs.SumsOverLedgers.{ShowTrades, one-sum, sum-of-all}
use Rattle.ledger_laws.specs.LedgerTotals.{ChangesAreDifferences, IsOfHouseholds, TalliedHasTotals}
use Rattle.ledger_laws.specs.Ledgers.{IsLedgerOf}
use Rattle.register_machine.specs.pricing.CorrectedBook.{Book}
use Rattle.register_machine.specs.replay.Replay.{replay}
use Rattle.register_machine.specs.replay.Trades.{Day}

shows-trades : (book : Book) (parts : List (ℕ × HouseholdPart)) → IsLedgerOf book parts → ShowTrades book.accounts (replay book).trades parts
shows-trades book parts is = λ household. ap (λ (day : Day). day.trades) (is.part household)

-- ---- totals

-- the sum over a ledger of a book is what the trades of its replay bring
ledger-sum : (flow : List Trade → Flow) → IsAdditive flow → (book : Book) (parts : List (ℕ × HouseholdPart)) → IsOfHouseholds book → IsLedgerOf book parts → IsSumOver flow (part_in parts) (net (flow (replay book).trades))
ledger-sum flow additive book parts of is =
    sum-of-all flow additive book.accounts (replay book).trades parts (trades-owned book of) (shows-trades book parts is)

total-is : (flow : List Trade → Flow) → IsAdditive flow → (book : Book) (parts : List (ℕ × HouseholdPart)) → IsOfHouseholds book → IsLedgerOf book parts → (total : ℤ) → IsSumOver flow (part_in parts) total → total ≡ net (flow (replay book).trades)
total-is flow additive book parts of is total sums =
    one-sum flow book.accounts (replay book).trades parts (shows-trades book parts is) total (net (flow (replay book).trades)) sums (ledger-sum flow additive book parts of is)

pub has_totals : (ledger : Households) (book : Book) → TalliedHasTotals ledger book
has_totals ledger book of tallied is = record {
  mils = λ class.
      total-is (λ trades. trades_mils trades class) (mils-additive class) book ledger.parts of is (mils_held ledger.totals class) (tallied.mils class)
      ∙ sym ((totals_by_differences book of.orderly).whole class);
  cash = λ party.
      total-is (λ trades. trades_cash trades party) (cash-additive party) book ledger.parts of is (cents_held ledger.totals party) (tallied.cash party);
}

-- ---- differences

pub are_differences : (changes : Changes) (before after : Book) (parts new : List (ℕ × HouseholdPart)) (moves : List HouseholdMove) → ChangesAreDifferences changes before after parts new moves
are_differences changes before after parts new moves of other is are =
    differences-by-days changes before after parts moves of other
    (record { from = is.from; to = λ household. sym (is.moved household) ∙ is.to.part household; apart = is.apart }) are
