-- What moves change of the cash of parties and of the outstanding shares of classes.
use Rattle.agent_events.specs.declared.order.Party.{Party}
use Rattle.agent_events.specs.declared.totals.Changes.{Changes}
use Rattle.agent_events.specs.declared.trade.Trade.{Trade}
use Rattle.checkpoint_replay.specs.Parts.{part_in}
use Rattle.checkpoint_replay.specs.declared.change.HouseholdMove.{HouseholdMove}
use Rattle.checkpoint_replay.specs.declared.part.HouseholdPart.{HouseholdPart}
use Rattle.gain_loss_book.specs.ClassGains.{mils_change}
use Rattle.gain_loss_book.specs.Flows.{net, no_flow, reverse_flow, with_flow}
use Rattle.gain_loss_book.specs.Movements.{trades_mils}
use Rattle.gain_loss_book.specs.Posted.{cash_change, movements_flow}
use Rattle.gain_loss_book.specs.declared.flows.Flow.{Flow}
use Rattle.register_machine.specs.corrections.Cash.{movements_of}
use Rattle.std.specs.Prelude.{List, drop, fold, ℕ, ◌≡◌}

-- what trades bring a party and take from it
abbrev pub trades_cash : List Trade → Party → Flow
trades_cash trades party = movements_flow (movements_of trades) party

-- the old trades of a household that don't stay when it is moved
abbrev pub dropped_trades : List (ℕ × HouseholdPart) → HouseholdMove → List Trade
dropped_trades parts change = drop change.kept (part_in parts change.household).trades

-- the new trades are brought, and those that don't stay are taken back
abbrev pub with_cash_of : List (ℕ × HouseholdPart) → Party → Flow → HouseholdMove → Flow
with_cash_of parts party flow change =
    with_flow (with_flow flow (trades_cash change.trades party))
    (reverse_flow (trades_cash (dropped_trades parts change) party))

abbrev pub with_mils_of : List (ℕ × HouseholdPart) → ℕ → Flow → HouseholdMove → Flow
with_mils_of parts class flow change =
    with_flow (with_flow flow (trades_mils change.trades class))
    (reverse_flow (trades_mils (dropped_trades parts change) class))

-- all moves together
abbrev pub cash_by_moves : List (ℕ × HouseholdPart) → List HouseholdMove → Party → Flow
cash_by_moves parts moves party = fold (with_cash_of parts party) no_flow moves

abbrev pub mils_by_moves : List (ℕ × HouseholdPart) → List HouseholdMove → ℕ → Flow
mils_by_moves parts moves class = fold (with_mils_of parts class) no_flow moves

-- Changes are those of moves: by how much they make the cash of each party and the outstanding shares of each class differ
pub record AreChangesOf (changes : Changes) (parts : List (ℕ × HouseholdPart)) (moves : List HouseholdMove) : Type 0 where
  pub cash : (party : Party) → cash_change changes.cash party ≡ net (cash_by_moves parts moves party)
  pub mils : (class : ℕ) → mils_change changes.outstanding class ≡ net (mils_by_moves parts moves class)
