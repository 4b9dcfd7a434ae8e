-- The bridge to the whole register: changes that are the differences of two replays, and what is booked behind an event.
use Rattle.std.specs.Prelude.{List, Option, None, Some, fold, pos, ℕ, ℤ, ◌+ℤ◌, ◌-ℤ◌, ◌≡◌}
use Rattle.agent_events.specs.Events.{Event}
use Rattle.agent_events.specs.declared.order.Bearer.{Bearer}
use Rattle.agent_events.specs.declared.order.Party.{Party}
use Rattle.agent_events.specs.declared.totals.Changes.{Changes}
use Rattle.forward_price.specs.PriceTables.{Table}
use Rattle.register_machine.specs.corrections.Cash.{Movement, balance, cash_of, outstanding}
use Rattle.register_machine.specs.corrections.Gains.{gains_at}
use Rattle.register_machine.specs.corrections.Payments.{bearer_in, booked_movements}
use Rattle.register_machine.specs.journal.Journals.{Journal, with_event}
use Rattle.register_machine.specs.pricing.PublishedTable.{empty_table, table_after}
use Rattle.register_machine.specs.replay.Trades.{Day}
use Rattle.agent_events.specs.declared.totals.CashChange.{CashChange}
use Rattle.gain_loss_book.specs.Flows.{net}
use Rattle.gain_loss_book.specs.ClassGains.{mils_change}
use Rattle.gain_loss_book.specs.Posted.{all_changes, cash_change, cash_posted}
use Rattle.gain_loss_book.specs.declared.posting.Correction.{Correction}

-- The changes are by how much the cash of each party, by trades, and the outstanding shares of each class differ between two
-- replays.
pub record AreDifferences (changes : Changes) (before after : Day) : Type 0 where
  pub cash : (party : Party) → cash_change changes.cash party ≡ cash_of after.trades party -ℤ cash_of before.trades party
  pub mils : (class : ℕ) → mils_change changes.outstanding class ≡ pos (outstanding after.register class) -ℤ pos (outstanding before.register class)

-- the published table behind a journal
abbrev pub table_behind : Journal → Table
table_behind journal = fold table_after empty_table journal

-- what a correction brings besides its changes: who bears its losses, and its gains behind the journal; nothing for another event
abbrev pub correction_by : Option Bearer → Journal → Event → Option Correction
correction_by None journal event = None
correction_by (Some bearer) journal event =
    Some (record { bearer = bearer; gains = gains_at (table_behind journal) journal event })

abbrev pub correction_at : Journal → Event → Option Correction
correction_at journal event = correction_by (bearer_in event.kind) journal event

-- the cash that is booked of a party behind a journal, by a replay
abbrev pub cash_booked : Journal → Day → Party → ℤ
cash_booked journal day party = balance (booked_movements journal day) party

-- What is booked of each party with an event is what was booked before and what is posted of the event.
abbrev pub BalancesAfter : Journal → Event → Day → Day → Changes → Type 0
BalancesAfter journal event before after changes =
    (party : Party) → cash_booked (with_event journal event) after party
    ≡ cash_booked journal before party +ℤ cash_posted changes.cash (correction_at journal event) party

-- Changes bring each party as much more as movements do than others before.
abbrev pub MovesAs : List CashChange → List Movement → List Movement → Type 0
MovesAs changes before after =
    (party : Party) → cash_change changes party ≡ balance after party -ℤ balance before party

-- All parties together hold no more by them.
abbrev pub SumsToZero : List CashChange → Type 0
SumsToZero changes = net (all_changes changes) ≡ pos 0
