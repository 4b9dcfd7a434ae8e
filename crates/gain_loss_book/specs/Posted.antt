-- What a cash book posts of an event: the changes of cash that it brings, and the payments of a correction.
use Rattle.std.specs.Map.{lookup}
use Rattle.std.specs.Prelude.{List, None, Option, Some, [], length, nat_eq, sum_by, ℕ, ℤ, ◌*◌, ◌+◌, ◌+ℤ◌, ◌^◌, ◌≤◌, if◌then◌else◌}
use Rattle.agent_events.specs.declared.order.Party.{Party}
use Rattle.agent_events.specs.declared.reply_lists.ClassGain.{ClassGain}
use Rattle.agent_events.specs.declared.totals.CashChange.{CashChange}
use Rattle.register_machine.specs.corrections.Cash.{Movement, balance, cents_paid, cents_received, same_party}
use Rattle.register_machine.specs.corrections.Payments.{loss_payments, payer}
use Rattle.gain_loss_book.specs.Flows.{fall, net, rise, whole_flow}
use Rattle.gain_loss_book.specs.PartyAccounts.{all_flows, flow_in}
use Rattle.gain_loss_book.specs.declared.posting.Correction.{Correction}
use Rattle.gain_loss_book.specs.declared.flows.Flow.{Flow}
use Rattle.gain_loss_book.specs.declared.party_accounts.Accounts.{Accounts}

-- what changes of cash bring a party, and what they take from it
abbrev pub rise_in : Party → CashChange → ℕ
rise_in party change = if same_party change.party party then rise change.cents else 0

abbrev pub fall_in : Party → CashChange → ℕ
fall_in party change = if same_party change.party party then fall change.cents else 0

abbrev pub change_flow : CashChange → Party → Flow
change_flow change party = record { inflow = rise_in party change; outflow = fall_in party change }

abbrev pub changes_flow : List CashChange → Party → Flow
changes_flow changes party =
    record { inflow = sum_by (rise_in party) changes; outflow = sum_by (fall_in party) changes }

-- by how much the cash of a party changes
abbrev pub cash_change : List CashChange → Party → ℤ
cash_change changes party = net (changes_flow changes party)

-- the changes of all parties together
abbrev pub all_changes : List CashChange → Flow
all_changes changes = record {
  inflow = sum_by (λ change. rise change.cents) changes;
  outflow = sum_by (λ change. fall change.cents) changes;
}

-- the sizes of changes of cash and of gains, added up
abbrev pub size_of_cash : List CashChange → ℕ
size_of_cash changes = sum_by (λ change. rise change.cents + fall change.cents) changes

abbrev pub size_of_gains : List ClassGain → ℕ
size_of_gains gains = sum_by (λ gain. rise gain.cents + fall gain.cents) gains

-- what movements bring a party, and what they take from it
abbrev pub movements_flow : List Movement → Party → Flow
movements_flow movements party =
    record { inflow = cents_received movements party; outflow = cents_paid movements party }

-- the payments of a correction: its losses, by whoever bears them
abbrev pub payments_by : Option Correction → List Movement
payments_by None = []
payments_by (Some correction) = loss_payments (payer correction.bearer) correction.gains

abbrev pub gains_by : Option Correction → Option (List ClassGain)
gains_by None = None
gains_by (Some correction) = Some correction.gains

-- the sizes of a correction's gains, added up
abbrev pub size_of_correction : Option Correction → ℕ
size_of_correction None = 0
size_of_correction (Some correction) = size_of_gains correction.gains

-- so much room a post takes at most: a row for each change, two for each gain, and one for the gains themselves
abbrev pub rows_of_correction : Option Correction → ℕ
rows_of_correction None = 0
rows_of_correction (Some correction) = 2 * length correction.gains + 1

abbrev pub rows_posted : List CashChange → Option Correction → ℕ
rows_posted changes correction = length changes + rows_of_correction correction

-- Limits of a post: the cash before and after adds up to at most 10^28 cents in size each, so its changes to twice as much;
-- gains add up to at most 10^30 cents in size.
abbrev pub most_cash : ℕ
most_cash = 2 * 10 ^ 28

abbrev pub most_gains : ℕ
most_gains = 10 ^ 30

abbrev pub most_posts : ℕ
most_posts = 10 ^ 8

-- a cash book: the cash of the parties, the gains of corrections by the place of their event, how many events were posted, and
-- how many rows more there is room for
pub record Books : Type 0 where
  pub accounts : Accounts
  pub corrections : List (ℕ × List ClassGain)
  pub posts : ℕ
  pub room : ℕ

-- the cash that a party holds
abbrev pub cash_held : Books → Party → ℤ
cash_held books party = net (flow_in books.accounts party)

-- the cash that all holders hold together: the sum over the book's rows of them
abbrev pub cash_of_holders : Books → ℤ
cash_of_holders books = net (whole_flow books.accounts.holders.rows)

-- the cash that all parties hold together: the sum over all of the book's rows
abbrev pub cash_together : Books → ℤ
cash_together books = net (all_flows books.accounts)

-- the gains of the correction that stands in this place of the journal
abbrev pub gains_kept : Books → ℕ → Option (List ClassGain)
gains_kept books seq = lookup (nat_eq seq) books.corrections

-- by how much the cash of a party changes when an event is posted
abbrev pub cash_posted : List CashChange → Option Correction → Party → ℤ
cash_posted changes correction party = cash_change changes party +ℤ balance (payments_by correction) party

-- the cents that movements move together
abbrev pub cents_moved : List Movement → ℕ
cents_moved movements = sum_by (λ movement. movement.cents) movements

abbrev pub flow_of_movements : List Movement → Flow
flow_of_movements movements = record { inflow = cents_moved movements; outflow = cents_moved movements }

-- no party's cash can pass what so many posts bring at most
pub record KeepsWithin (accounts : Accounts) (posts : ℕ) : Type 0 where
  pub inflow : (all_flows accounts).inflow ≤ posts * (most_cash + most_gains)
  pub outflow : (all_flows accounts).outflow ≤ posts * (most_cash + most_gains)
  pub count : posts ≤ most_posts
