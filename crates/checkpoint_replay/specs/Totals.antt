-- The totals of a ledger: the outstanding shares of each class, and the cash of each party by trades.
use Rattle.agent_events.specs.declared.order.Party.{Party}
use Rattle.agent_events.specs.declared.totals.Changes.{Changes}
use Rattle.gain_loss_book.specs.ClassGains.{most_mils, size_of_mils}
use Rattle.gain_loss_book.specs.Flows.{FlowTable, flow_at, net, whole_flow}
use Rattle.gain_loss_book.specs.Posted.{Books, cash_held, gains_kept, most_cash, most_posts, size_of_cash}
use Rattle.std.specs.Prelude.{None, length, ℕ, ℤ, ◌*◌, ◌<◌, ◌≡◌, ◌≤◌}

-- the shares by class, and the cash by party with the count of the changes that were added
pub record TotalRows : Type 0 where
  pub shares : FlowTable
  pub cash : Books

-- the outstanding mils of a class, and the cents of a party; what it owes is negative
abbrev pub mils_held : TotalRows → ℕ → ℤ
mils_held totals class = net (flow_at totals.shares.rows class)

abbrev pub cents_held : TotalRows → Party → ℤ
cents_held totals party = cash_held totals.cash party

-- no class's shares can pass what so many changes bring at most
pub record KeepsTotals (totals : TotalRows) : Type 0 where
  pub inflow : (whole_flow totals.shares.rows).inflow ≤ totals.cash.posts * most_mils
  pub outflow : (whole_flow totals.shares.rows).outflow ≤ totals.cash.posts * most_mils
  pub count : totals.cash.posts ≤ most_posts
  pub gains : (seq : ℕ) → gains_kept totals.cash seq ≡ None

-- changes fit into the totals without more memory
pub record HasTotalsRoom (totals : TotalRows) (changes : Changes) : Type 0 where
  pub shares : length changes.outstanding ≤ totals.shares.room
  pub cash : length changes.cash ≤ totals.cash.room

-- and they are within the limits of changes, of which there are at most 10^8
pub record AreWithinLimits (totals : TotalRows) (changes : Changes) : Type 0 where
  pub cash : size_of_cash changes.cash ≤ most_cash
  pub mils : size_of_mils changes.outstanding ≤ most_mils
  pub count : totals.cash.posts < most_posts
