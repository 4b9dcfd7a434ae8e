-- The law of the totals: they are the sums over the trades of all households.
use Rattle.agent_events.specs.declared.order.Party.{Party}
use Rattle.agent_events.specs.declared.trade.Trade.{Trade}
use Rattle.checkpoint_replay.specs.Differences.{trades_cash}
use Rattle.checkpoint_replay.specs.Parts.{Households, part_in}
use Rattle.checkpoint_replay.specs.Totals.{cents_held, mils_held}
use Rattle.gain_loss_book.specs.Flows.{net, no_flow, with_flow}
use Rattle.gain_loss_book.specs.Movements.{trades_mils}
use Rattle.gain_loss_book.specs.declared.flows.Flow.{Flow}
use Rattle.register_machine.specs.replay.Trades.{Day}
use Rattle.std.specs.List.{IsDistinct, list_any}
use Rattle.std.specs.Prelude.{List, [], false, nat_eq, ℕ, ℤ, ◌∷◌, ◌≡◌}

-- what the trades of these households bring and take, by what trades do
abbrev pub flow_of_all : (List Trade → Flow) → (ℕ → Day) → List ℕ → Flow
flow_of_all flow day_of [] = no_flow
flow_of_all flow day_of (household ∷ households) =
    with_flow (flow (day_of household).trades) (flow_of_all flow day_of households)

-- A total is the sum over any different households among which are all that have trades.
abbrev pub IsSumOver : (List Trade → Flow) → (ℕ → Day) → ℤ → Type 0
IsSumOver flow day_of total =
    (households : List ℕ) → IsDistinct nat_eq households
    → ((household : ℕ) → list_any (nat_eq household) households ≡ false → (day_of household).trades ≡ [])
    → total ≡ net (flow_of_all flow day_of households)

-- The totals of a ledger are the sums over its trades.
pub record IsTallied (ledger : Households) : Type 0 where
  pub cash : (party : Party) → IsSumOver (λ trades. trades_cash trades party) (part_in ledger.parts) (cents_held ledger.totals party)
  pub mils : (class : ℕ) → IsSumOver (λ trades. trades_mils trades class) (part_in ledger.parts) (mils_held ledger.totals class)
