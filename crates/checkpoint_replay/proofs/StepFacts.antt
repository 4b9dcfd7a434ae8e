-- The steps of a replay: one more sheet, at most one a sheet, and what sheets without steps leave.
use Rattle.std.proofs.Common.{Bool, List, ap, append-nil, arith, cond, false, refl, suc, true, zero, ℕ, ◌++◌, ◌+◌, ◌∙◌, ◌≡◌, ◌≤◌}
use Rattle.agent_events.specs.declared.order.Order.{Order}
use Rattle.household_fold.proofs.QuietFacts.{quiet-step}
use Rattle.household_fold.specs.Facts.{Known}
use Rattle.household_fold.specs.Quiet.{is_quiet_for}
use Rattle.checkpoint_replay.specs.BusySheets.{busy_sheets, steps_over}
use Rattle.checkpoint_replay.specs.Replays.{NumberedOrder, day_behind, days_behind, known_on, orders_under}
use Rattle.register_machine.specs.replay.Positions.{Register}
use Rattle.register_machine.specs.replay.Trades.{Day}

-- a sheet takes at most one step
one-step : (known : Known) (orders : List Order) (register : Register) → steps_over known orders register ≤ 1
one-step known orders register =
    elim (is_quiet_for known orders register) as (λ b. cond b 0 1 ≤ 1) [
      | true ↦ omega arith
      | false ↦ omega arith
    ]

-- and so many sheets at most as many
pub busy-most : (known : Known) (rows : List NumberedOrder) (from count : ℕ) (day : Day) → busy_sheets known rows from count day ≤ count
busy-most known rows from zero day = omega arith
busy-most known rows from (suc count) day =
    let at_hand = known_on known (from + 1) in
    let orders = orders_under (from + 1) rows in
    omega (arith, one-step at_hand orders day.register, busy-most known rows (from + 1) count (day_behind at_hand orders day))

-- a test that takes no step passes
no-step : (b : Bool) (steps : ℕ) → steps ≡ cond b 0 1 → steps ≡ 0 → b ≡ true
no-step true steps is none = refl
no-step false steps is none = absurd (omega (arith, is, none))

-- a sheet without a step leaves the day as it is
quiet-day : (known : Known) (orders : List Order) (day : Day) → steps_over known orders day.register ≡ 0 → day_behind known orders day ≡ day
quiet-day known orders day none =
    let quiet = no-step (is_quiet_for known orders day.register) (steps_over known orders day.register) refl none in
    ap (λ (d : Day). record { register = d.register; trades = day.trades ++ d.trades }) (quiet-step known orders day.register quiet)
    ∙ ap (λ ts. record { register = day.register; trades = ts }) (append-nil day.trades)

-- sheets without steps leave it as it is
pub quiet-days : (known : Known) (rows : List NumberedOrder) (from count : ℕ) (day : Day) → busy_sheets known rows from count day ≡ 0 → days_behind known rows from count day ≡ day
quiet-days known rows from zero day none = refl
quiet-days known rows from (suc count) day none =
    let at_hand = known_on known (from + 1) in
    let orders = orders_under (from + 1) rows in
    let next = day_behind at_hand orders day in
    quiet-days known rows (from + 1) count next (omega arith) ∙ quiet-day at_hand orders day (omega arith)
