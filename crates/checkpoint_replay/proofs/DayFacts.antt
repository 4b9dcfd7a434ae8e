-- Days behind one another: in two parts, and their trades behind those before.
use Rattle.std.proofs.Common.{List, ap, append-nil, arith, refl, suc, sym, zero, ℕ, ◌++◌, ◌+◌, ◌<◌, ◌∙◌, ◌≡◌, ◌≤◌}
use Rattle.std.proofs.lemmas.List.{append_assoc}
use Rattle.agent_events.specs.declared.order.Order.{Order}
use Rattle.agent_events.specs.declared.trade.Trade.{Trade}
use Rattle.household_fold.specs.Facts.{Known}
use Rattle.household_fold.specs.Households.{first_of, step_known}
use Rattle.checkpoint_replay.specs.Replays.{NumberedOrder, day_behind, days_behind, known_on, orders_under}
use Rattle.register_machine.specs.replay.Trades.{Day}

-- so many sheets, and then so many more
pub days_split : (known : Known) (rows : List NumberedOrder) (from first more : ℕ) (day : Day) → days_behind known rows from (first + more) day ≡ days_behind known rows (from + first) more (days_behind known rows from first day)
days_split known rows from zero more day =
    ap (λ n. days_behind known rows from n day) (let e : 0 + more ≡ more = omega arith in e)
    ∙ ap (λ n. days_behind known rows n more day) (let e : from ≡ from + 0 = omega arith in e)
days_split known rows from (suc first) more day =
    let next = day_behind (known_on known (from + 1)) (orders_under (from + 1) rows) day in
    ap (λ n. days_behind known rows from n day) (let e : suc first + more ≡ suc (first + more) = omega arith in e)
    ∙ (days_split known rows (from + 1) first more next
    ∙ ap (λ n. days_behind known rows n more (days_behind known rows (from + 1) first next)) (let e : from + 1 + first ≡ from + suc first = omega arith in e))

-- a day with trades before its own
abbrev pub with_trades_before : List Trade → Day → Day
with_trades_before trades day = record { register = day.register; trades = trades ++ day.trades }

behind-before : (known : Known) (orders : List Order) (trades : List Trade) (day : Day) → day_behind known orders (with_trades_before trades day) ≡ with_trades_before trades (day_behind known orders day)
behind-before known orders trades day =
    ap (λ ts. record { register = (step_known known orders day.register).register; trades = ts })
    (append_assoc trades day.trades (step_known known orders day.register).trades)

-- trades before it stay before all
pub days-before : (known : Known) (rows : List NumberedOrder) (from count : ℕ) (trades : List Trade) (day : Day) → days_behind known rows from count (with_trades_before trades day) ≡ with_trades_before trades (days_behind known rows from count day)
days-before known rows from zero trades day = refl
days-before known rows from (suc count) trades day =
    let at_hand = known_on known (from + 1) in
    let orders = orders_under (from + 1) rows in
    ap (days_behind known rows (from + 1) count) (behind-before at_hand orders trades day)
    ∙ days-before known rows (from + 1) count trades (day_behind at_hand orders day)

-- so a replay from a day is that from its register, behind its trades
pub days_from : (known : Known) (rows : List NumberedOrder) (from count : ℕ) (day : Day) → days_behind known rows from count day ≡ with_trades_before day.trades (days_behind known rows from count (first_of day.register))
days_from known rows from count day =
    ap (λ ts. days_behind known rows from count (record { register = day.register; trades = ts })) (sym (append-nil day.trades))
    ∙ days-before known rows from count day.trades (first_of day.register)

-- the orders of other sheets don't matter
pub days_alike : (known : Known) (rows others : List NumberedOrder) (from count : ℕ) → ((sheet : ℕ) → from < sheet → sheet ≤ from + count → orders_under sheet rows ≡ orders_under sheet others) → (day : Day) → days_behind known rows from count day ≡ days_behind known others from count day
days_alike known rows others from zero alike day = refl
days_alike known rows others from (suc count) alike day =
    let at_hand = known_on known (from + 1) in
    ap (λ os. days_behind known rows (from + 1) count (day_behind at_hand os day)) (alike (from + 1) (omega arith) (omega arith))
    ∙ days_alike known rows others (from + 1) count (λ sheet above within. alike sheet (omega arith) (omega arith))
    (day_behind at_hand (orders_under (from + 1) others) day)

-- nor does the sheet that the facts have at hand
pub days_on : (known : Known) (rows : List NumberedOrder) (sheet from count : ℕ) (day : Day) → days_behind (known_on known sheet) rows from count day ≡ days_behind known rows from count day
days_on known rows sheet from zero day = refl
days_on known rows sheet from (suc count) day =
    days_on known rows sheet (from + 1) count (day_behind (known_on known (from + 1)) (orders_under (from + 1) rows) day)
