-- What a replay asks: one sheet leaves it to the sheets behind it.
use Rattle.std.proofs.Common.{List, arith, subst, suc, sym, zero, ℕ, ◌+◌, ◌≡◌}
use Rattle.std.proofs.lemmas.List.Elements.{All-weaker}
use Rattle.agent_events.specs.declared.order.Order.{Order}
use Rattle.household_fold.proofs.DividendFacts.{classes-grow}
use Rattle.household_fold.proofs.LotNumbers.{numbers-before}
use Rattle.household_fold.proofs.OrdersInTurn.{orders-owned}
use Rattle.household_fold.proofs.SheetSteps.{dividends-owned, ends-owned, numbers-after_dividends, step-parts}
use Rattle.household_fold.specs.Facts.{FactsFit, Known, book_of_facts, sheet_at_hand}
use Rattle.household_fold.specs.Households.{AreOrdersOf, AreOwned, IsOwnPlace, first_of, step_known}
use Rattle.household_fold.specs.Numbers.{AreNumbersWithin}
use Rattle.checkpoint_replay.proofs.DayFacts.{days_split}
use Rattle.checkpoint_replay.specs.Premises.{CanBeReplayed}
use Rattle.checkpoint_replay.specs.Replays.{NumberedOrder, day_behind, days_behind, known_on, orders_under}
use Rattle.register_machine.specs.replay.Dividend.{day_after_dividends}
use Rattle.register_machine.specs.replay.Letter.{day_after_letter_ends}
use Rattle.register_machine.specs.replay.Positions.{Position, Register}
use Rattle.register_machine.specs.replay.Trades.{Day}

-- ---- whose the positions are doesn't depend on the sheet at hand

pub owned_on : (known : Known) (sheet household : ℕ) (register : Register) → AreOwned known household register → AreOwned (known_on known sheet) household register
owned_on known sheet household register owned =
    All-weaker (λ (p : Position). IsOwnPlace known household p.account p.class) (λ p. IsOwnPlace (known_on known sheet) household p.account p.class)
    (λ p is. record { owner = is.owner; terms = is.terms }) register owned

pub owned_off : (known : Known) (sheet household : ℕ) (register : Register) → AreOwned (known_on known sheet) household register → AreOwned known household register
owned_off known sheet household register owned =
    All-weaker (λ (p : Position). IsOwnPlace (known_on known sheet) household p.account p.class) (λ p. IsOwnPlace known household p.account p.class)
    (λ p is. record { owner = is.owner; terms = is.terms }) register owned

-- ---- one sheet

-- the positions stay the household's
pub step-owned : (known : Known) (household : ℕ) (orders : List Order) (register : Register) → FactsFit known → AreOrdersOf known household orders → AreOwned known household register → AreOwned known household (step_known known orders register).register
step-owned known household orders register fit are owned =
    let book = book_of_facts known in
    let sheet = sheet_at_hand known in
    let paid = day_after_dividends book sheet (first_of register) in
    let P : Day → Type 0 = λ d. AreOwned known household d.register in
    subst P (sym (step-parts known orders register))
    (orders-owned known household orders (day_after_letter_ends book sheet paid) fit are
    (ends-owned known household book sheet paid (dividends-owned known household book sheet (first_of register) owned)))

-- numbers of lots that are within their bound at its end were so at its beginning
pub step-numbers : (known : Known) (orders : List Order) (register : Register) → AreNumbersWithin (step_known known orders register).register → AreNumbersWithin register
step-numbers known orders register within =
    let book = book_of_facts known in
    let sheet = sheet_at_hand known in
    let paid = day_after_dividends book sheet (first_of register) in
    let P : Day → Type 0 = λ d. AreNumbersWithin d.register in
    numbers-before register paid.register (classes-grow book.rates sheet (first_of register) sheet.prices)
    (numbers-after_dividends known orders paid (subst P (step-parts known orders register) within))

-- and so over many sheets
pub days_numbers : (known : Known) (rows : List NumberedOrder) (from count : ℕ) (day : Day) → AreNumbersWithin (days_behind known rows from count day).register → AreNumbersWithin day.register
days_numbers known rows from zero day within = within
days_numbers known rows from (suc count) day within =
    let at_hand = known_on known (from + 1) in
    let orders = orders_under (from + 1) rows in
    step-numbers at_hand orders day.register (days_numbers known rows (from + 1) count (day_behind at_hand orders day) within)

-- ---- what the next sheet is given, and what it leaves

pub next-facts : (known : Known) (household : ℕ) (rows : List NumberedOrder) (from count : ℕ) (day : Day) → CanBeReplayed known household rows from (suc count) day → FactsFit (known_on known (from + 1))
next-facts known household rows from count day can = can.facts (from + 1) (omega arith) (omega arith)

pub next-orders : (known : Known) (household : ℕ) (rows : List NumberedOrder) (from count : ℕ) (day : Day) → CanBeReplayed known household rows from (suc count) day → AreOrdersOf (known_on known (from + 1)) household (orders_under (from + 1) rows)
next-orders known household rows from count day can = can.orders (from + 1) (omega arith) (omega arith)

pub next-lots : (known : Known) (household : ℕ) (rows : List NumberedOrder) (from count : ℕ) (day : Day) → CanBeReplayed known household rows from (suc count) day → AreNumbersWithin (step_known (known_on known (from + 1)) (orders_under (from + 1) rows) day.register).register
next-lots known household rows from count day can =
    days_numbers known rows (from + 1) count (day_behind (known_on known (from + 1)) (orders_under (from + 1) rows) day) can.lots

pub can-go_on : (known : Known) (household : ℕ) (rows : List NumberedOrder) (from count : ℕ) (day : Day) → CanBeReplayed known household rows from (suc count) day → CanBeReplayed known household rows (from + 1) count (day_behind (known_on known (from + 1)) (orders_under (from + 1) rows) day)
can-go_on known household rows from count day can =
    let at_hand = known_on known (from + 1) in
    let orders = orders_under (from + 1) rows in
    record {
      facts = λ sheet above within. can.facts sheet (omega arith) (omega arith);
      orders = λ sheet above within. can.orders sheet (omega arith) (omega arith);
      owned = owned_off known (from + 1) household (step_known at_hand orders day.register).register
          (step-owned at_hand household orders day.register (next-facts known household rows from count day can) (next-orders known household rows from count day can)
          (owned_on known (from + 1) household day.register can.owned));
      lots = can.lots;
    }

-- so many sheets, and then those behind them
pub can_part : (known : Known) (household : ℕ) (rows : List NumberedOrder) (from first more : ℕ) (day : Day) → CanBeReplayed known household rows from (first + more) day → CanBeReplayed known household rows (from + first) more (days_behind known rows from first day)
can_part known household rows from zero more day can =
    let P : ℕ → Type 0 = λ n. CanBeReplayed known household rows from n day in
    let Q : ℕ → Type 0 = λ n. CanBeReplayed known household rows n more day in
    subst Q (let e : from ≡ from + 0 = omega arith in e) (subst P (let e : 0 + more ≡ more = omega arith in e) can)
can_part known household rows from (suc first) more day can =
    let next = day_behind (known_on known (from + 1)) (orders_under (from + 1) rows) day in
    let P : ℕ → Type 0 = λ n. CanBeReplayed known household rows from n day in
    let Q : ℕ → Type 0 = λ n. CanBeReplayed known household rows n more (days_behind known rows (from + 1) first next) in
    subst Q (let e : from + 1 + first ≡ from + suc first = omega arith in e)
    (can_part known household rows (from + 1) first more next
    (can-go_on known household rows from (first + more) day (subst P (let e : suc first + more ≡ suc (first + more) = omega arith in e) can)))

pub can_begin : (known : Known) (household : ℕ) (rows : List NumberedOrder) (from first more : ℕ) (day : Day) → CanBeReplayed known household rows from (first + more) day → CanBeReplayed known household rows from first day
can_begin known household rows from first more day can =
    let P : Day → Type 0 = λ d. AreNumbersWithin d.register in
    record {
      facts = λ sheet above within. can.facts sheet above (omega arith);
      orders = λ sheet above within. can.orders sheet above (omega arith);
      owned = can.owned;
      lots = days_numbers known rows (from + first) more (days_behind known rows from first day) (subst P (days_split known rows from first more day) can.lots);
    }
