-- A sheet that is quiet for a household changes nothing.
use Rattle.std.proofs.Common.{◌*◌, ◌-◌, Bool, List, None, Option, Some, [], ap, arith, cond, false, find, fold, get_or, length, map, not, refl, sym, true, unwrap_or, ℕ, ◌&&◌, ◌==◌, ◌||◌, ◌∙◌, ◌∷◌, ◌≡◌, All}
use Rattle.std.specs.List.{list_any}
use Rattle.fund_calendar.proofs.LookUpLemmas.{find_passes}
use Rattle.household_fold.proofs.DividendFacts.{keys-of_class}
use Rattle.household_positions.proofs.ListParts.{filter-none}
use Rattle.money_units.proofs.RoundingFacts.{half-zero}
use Rattle.money_units.specs.Rounding.{half}
use Rattle.register_machine.proofs.FoundFacts.{same-place}
use Rattle.register_machine.proofs.ListItems.{none-all}
use Rattle.share_lots.specs.Lots.{cost_total, most_cost, most_mils}
use Rattle.std.proofs.lemmas.Bool.{and_parts, eq-eqb, eqb-true, true≢false}
use Rattle.std.proofs.lemmas.List.Folds.{list_any_at}
use Rattle.std.proofs.lemmas.List.Elements.{All-head, All-tail}
use Rattle.agent_events.specs.declared.order.Order.{Order}
use Rattle.dividend_reinvest.specs.Dividend.{cash_of, mils_of as mils_bought, payment_of_cash, passes_ceiling, payment}
use Rattle.dividend_reinvest.specs.declared.payment.Payment.TheVariants as pays
use Rattle.forward_price.specs.Sheets.{lists_class}
use Rattle.household_fold.specs.Facts.{Known, book_of_facts, sheet_at_hand}
use Rattle.household_fold.specs.Households.{first_of, step_known}
use Rattle.household_fold.specs.Quiet.{is_paid, is_payment, is_quiet_for, payment_of}
use Rattle.household_fold.proofs.PutFacts.{find-all}
use Rattle.register_machine.specs.pricing.DividendRates.{rate_at}
use Rattle.register_machine.specs.replay.DayStep.{day_step}
use Rattle.register_machine.specs.replay.Dividend.{day_after_class, day_after_dividend, day_after_dividends, day_after_payment, day_after_rate, keys_of_class, payment_on}
use Rattle.register_machine.specs.replay.Letter.{day_after_letter_end, day_after_letter_ends, has_letter_over}
use Rattle.register_machine.specs.replay.Positions.{Position, PositionKey, Register, fresh_position, is_position, key_of, mils_of, position_of}
use Rattle.register_machine.specs.replay.Trades.{Day, nav_of}

-- steps that change nothing, one after another
fold-still : {D E : Type 0} (step : D → E → D) (d : D) (es : List E) → All (λ e. step d e ≡ d) es → fold step d es ≡ d
fold-still step d [] still = refl
fold-still step d (e ∷ es) still =
    ap (λ x. fold step x es) (All-head (λ e. step d e ≡ d) e es still) ∙ fold-still step d es (All-tail (λ e. step d e ≡ d) e es still)

-- no payment at one net asset value is none at any
paid-some : (in_cash : Bool) (cash mils room cost_room : ℕ) → is_payment (payment_of_cash in_cash cash mils room cost_room) ≡ true
paid-some in_cash cash mils room cost_room =
    elim (in_cash || mils == 0 || passes_ceiling mils cash room cost_room) as (λ b. is_payment (cond b (pays.Cash cash) (pays.Shares cash mils)) ≡ true) [
      | true ↦ refl
      | false ↦ refl
    ]

payment-none : (mils rate nav other : ℕ) (in_cash : Bool) (room cost_room : ℕ) → is_payment (payment mils rate nav in_cash room cost_room) ≡ false
    → payment mils rate other in_cash room cost_room ≡ pays.Nothing
payment-none mils rate nav other in_cash room cost_room none =
    elim (cash_of mils rate == 0) as (λ b. is_payment (cond b pays.Nothing (payment_of_cash in_cash (cash_of mils rate) (mils_bought (cash_of mils rate) nav) room cost_room)) ≡ false
    → cond b pays.Nothing (payment_of_cash in_cash (cash_of mils rate) (mils_bought (cash_of mils rate) other) room cost_room) ≡ pays.Nothing) [
      | true ↦ λ e. refl
      | false ↦ λ e. absurd (true≢false (sym (paid-some in_cash (cash_of mils rate) (mils_bought (cash_of mils rate) nav) room cost_room) ∙ e))
    ] none

none-on : (rate nav other : ℕ) (position : Position) → is_payment (payment_on rate nav position) ≡ false → payment_on rate other position ≡ pays.Nothing
none-on rate nav other position none =
    payment-none (mils_of position.holding) rate nav other position.in_cash (most_mils - mils_of position.holding) (most_cost - cost_total position.holding) none

fresh-none : (rate nav account class : ℕ) → payment_on rate nav (fresh_position account class) ≡ pays.Nothing
fresh-none rate nav account class =
    let none : cash_of 0 rate ≡ 0 = (let zeros : 0 * rate ≡ 0 = omega arith in ap (λ n. half n 10000000) zeros ∙ half-zero 10000000 (omega arith)) in
    ap (λ cash. cond (cash == 0) pays.Nothing (payment_of_cash false cash (mils_bought cash nav) most_mils most_cost)) none

-- where no position is paid on, no dividend changes the day
unpaid-found : (known : Known) (register : Register) (a class nav : ℕ) → All (λ p. is_paid known p ≡ false) register
    → lists_class (sheet_at_hand known).prices class ≡ true
    → payment_on (rate_at (book_of_facts known).rates class (sheet_at_hand known).moment) nav (position_of register a class) ≡ pays.Nothing
unpaid-found known register a class nav unpaid listed = by (find (is_position a class) register) refl
  where
    rate : ℕ
    rate = rate_at (book_of_facts known).rates class (sheet_at_hand known).moment

    by : (o : Option Position) → find (is_position a class) register ≡ o → payment_on (rate_at (book_of_facts known).rates class (sheet_at_hand known).moment) nav (unwrap_or o (fresh_position a class)) ≡ pays.Nothing
    by None e = fresh-none (rate_at (book_of_facts known).rates class (sheet_at_hand known).moment) nav a class
    by (Some p) e =
        let of : p.class ≡ class = (same-place a class p (find_passes (is_position a class) register p e)).1 in
        let fails : is_paid known p ≡ false = find-all (λ x. is_paid known x ≡ false) (is_position a class) register unpaid p e in
        let at : (lists_class (sheet_at_hand known).prices class && is_payment (payment_of known class p)) ≡ false = ap (λ c. lists_class (sheet_at_hand known).prices c && is_payment (payment_of known c p)) (sym of) ∙ fails in
        let none : is_payment (payment_of known class p) ≡ false = ap (λ b. b && is_payment (payment_of known class p)) (sym listed) ∙ at in
        none-on (rate_at (book_of_facts known).rates class (sheet_at_hand known).moment) (nav_of (sheet_at_hand known) class) nav p none

still-key : (known : Known) (day : Day) (class nav : ℕ) (key : PositionKey) → All (λ p. is_paid known p ≡ false) day.register
    → lists_class (sheet_at_hand known).prices class ≡ true → key.class ≡ class
    → day_after_dividend (sheet_at_hand known) (rate_at (book_of_facts known).rates class (sheet_at_hand known).moment) nav day key ≡ day
still-key known day class nav key unpaid listed of =
    let rate = rate_at (book_of_facts known).rates class (sheet_at_hand known).moment in
    let p = position_of day.register key.account class in
    ap (λ c. day_after_payment (sheet_at_hand known) day (position_of day.register key.account c) (payment_on rate nav (position_of day.register key.account c))) of
    ∙ ap (day_after_payment (sheet_at_hand known) day p) (unpaid-found known day.register key.account class nav unpaid listed)

still-class : (known : Known) (day : Day) (price : ℕ × ℕ) → All (λ p. is_paid known p ≡ false) day.register
    → lists_class (sheet_at_hand known).prices price.0 ≡ true → day_after_class (book_of_facts known).rates (sheet_at_hand known) day price ≡ day
still-class known day price unpaid listed =
    let rate = rate_at (book_of_facts known).rates price.0 (sheet_at_hand known).moment in
    let of_class = keys-of_class price.0 day.register in
    elim (rate == 0) as (λ b. cond b day (day_after_rate (sheet_at_hand known) rate price day) ≡ day) [
      | true ↦ refl
      | false ↦
          fold-still (day_after_dividend (sheet_at_hand known) rate price.1) day (keys_of_class price.0 day.register)
          (λ k d short. still-key known day price.0 price.1 (get_or (keys_of_class price.0 day.register) k d) unpaid listed (of_class k d short))
    ]

pub still-dividends : (known : Known) (day : Day) → list_any (is_paid known) day.register ≡ false → day_after_dividends (book_of_facts known) (sheet_at_hand known) day ≡ day
still-dividends known day none =
    let unpaid = none-all (is_paid known) day.register none in
    let prices = (sheet_at_hand known).prices in
    fold-still (day_after_class (book_of_facts known).rates (sheet_at_hand known)) day prices
    (λ k d short.
    let class = (get_or prices k d).0 in
    still-class known day (get_or prices k d) unpaid (list_any_at (λ (price : ℕ × ℕ). price.0 == class) prices k d short (eq-eqb class class refl)))

-- where no letter ends, none changes the day
pub still-letters : (known : Known) (day : Day) → list_any (has_letter_over (sheet_at_hand known)) day.register ≡ false
    → day_after_letter_ends (book_of_facts known) (sheet_at_hand known) day ≡ day
still-letters known day none =
    let sheet = sheet_at_hand known in
    let book = book_of_facts known in
    ap (λ positions. fold (day_after_letter_end book sheet) day (map key_of positions))
    (filter-none (has_letter_over sheet) day.register (none-all (has_letter_over sheet) day.register none))

-- and with no order the step changes nothing
no-orders : (orders : List Order) → (length orders == 0) ≡ true → orders ≡ []
no-orders [] e = refl
no-orders (order ∷ orders) e = let none = eqb-true (length (order ∷ orders)) 0 e in absurd (omega (arith, none))

pub quiet-step : (known : Known) (orders : List Order) (register : Register) → is_quiet_for known orders register ≡ true → step_known known orders register ≡ first_of register
unfolding day_step
quiet-step known orders register quiet =
    let first = and_parts (length orders == 0) (not (list_any (is_paid known) register) && not (list_any (has_letter_over (sheet_at_hand known)) register)) quiet in
    let rest = and_parts (not (list_any (is_paid known) register)) (not (list_any (has_letter_over (sheet_at_hand known)) register)) first.1 in
    let book = book_of_facts known in
    let sheet = sheet_at_hand known in
    ap (λ (os : List Order). step_known known os register) (no-orders orders first.0)
    ∙ (ap (day_after_letter_ends book sheet) (still-dividends known (first_of register) (not-true (list_any (is_paid known) register) rest.0))
    ∙ still-letters known (first_of register) (not-true (list_any (has_letter_over sheet) register) rest.1))
  where
    not-true : (b : Bool) → not b ≡ true → b ≡ false
    not-true true e = absurd (true≢false (sym e))
    not-true false e = refl
