-- The trades that a sheet adds, phase by phase: dividends, letters that end by date, and orders.
use Rattle.std.proofs.Common.{All, Bool, List, None, Option, Some, [], ap, arith, cond, count_by, false, filter, fold, get_or, length, map, nat_lt, refl, subst, sum_by, sym, true, ℕ, ◌*◌, ◌+◌, ◌-◌, ◌==◌, ◌^◌, ◌||◌, ◌∙◌, ◌∷◌, ◌≡◌, ◌≤◌}
use Rattle.std.proofs.Math.Nat.{mul-le-mul}
use Rattle.std.proofs.lemmas.Bool.{and_parts, eqb-true, ltb-false, or_parts}
use Rattle.std.proofs.lemmas.List.{length-map}
use Rattle.std.proofs.lemmas.List.Elements.{All-cons, All-filter, All-head, All-map, All-nil, All-tail}
use Rattle.std.proofs.lemmas.List.Sums.{length-filter, sum_by-le}
use Rattle.std.specs.Option.{option_map_or}
use Rattle.agent_events.specs.declared.order.OrderRow.{OrderRow}
use Rattle.agent_events.specs.declared.request.ClassForm.{ClassForm}
use Rattle.agent_events.specs.declared.trade.Trade.{Trade}
use Rattle.dividend_reinvest.specs.Dividend.{cash_of as cents_paid, mils_of as mils_paid, passes_ceiling, payment, payment_of_cash}
use Rattle.dividend_reinvest.specs.declared.payment.Payment.{Payment}
use Rattle.forward_price.proofs.OrderlyFacts.{any_from, found_in}
use Rattle.forward_price.specs.Sheets.{lists_class}
use Rattle.forward_price.specs.declared.price_sheet.Sheet.{Sheet}
use Rattle.letter_of_intent.specs.Letters.{load_due, rate_earned}
use Rattle.letter_of_intent.specs.declared.letter.Letter.{Letter}
use Rattle.limit_laws.proofs.AddedTrades.{Adds, adds-both, adds-fewer, adds-none}
use Rattle.limit_laws.proofs.Counting.{sum-within}
use Rattle.limit_laws.proofs.FewPositions.{PositionsStand, few-in-class}
use Rattle.limit_laws.proofs.SmallTurns.{few-mils, turn-small}
use Rattle.limit_laws.specs.Counts.{positions_in}
use Rattle.limit_laws.specs.InForm.{most_rate}
use Rattle.limit_laws.specs.Limited.{IsLimited, RatesInRange, stands_among}
use Rattle.limit_laws.specs.SmallTrades.{IsLettersEnd, IsPayment, IsSmallTrade}
use Rattle.money_units.proofs.RoundingFacts.{half-le}
use Rattle.offering_price.proofs.RateFacts.{bracket-ceiling}
use Rattle.offering_price.specs.Accumulation.{bracket}
use Rattle.register_laws.proofs.Comparisons.{eq-yes}
use Rattle.register_laws.proofs.DayTurns.{dividend-turns, letter_end-turns, order-turns, reinvested, settled_by, trades_added, with_letter_ended}
use Rattle.register_laws.proofs.HouseholdCredit.{FoundAs, found-as}
use Rattle.register_laws.proofs.RegistersStand.{RegisterStands, looked_up-stands, turn-stands}
use Rattle.register_laws.proofs.ReplayTurns.{All-one}
use Rattle.register_laws.proofs.Sums.{found-of, sums-exchange}
use Rattle.register_laws.specs.ReplayKeeps.{AreKeptLetters, IsWithinLimits, KeepsLetter, RowInRange, SheetInRange, TermsWithinLimits}
use Rattle.register_machine.proofs.FoundFacts.{own-account, put-all}
use Rattle.register_machine.proofs.ListItems.{any-counted}
use Rattle.register_machine.specs.journal.Kinds.{class_numbered}
use Rattle.register_machine.specs.pricing.CorrectedBook.{Book, front_of}
use Rattle.register_machine.specs.pricing.DividendRates.{rate_at}
use Rattle.register_machine.specs.replay.DayStep.{day_after_order, day_after_orders}
use Rattle.register_machine.specs.replay.Dividend.{cash_dividend_trade, day_after_class, day_after_dividend, day_after_dividends, day_after_payment, day_after_rate, dividend_trade, is_of_class, keys_of_class, payment_on}
use Rattle.register_machine.specs.replay.Letter.{day_after_end_of, day_after_letter_end, day_after_letter_ends, has_letter_over, keys_of_letters_over, letter_end_trade, letter_is_over}
use Rattle.register_machine.specs.replay.Positions.{Position, PositionKey, Register, fresh_position, is_position, key_of, mils_of, position_at, position_of}
use Rattle.register_machine.specs.replay.Trades.{Day}
use Rattle.share_lots.specs.Lots.{cost_total, most_cost, most_mils}
use Rattle.dividend_reinvest.specs.declared.payment.Payment.TheVariants as pays

-- what stands of the register within a sheet: its positions, their accounts, and its letters
pub record StandsWithin (book : Book) (register : Register) : Type 0 where
  pub stand : RegisterStands register
  pub known : PositionsStand book.accounts register
  pub letters : AreKeptLetters register

pub record Phase (book : Book) (P : Trade → Type 0) (most : ℕ) (day after : Day) : Type 0 where
  pub within : StandsWithin book after.register
  pub adds : Adds P most day.trades after.trades

phase-both : (book : Book) (P : Trade → Type 0) (first second : ℕ) (day between after : Day) → Phase book P first day between → Phase book P second between after → Phase book P (first + second) day after
phase-both book P first second day between after one two =
    record { within = two.within; adds = adds-both P first second day.trades between.trades after.trades one.adds two.adds }

-- a key of an account
abbrev KnownKey : Book → PositionKey → Type 0
KnownKey book key = stands_among book.accounts key.account ≡ true

known-keys : (book : Book) (p : Position → Bool) (register : Register) → PositionsStand book.accounts register → All (KnownKey book) (map key_of (filter p register))
known-keys book p register known =
    All-map (KnownKey book) key_of (filter p register) (All-filter p (λ (x : Position). KnownKey book (key_of x)) register known)

-- over keys one after another
over-keys : (book : Book) (P : Trade → Type 0) (step : Day → PositionKey → Day) → ((day : Day) (key : PositionKey) → KnownKey book key → StandsWithin book day.register → Phase book P 1 day (step day key)) → (keys : List PositionKey) (day : Day) → All (KnownKey book) keys → StandsWithin book day.register → Phase book P (length keys) day (fold step day keys)
over-keys book P step one [] day known within = record { within = within; adds = adds-none P day.trades }
over-keys book P step one (key ∷ keys) day known within =
    let here = one day key (All-head (KnownKey book) key keys known) within in
    let rest = over-keys book P step one keys (step day key) (All-tail (KnownKey book) key keys known) here.within in
    let both = phase-both book P 1 (length keys) day (step day key) (fold step (step day key) keys) here rest in
    record { within = both.within; adds = adds-fewer P (1 + length keys) (length (key ∷ keys)) day.trades (fold step day (key ∷ keys)).trades (omega arith) both.adds }

-- ---- dividends

-- a payment is at most 10^14 cents, and reinvested in at most 10^12 mils
SmallPayment : Payment → Type 0
SmallPayment pays.Nothing = Unit {0}
SmallPayment (pays.Cash cash) = cash ≤ 10 ^ 14
SmallPayment (pays.Shares cash quantity) = (cash ≤ 10 ^ 14) × (quantity ≤ most_mils)

small-payment : (quantity rate nav : ℕ) (in_cash : Bool) (room cost_room : ℕ) → quantity ≤ most_mils → rate ≤ most_rate → room ≤ most_mils → SmallPayment (payment quantity rate nav in_cash room cost_room)
unfolding SmallPayment
small-payment quantity rate nav in_cash room cost_room few low fits =
    let cash = cents_paid quantity rate in
    let bought_mils = mils_paid cash nav in
    let product : quantity * rate ≤ most_mils * most_rate = mul-le-mul {n₁ = quantity} {m₁ = rate} {n₂ = most_mils} {m₂ = most_rate} few low in
    let small : cash ≤ 10 ^ 14 = half-le (quantity * rate) 10000000 (10 ^ 14) (omega arith) (omega (arith, product)) in
    elim (cash == 0) as (λ b. SmallPayment (cond b pays.Nothing (payment_of_cash in_cash cash bought_mils room cost_room))) [
      | true ↦ tt
      | false ↦ elim (in_cash || bought_mils == 0 || passes_ceiling bought_mils cash room cost_room) as (λ b. (in_cash || bought_mils == 0 || passes_ceiling bought_mils cash room cost_room) ≡ b → SmallPayment (cond b (pays.Cash cash) (pays.Shares cash bought_mils))) [
        | true ↦ λ e. small
        | false ↦ λ e.
            let parts = or_parts (in_cash || bought_mils == 0) (passes_ceiling bought_mils cash room cost_room) e in
            let ceilings = or_parts (nat_lt room bought_mils) (nat_lt cost_room cash) parts.1 in
            (small, omega (arith, ltb-false room bought_mils ceilings.0, fits))
      ] refl
    ]

-- what a position looked up keeps of its account and its letter
looked_up-letter : (register : Register) (a c : ℕ) → AreKeptLetters register → KeepsLetter (position_of register a c).letter
looked_up-letter register a c letters =
    found-of (λ (x : Position). KeepsLetter x.letter) (is_position a c) (fresh_position a c) tt register letters

looked_up-known : (book : Book) (register : Register) (key : PositionKey) → KnownKey book key → stands_among book.accounts (position_at register key).account ≡ true
looked_up-known book register key known =
    ap (stands_among book.accounts) (own-account register key.account key.class) ∙ known

after-payment : (book : Book) (sheet : Sheet) (day : Day) (key : PositionKey) (paid : Payment) → SmallPayment paid → KnownKey book key → StandsWithin book day.register → RegisterStands (day_after_payment sheet day (position_at day.register key) paid).register → Phase book IsPayment 1 day (day_after_payment sheet day (position_at day.register key) paid)
unfolding SmallPayment
after-payment book sheet day key pays.Nothing small known within stand =
    record { within = within; adds = adds-fewer IsPayment 0 1 day.trades day.trades (omega arith) (adds-none IsPayment day.trades) }
after-payment book sheet day key (pays.Cash cash) small known within stand = record {
  within = within;
  adds = record {
    added = cash_dividend_trade sheet (position_at day.register key) cash ∷ [];
    is = refl;
    all = All-one IsPayment (cash_dividend_trade sheet (position_at day.register key) cash)
        (record { kind = refl; small = record { cash = small; mils = omega arith; to_mils = omega arith } });
    few = omega arith;
  };
}
after-payment book sheet day key (pays.Shares cash quantity) small known within stand =
    let x = position_at day.register key in
    record {
      within = record {
        stand = stand;
        known = put-all (λ (p : Position). stands_among book.accounts p.account ≡ true) (reinvested sheet x cash quantity) day.register (looked_up-known book day.register key known) within.known;
        letters = put-all (λ (p : Position). KeepsLetter p.letter) (reinvested sheet x cash quantity) day.register (looked_up-letter day.register key.account key.class within.letters) within.letters;
      };
      adds = record {
        added = dividend_trade sheet x cash quantity ∷ [];
        is = refl;
        all = All-one IsPayment (dividend_trade sheet x cash quantity)
            (record { kind = refl; small = record { cash = small.0; mils = small.1; to_mils = omega arith } });
        few = omega arith;
      };
    }

after-dividend : (book : Book) (sheet : Sheet) (rate nav : ℕ) → rate ≤ most_rate → (day : Day) (key : PositionKey) → KnownKey book key → StandsWithin book day.register → Phase book IsPayment 1 day (day_after_dividend sheet rate nav day key)
after-dividend book sheet rate nav low day key known within =
    let x = position_at day.register key in
    let here = looked_up-stands day.register key.account key.class within.stand in
    let turns = dividend-turns book sheet rate nav day key in
    let stand = subst (λ (after : Day). RegisterStands after.register) turns.is (turn-stands book sheet day turns.turn within.stand) in
    after-payment book sheet day key (payment_on rate nav x)
    (small-payment (mils_of x.holding) rate nav x.in_cash (most_mils - mils_of x.holding) (most_cost - cost_total x.holding) (few-mils x here) low (omega arith))
    known within stand

after-class : (book : Book) (sheet : Sheet) → RatesInRange book.rates → (day : Day) (price : ℕ × ℕ) → StandsWithin book day.register → Phase book IsPayment (length book.accounts) day (day_after_class book.rates sheet day price)
after-class book sheet low day price within =
    let rate = rate_at book.rates price.0 sheet.moment in
    elim (rate == 0) as (λ b. Phase book IsPayment (length book.accounts) day (cond b day (day_after_rate sheet rate price day))) [
      | true ↦ record { within = within; adds = adds-fewer IsPayment 0 (length book.accounts) day.trades day.trades (omega arith) (adds-none IsPayment day.trades) }
      | false ↦
          let keys = keys_of_class price.0 day.register in
          let all = over-keys book IsPayment (day_after_dividend sheet rate price.1) (after-dividend book sheet rate price.1 (low price.0 sheet.moment)) keys day (known-keys book (is_of_class price.0) day.register within.known) within in
          let own = filter (is_of_class price.0) day.register in
          let few : length keys ≤ length book.accounts = omega (arith, few-in-class book.accounts day.register price.0 within.stand.in_order within.known, length-filter (is_of_class price.0) day.register, length-map own key_of) in
          record { within = all.within; adds = adds-fewer IsPayment (length keys) (length book.accounts) day.trades (day_after_rate sheet rate price day).trades few all.adds }
    ]

over-classes : (book : Book) (sheet : Sheet) → RatesInRange book.rates → (prices : List (ℕ × ℕ)) (day : Day) → StandsWithin book day.register → Phase book IsPayment (length prices * length book.accounts) day (fold (day_after_class book.rates sheet) day prices)
over-classes book sheet low [] day within = record {
  within = within;
  adds = adds-fewer IsPayment 0 (length {A = ℕ × ℕ} [] * length book.accounts) day.trades day.trades (omega arith) (adds-none IsPayment day.trades);
}
over-classes book sheet low (price ∷ prices) day within =
    let accounts = length book.accounts in
    let next = day_after_class book.rates sheet day price in
    let last = fold (day_after_class book.rates sheet) next prices in
    let here = after-class book sheet low day price within in
    let rest = over-classes book sheet low prices next here.within in
    let both = phase-both book IsPayment accounts (length prices * accounts) day next last here rest in
    record { within = both.within; adds = adds-fewer IsPayment (accounts + length prices * accounts) (length (price ∷ prices) * accounts) day.trades last.trades (omega arith) both.adds }

-- ---- letters that end by date

rate-low : (book : Book) (class amount : ℕ) → IsWithinLimits book → bracket (front_of book class) amount ≤ 850
rate-low book class amount within =
    by (class_numbered book.classes class) (found-as TermsWithinLimits (λ (other : ClassForm). other.class == class) book.classes within.terms)
  where
    by : (found : Option ClassForm) → FoundAs TermsWithinLimits found → bracket (option_map_or (λ (terms : ClassForm). terms.front) found []) amount ≤ 850
    by None is = omega arith
    by (Some form) is = bracket-ceiling form.front amount is.front

-- a letter has missed at most 850 basis points of less than 10^12 cents
due-low : (book : Book) (class : ℕ) (letter : Letter) → IsWithinLimits book → KeepsLetter (Some letter) → load_due (front_of book class) letter ≤ 85000000000
due-low book class letter within is =
    let earned = rate-low book class (letter.start + letter.bought) within in
    let more : rate_earned (front_of book class) letter - letter.rate ≤ 850 = omega (arith, earned, is.rate) in
    let product : letter.bought * (rate_earned (front_of book class) letter - letter.rate) ≤ 1000000000000 * 850 = mul-le-mul {n₁ = letter.bought} {m₁ = rate_earned (front_of book class) letter - letter.rate} {n₂ = 1000000000000} {m₂ = 850} (omega (arith, is.short, is.amount)) more in
    half-le (letter.bought * (rate_earned (front_of book class) letter - letter.rate)) 10000 85000000000 (omega arith) (omega (arith, product))

after-end_of : (book : Book) (sheet : Sheet) → IsWithinLimits book → (day : Day) (key : PositionKey) (letter : Option Letter) → (position_at day.register key).letter ≡ letter → KnownKey book key → StandsWithin book day.register → RegisterStands (day_after_end_of book sheet day (position_at day.register key) letter).register → Phase book IsLettersEnd 1 day (day_after_end_of book sheet day (position_at day.register key) letter)
after-end_of book sheet limits day key None is known within stand =
    record { within = within; adds = adds-fewer IsLettersEnd 0 1 day.trades day.trades (omega arith) (adds-none IsLettersEnd day.trades) }
after-end_of book sheet limits day key (Some letter) is known within stand =
    let x = position_at day.register key in
    let here = looked_up-stands day.register key.account key.class within.stand in
    let kept : KeepsLetter (Some letter) = subst KeepsLetter is (looked_up-letter day.register key.account key.class within.letters) in
    let due = due-low book x.class letter limits kept in
    record {
      within = record {
        stand = stand;
        known = put-all (λ (p : Position). stands_among book.accounts p.account ≡ true) (with_letter_ended book sheet x letter) day.register (looked_up-known book day.register key known) within.known;
        letters = put-all (λ (p : Position). KeepsLetter p.letter) (with_letter_ended book sheet x letter) day.register tt within.letters;
      };
      adds = record {
        added = letter_end_trade sheet x (settled_by book sheet x letter) ∷ [];
        is = refl;
        all = All-one IsLettersEnd (letter_end_trade sheet x (settled_by book sheet x letter))
            (record { kind = refl; small = record { cash = omega (arith, due); mils = omega (arith, few-mils x here); to_mils = omega arith } });
        few = omega arith;
      };
    }

after-letter_end : (book : Book) (sheet : Sheet) → IsWithinLimits book → (day : Day) (key : PositionKey) → KnownKey book key → StandsWithin book day.register → Phase book IsLettersEnd 1 day (day_after_letter_end book sheet day key)
after-letter_end book sheet limits day key known within =
    let turns = letter_end-turns book sheet day key in
    let stand = subst (λ (after : Day). RegisterStands after.register) turns.is (turn-stands book sheet day turns.turn within.stand) in
    after-end_of book sheet limits day key (position_at day.register key).letter refl known within stand

-- a letter ends on a position in a class of the sheet
one-price : (sheet : Sheet) (x : Position) → cond (has_letter_over sheet x) 1 0 ≤ sum_by (λ (price : ℕ × ℕ). cond (is_of_class price.0 x) 1 0) sheet.prices
one-price sheet x = by (has_letter_over sheet x) refl
  where
    by : (over : Bool) → has_letter_over sheet x ≡ over → cond over 1 0 ≤ sum_by (λ (price : ℕ × ℕ). cond (is_of_class price.0 x) 1 0) sheet.prices
    by false e = omega arith
    by true e =
        let parts = and_parts (lists_class sheet.prices x.class) (letter_is_over sheet x.letter) e in
        let price = found_in (λ (price : ℕ × ℕ). price.0 == x.class) sheet.prices parts.0 in
        any-counted (λ (price : ℕ × ℕ). is_of_class price.0 x) sheet.prices
        (any_from (λ (price : ℕ × ℕ). is_of_class price.0 x) sheet.prices price.0 price.1 (eq-yes x.class price.0.0 (sym (eqb-true price.0.0 x.class price.2))))

few-over : (book : Book) (sheet : Sheet) (register : Register) → StandsWithin book register → count_by (has_letter_over sheet) register ≤ length sheet.prices * length book.accounts
few-over book sheet register within =
    let each = sum-within (λ (x : Position). cond (has_letter_over sheet x) 1 0) (λ (x : Position). sum_by (λ (price : ℕ × ℕ). cond (is_of_class price.0 x) 1 0) sheet.prices) register
    (λ k d short. one-price sheet (get_or register k d)) in
    let turned = sums-exchange (λ (x : Position) (price : ℕ × ℕ). cond (is_of_class price.0 x) 1 0) register sheet.prices in
    let all = sum_by-le (λ (price : ℕ × ℕ). positions_in register price.0) (length book.accounts) sheet.prices
    (λ k d short. few-in-class book.accounts register (get_or sheet.prices k d).0 within.stand.in_order within.known) in
    omega (arith, each, turned, all)

after-letter_ends : (book : Book) (sheet : Sheet) → IsWithinLimits book → (day : Day) → StandsWithin book day.register → Phase book IsLettersEnd (length sheet.prices * length book.accounts) day (day_after_letter_ends book sheet day)
after-letter_ends book sheet limits day within =
    let keys = keys_of_letters_over sheet day.register in
    let all = over-keys book IsLettersEnd (day_after_letter_end book sheet) (after-letter_end book sheet limits) keys day (known-keys book (has_letter_over sheet) day.register within.known) within in
    let over = filter (has_letter_over sheet) day.register in
    let few : length keys ≤ length sheet.prices * length book.accounts = omega (arith, few-over book sheet day.register within, length-filter (has_letter_over sheet) day.register, length-map over key_of) in
    record { within = all.within; adds = adds-fewer IsLettersEnd (length keys) (length sheet.prices * length book.accounts) day.trades (day_after_letter_ends book sheet day).trades few all.adds }

-- ---- orders

pub after-orders : (book : Book) (sheet : Sheet) → SheetInRange sheet → (rows : List OrderRow) (day : Day) → All RowInRange rows → RegisterStands day.register → Adds IsSmallTrade (2 * length rows) day.trades (day_after_orders book sheet rows day).trades
after-orders book sheet low [] day asks stand =
    adds-fewer IsSmallTrade 0 (2 * length {A = OrderRow} []) day.trades day.trades (omega arith) (adds-none IsSmallTrade day.trades)
after-orders book sheet low (row ∷ rows) day asks stand =
    let next = day_after_order book sheet day row in
    let last = day_after_orders book sheet rows next in
    let turns = order-turns book sheet day row in
    let own = All-cons RowInRange row [] (All-head RowInRange row rows asks) (All-nil RowInRange) in
    let small = turn-small book sheet day.register turns.turn turns.keys low (subst (All RowInRange) (sym turns.rows) own) stand in
    let here : Adds IsSmallTrade 2 day.trades next.trades = record {
      added = trades_added book sheet day.register turns.turn;
      is = sym (ap (λ (after : Day). after.trades) turns.is);
      all = small.small;
      few = small.few;
    } in
    let still = subst (λ (after : Day). RegisterStands after.register) turns.is (turn-stands book sheet day turns.turn stand) in
    let rest = after-orders book sheet low rows next (All-tail RowInRange row rows asks) still in
    adds-fewer IsSmallTrade (2 + 2 * length rows) (2 * length (row ∷ rows)) day.trades last.trades (omega arith)
    (adds-both IsSmallTrade 2 (2 * length rows) day.trades next.trades last.trades here rest)

-- dividends and letters that end by date
pub after-dividends : (book : Book) (sheet : Sheet) → IsLimited book → (day : Day) → StandsWithin book day.register → Phase book IsPayment (length sheet.prices * length book.accounts) day (day_after_dividends book sheet day)
after-dividends book sheet limited day within = over-classes book sheet limited.rates sheet.prices day within

pub after-ends : (book : Book) (sheet : Sheet) → IsLimited book → (day : Day) → StandsWithin book day.register → Phase book IsLettersEnd (length sheet.prices * length book.accounts) day (day_after_letter_ends book sheet day)
after-ends book sheet limited day within = after-letter_ends book sheet limited.within day within
