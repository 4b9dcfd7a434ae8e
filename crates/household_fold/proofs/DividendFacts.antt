-- Dividends: what the parts make of the day of the definitions, and lot numbers on the way.
use Rattle.std.proofs.Common.{All, List, [], ap, arith, cond, drop, false, filter, fold, get_or, length, map, refl, subst, sym, true, ℕ, ◌+◌, ◌<◌, ◌==◌, ◌∙◌, ◌∷◌, ◌≡◌}
use Rattle.std.proofs.lemmas.Bool.{eqb-true, ne_eqb}
use Rattle.std.proofs.lemmas.List.{at_drop_more}
use Rattle.std.proofs.lemmas.List.Elements.{All-cons, All-nil}
use Rattle.agent_events.specs.declared.trade.Trade.{Trade}
use Rattle.agent_events.specs.declared.trade.TradeKind.{TradeKind}
use Rattle.dividend_reinvest.specs.declared.payment.Payment.{Payment}
use Rattle.dividend_reinvest.specs.declared.payment.Payment.TheVariants as pays
use Rattle.forward_price.specs.declared.price_sheet.Sheet.{Sheet}
use Rattle.household_positions.specs.Register.{day_without}
use Rattle.household_positions.proofs.DayFacts.{close-back}
use Rattle.register_machine.proofs.FoundFacts.{own-account, own-class}
use Rattle.register_machine.specs.replay.Dividend.{day_after_class, day_after_dividend, day_after_payment, day_after_rate, is_of_class, keys_of_class, payment_on}
use Rattle.register_machine.specs.pricing.DividendRates.{Rates, rate_at}
use Rattle.register_machine.specs.replay.Positions.{Position, PositionKey, Register, key_of, position_of, with_holding}
use Rattle.register_machine.specs.replay.Trades.{Day, day_after_trade, nav_of, plain_trade, with_trade}
use Rattle.share_lots.specs.Lots.{Added, Holding, shares_added}
use Rattle.share_lots.proofs.AddedLemmas.{next_kept}
use Rattle.household_fold.specs.Facts.{Known, book_of_facts, sheet_at_hand}
use Rattle.household_fold.specs.Numbers.{AreNumbersWithin}
use Rattle.household_fold.proofs.LotNumbers.{Grows, grows-over, grows-put, grows-same, next_of, numbers-before}

-- the trade of a reinvested dividend, by account and class
abbrev shares_at : Sheet → ℕ → ℕ → ℕ → ℕ → Trade
shares_at sheet cash mils a c =
    record (plain_trade sheet a c TradeKind.DividendShares) { price = nav_of sheet c; mils = mils; cash = cash }

abbrev cash_at : Sheet → ℕ → ℕ → ℕ → Trade
cash_at sheet cash a c = record (plain_trade sheet a c TradeKind.DividendCash) { cash = cash }

same-pair : {X : Type 0} (f : ℕ → ℕ → X) (a b c d : ℕ) → a ≡ b → c ≡ d → f a c ≡ f b d
same-pair f a b c d one two = ap (λ x. f x c) one ∙ ap (λ y. f b y) two

-- a position with its new lot goes back, with its trade
pub reinvested : (sheet : Sheet) (day before after : Day) (a c cash mils number : ℕ) (x : Position) (h : Holding) (trade : Trade)
    → before ≡ day_without a c day → x ≡ position_of day.register a c
    → record { number = number; holding = h } ≡ shares_added x.holding sheet.day mils cash true
    → trade ≡ record (plain_trade sheet a c TradeKind.DividendShares) { price = nav_of sheet c; mils = mils; cash = cash }
    → after ≡ day_after_trade before (with_holding x h) trade
    → after ≡ day_after_payment sheet day (position_of day.register a c) (pays.Shares cash mils)
reinvested sheet day before after a c cash mils number x h trade before_is x_is h_is trade_is after_is =
    let held : h ≡ (shares_added x.holding sheet.day mils cash true).holding = ap (λ (it : Added). it.holding) h_is in
    let p = position_of day.register a c in
    let left = with_holding p (shares_added p.holding sheet.day mils cash true).holding in
    after_is
    ∙ (rw (before_is, trade_is, held, x_is)
    (close-back day a c left (shares_at sheet cash mils a c) (own-account day.register a c) (own-class day.register a c)
    ∙ ap (day_after_trade day left) (same-pair (shares_at sheet cash mils) a p.account c p.class (sym (own-account day.register a c)) (sym (own-class day.register a c)))))

-- cash changes no position
pub paid-cash : (sheet : Sheet) (day : Day) (a c cash : ℕ) (payment : Payment) → payment ≡ pays.Cash cash
    → with_trade day (record (plain_trade sheet a c TradeKind.DividendCash) { cash = cash }) ≡ day_after_payment sheet day (position_of day.register a c) payment
paid-cash sheet day a c cash payment is =
    let p = position_of day.register a c in
    rw is (ap (with_trade day) (same-pair (cash_at sheet cash) a p.account c p.class (sym (own-account day.register a c)) (sym (own-class day.register a c))))

-- lot numbers
payment-grows : (sheet : Sheet) (day : Day) (a c : ℕ) (payment : Payment) → Grows day.register (day_after_payment sheet day (position_of day.register a c) payment).register
payment-grows sheet day a c pays.Nothing = grows-same day.register
payment-grows sheet day a c (pays.Cash cash) = grows-same day.register
payment-grows sheet day a c (pays.Shares cash mils) =
    let p = position_of day.register a c in
    let left = with_holding p (shares_added p.holding sheet.day mils cash true).holding in
    let same : next_of day.register p.account p.class ≡ p.holding.next_lot = same-pair (next_of day.register) p.account a p.class c (own-account day.register a c) (own-class day.register a c) in
    grows-put left day.register (omega (arith, same, next_kept p.holding sheet.day mils cash true))

pub dividend-grows : (sheet : Sheet) (rate nav : ℕ) (day : Day) (key : PositionKey) → Grows day.register (day_after_dividend sheet rate nav day key).register
dividend-grows sheet rate nav day key =
    payment-grows sheet day key.account key.class (payment_on rate nav (position_of day.register key.account key.class))

pub dividends-grow : (sheet : Sheet) (rate nav : ℕ) (day : Day) (keys : List PositionKey) → Grows day.register (fold (day_after_dividend sheet rate nav) day keys).register
dividends-grow sheet rate nav day keys = grows-over (λ (d : Day). d.register) (day_after_dividend sheet rate nav) (dividend-grows sheet rate nav) day keys

pub class-grows : (rates : Rates) (sheet : Sheet) (day : Day) (price : ℕ × ℕ) → Grows day.register (day_after_class rates sheet day price).register
class-grows rates sheet day price =
    elim (rate_at rates price.0 sheet.moment == 0) as (λ b. Grows day.register (cond b day (day_after_rate sheet (rate_at rates price.0 sheet.moment) price day)).register) [
      | true ↦ grows-same day.register
      | false ↦ dividends-grow sheet (rate_at rates price.0 sheet.moment) price.1 day (keys_of_class price.0 day.register)
    ]

pub classes-grow : (rates : Rates) (sheet : Sheet) (day : Day) (prices : List (ℕ × ℕ)) → Grows day.register (fold (day_after_class rates sheet) day prices).register
classes-grow rates sheet day prices = grows-over (λ (d : Day). d.register) (day_after_class rates sheet) (class-grows rates sheet) day prices

-- one more element of a fold that goes on over the rest of a list
pub fold-drop : {D E : Type 0} (step : D → E → D) (day : D) (es : List E) (i : ℕ) (e : E) → i < length es → fold step day (drop i es) ≡ fold step (step day (get_or es i e)) (drop (i + 1) es)
fold-drop step day es i e short = at_drop_more (fold step day) es i e short

-- the keys of a class
pub keys-of_class : (class : ℕ) (register : Register) → All (λ key. key.class ≡ class) (keys_of_class class register)
keys-of_class class [] = All-nil (λ (key : PositionKey). key.class ≡ class)
keys-of_class class (x ∷ xs) =
    elim (x.class == class) as (λ b. (x.class == class) ≡ b → All (λ key. key.class ≡ class) (map key_of (cond b (x ∷ filter (is_of_class class) xs) (filter (is_of_class class) xs)))) [
      | true ↦ λ e. All-cons (λ (key : PositionKey). key.class ≡ class) (key_of x) (map key_of (filter (is_of_class class) xs)) (eqb-true x.class class e) (keys-of_class class xs)
      | false ↦ λ e. keys-of_class class xs
    ] refl

-- a bound on numbers at the end of a fold over keys is one behind the next key
pub numbers-at_key : (sheet : Sheet) (rate nav : ℕ) (day later : Day) (keys : List PositionKey) (i account class : ℕ) (key : PositionKey)
    → i < length keys → All (λ k. k.class ≡ class) keys → key ≡ get_or keys i key → account ≡ key.account
    → fold (day_after_dividend sheet rate nav) day (drop i keys) ≡ later → AreNumbersWithin later.register
    → AreNumbersWithin (day_after_dividend sheet rate nav day (record { account = account; class = class })).register
numbers-at_key sheet rate nav day later keys i account class key short of_class is account_is end within =
    let step = day_after_dividend sheet rate nav in
    let class_is : key.class ≡ class = ap (λ (k : PositionKey). k.class) is ∙ of_class i key short in
    let at_key : step day (record { account = account; class = class }) ≡ step day (get_or keys i key) =
    same-pair (λ a c. step day (record { account = a; class = c })) account key.account class key.class account_is (sym class_is) ∙ ap (step day) is in
    let all = sym end ∙ fold-drop step day keys i key short in
    let rest = subst (λ (d : Day). AreNumbersWithin d.register) all within in
    subst (λ (d : Day). AreNumbersWithin d.register) (sym at_key)
    (numbers-before (step day (get_or keys i key)).register (fold step (step day (get_or keys i key)) (drop (i + 1) keys)).register
    (dividends-grow sheet rate nav (step day (get_or keys i key)) (drop (i + 1) keys)) rest)

-- a class with a rate pays it
pub class-paid : (known : Known) (day : Day) (price : ℕ × ℕ) (rate : ℕ) → rate ≡ rate_at (book_of_facts known).rates price.0 (sheet_at_hand known).moment
    → ¬ (rate ≡ 0) → day_after_class (book_of_facts known).rates (sheet_at_hand known) day price ≡ day_after_rate (sheet_at_hand known) rate price day
class-paid known day price rate is some =
    ap (λ r. cond (r == 0) day (day_after_rate (sheet_at_hand known) r price day)) (sym is)
    ∙ ap (λ b. cond b day (day_after_rate (sheet_at_hand known) rate price day)) (ne_eqb rate 0 some)
