-- Two books, and a sheet under two lists of prices, that are alike in the classes that count: where all positions and orders are
-- in such classes, one day goes on by the sheet in both alike.
use Rattle.std.proofs.Common.{Bool, List, [], ap, cond, false, filter, fold, get_or, map, refl, subst, sym, true, ℕ, ◌&&◌, ◌==◌, ◌∙◌, ◌∷◌, ◌≡◌}
use Rattle.std.proofs.lemmas.Bool.{eqb-true, true≢false}
use Rattle.std.proofs.lemmas.List.{map-id}
use Rattle.std.proofs.lemmas.List.Elements.{All-filter, All-head, All-map, All-tail, filter_agree}
use Rattle.std.specs.Option.{option_map_or}
use Rattle.std.specs.Prelude.{All, Option}
use Rattle.agent_events.specs.declared.order.OrderRow.{OrderRow}
use Rattle.forward_price.specs.PriceTables.{with_prices}
use Rattle.forward_price.specs.Sheets.{lists_class}
use Rattle.forward_price.specs.declared.price_sheet.Sheet.{Sheet}
use Rattle.offering_price.specs.Accumulation.{credit}
use Rattle.register_laws.proofs.AlikeDays.{Alike, BodyCounts, dividends-alike, letter_ends-alike, orders-alike}
use Rattle.register_laws.proofs.ListParts.{any-agree, filter-none, fold-known, map-agree}
use Rattle.register_laws.proofs.Tests.{any-of-map}
use Rattle.register_laws.specs.AlikeBooks.{AlikeBooksStepAlike, BooksAlike}
use Rattle.register_machine.specs.journal.Kinds.{household_of}
use Rattle.register_machine.specs.pricing.CorrectedBook.{Book, counts}
use Rattle.register_machine.specs.pricing.DividendRates.{rate_at}
use Rattle.register_machine.specs.replay.DayStep.{day_after_order, day_step}
use Rattle.register_machine.specs.replay.Dividend.{day_after_class, day_after_dividend, day_after_dividends, day_after_rate, is_of_class, keys_of_class}
use Rattle.register_machine.specs.replay.Letter.{day_after_letter_end, day_after_letter_ends, has_letter_over, keys_of_letters_over, letter_is_over}
use Rattle.register_machine.specs.replay.Positions.{Position, PositionKey, Register, key_of, position_of}
use Rattle.register_machine.specs.replay.Purchase.{credit_of, is_counted, worth_on}
use Rattle.register_machine.specs.replay.Trades.{Day, nav_of, with_position, with_trade}

-- the class counts
abbrev pub Counts : (ℕ → Bool) → ℕ → Type 0
Counts named class = named class ≡ true

-- a key, or a position, of an account that is known and a class that counts
pub record KeyCounts (known named : ℕ → Bool) (number of_class : ℕ) : Type 0 where
  pub account : known number ≡ true
  pub class : named of_class ≡ true

abbrev pub PositionCounts : (ℕ → Bool) → (ℕ → Bool) → Position → Type 0
PositionCounts known named p = KeyCounts known named p.account p.class

-- an order of an account that is known, whose classes count
pub record RowCounts (known named : ℕ → Bool) (row : OrderRow) : Type 0 where
  pub account : known row.order.account ≡ true
  pub body : BodyCounts (Counts named) row.order.body

-- a price of a class that counts is the same in both, and so is its rate
pub record PriceAlike (book other : Book) (sheet : Sheet) (named : ℕ → Bool) (fix : ℕ × ℕ → ℕ × ℕ) (price : ℕ × ℕ) : Type 0 where
  pub same : named price.0 ≡ true → fix price ≡ price
  pub rate : named price.0 ≡ true → rate_at book.rates price.0 sheet.moment ≡ rate_at other.rates price.0 sheet.moment

pub record SheetAlike (book other : Book) (sheet : Sheet) (known named : ℕ → Bool) (fix : ℕ × ℕ → ℕ × ℕ) (R : Day → Day → Type 0) : Type 0 where
  pub same : (d e : Day) → R d e → d ≡ e
  pub counts : (d e : Day) → R d e → All (PositionCounts known named) d.register
  pub alike : (account : ℕ) → known account ≡ true → Alike book other sheet (map fix sheet.prices) account (Counts named) R
  pub class : (price : ℕ × ℕ) → (fix price).0 ≡ price.0
  pub prices : All (PriceAlike book other sheet named fix) sheet.prices

module _ (book other : Book) (sheet : Sheet) (known named : ℕ → Bool) (fix : ℕ × ℕ → ℕ × ℕ) (R : Day → Day → Type 0) (alike : SheetAlike book other sheet known named fix R) where
  keys-named : (d e : Day) (test : Position → Bool) → R d e → All (λ (key : PositionKey). KeyCounts known named key.account key.class) (map key_of (filter test d.register))
  keys-named d e test is =
      All-map (λ (key : PositionKey). KeyCounts known named key.account key.class) key_of (filter test d.register)
      (All-filter test (PositionCounts known named) d.register (alike.counts d e is))

  rate-after : (rate : ℕ) (price : ℕ × ℕ) (d e : Day) → R d e → R (day_after_rate sheet rate price d) (day_after_rate (with_prices sheet (map fix sheet.prices)) rate price e)
  rate-after rate price d e is =
      subst (λ (x : Day). R (day_after_rate sheet rate price d) (fold (day_after_dividend (with_prices sheet (map fix sheet.prices)) rate price.1) e (keys_of_class price.0 x.register)))
      (alike.same d e is)
      (fold-known (λ (key : PositionKey). KeyCounts known named key.account key.class) R (day_after_dividend sheet rate price.1) (day_after_dividend (with_prices sheet (map fix sheet.prices)) rate price.1)
      (λ one two key counts both. dividends-alike book other sheet (map fix sheet.prices) key.account (Counts named) R (alike.alike key.account counts.account) rate price.1 one two key refl counts.class both)
      d e (keys_of_class price.0 d.register) (keys-named d e (is_of_class price.0) is) is)

  -- where no position is of the class, its rate does nothing
  none-of : (class : ℕ) (register : Register) → named class ≡ false → All (PositionCounts known named) register → keys_of_class class register ≡ []
  none-of class register off all = ap (map key_of) (filter-none (is_of_class class) register (λ k d short. apart (get_or register k d) (all k d short).class))
    where
      apart : (p : Position) → named p.class ≡ true → (p.class == class) ≡ false
      apart p on =
          elim (p.class == class) as (λ b. (p.class == class) ≡ b → b ≡ false) [
            | true ↦ λ t. absurd (true≢false (sym on ∙ (ap named (eqb-true p.class class t) ∙ off)))
            | false ↦ λ t. refl
          ] refl

  idle-class : (day : Day) (shown : Sheet) (rates : ℕ) (price : ℕ × ℕ) → keys_of_class price.0 day.register ≡ [] → cond (rates == 0) day (day_after_rate shown rates price day) ≡ day
  idle-class day shown rates price none =
      elim (rates == 0) as (λ b. cond b day (day_after_rate shown rates price day) ≡ day) [
        | true ↦ refl
        | false ↦ ap (fold (day_after_dividend shown rates price.1) day) none
      ]

  class-after : (d e : Day) (price : ℕ × ℕ) → PriceAlike book other sheet named fix price → R d e → R (day_after_class book.rates sheet d price) (day_after_class other.rates (with_prices sheet (map fix sheet.prices)) e (fix price))
  class-after d e price here is =
      elim (named price.0) as (λ b. named price.0 ≡ b → R (day_after_class book.rates sheet d price) (day_after_class other.rates (with_prices sheet (map fix sheet.prices)) e (fix price))) [
        | true ↦ λ on.
            let base = by_rate (rate_at book.rates price.0 sheet.moment) in
            let at_rate = subst (λ rate. R (day_after_class book.rates sheet d price) (cond (rate == 0) e (day_after_rate (with_prices sheet (map fix sheet.prices)) rate price e))) (here.rate on) base in
            subst (λ other_price. R (day_after_class book.rates sheet d price) (day_after_class other.rates (with_prices sheet (map fix sheet.prices)) e other_price)) (sym (here.same on)) at_rate
        | false ↦ λ off.
            let none = none-of price.0 d.register off (alike.counts d e is) in
            let left = idle-class d sheet (rate_at book.rates price.0 sheet.moment) price none in
            let none_too = ap (λ class. keys_of_class class e.register) (alike.class price) ∙ (ap (λ (x : Day). keys_of_class price.0 x.register) (sym (alike.same d e is)) ∙ none) in
            let right = idle-class e (with_prices sheet (map fix sheet.prices)) (rate_at other.rates (fix price).0 sheet.moment) (fix price) none_too in
            subst (λ x. R x (day_after_class other.rates (with_prices sheet (map fix sheet.prices)) e (fix price))) (sym left) (subst (R d) (sym right) is)
      ] refl
    where
      by_rate : (rate : ℕ) → R (cond (rate == 0) d (day_after_rate sheet rate price d)) (cond (rate == 0) e (day_after_rate (with_prices sheet (map fix sheet.prices)) rate price e))
      by_rate rate = elim (rate == 0) as (λ b. R (cond b d (day_after_rate sheet rate price d)) (cond b e (day_after_rate (with_prices sheet (map fix sheet.prices)) rate price e))) [
        | true ↦ is
        | false ↦ rate-after rate price d e is
      ]

  classes-after : (d e : Day) (prices : List (ℕ × ℕ)) → All (PriceAlike book other sheet named fix) prices → R d e → R (fold (day_after_class book.rates sheet) d prices) (fold (day_after_class other.rates (with_prices sheet (map fix sheet.prices))) e (map fix prices))
  classes-after d e [] all is = is
  classes-after d e (price ∷ prices) all is =
      classes-after (day_after_class book.rates sheet d price) (day_after_class other.rates (with_prices sheet (map fix sheet.prices)) e (fix price)) prices (All-tail (PriceAlike book other sheet named fix) price prices all) (class-after d e price (All-head (PriceAlike book other sheet named fix) price prices all) is)

  lists-same : (class : ℕ) → lists_class (map fix sheet.prices) class ≡ lists_class sheet.prices class
  lists-same class =
      any-of-map (λ price. price.0 == class) fix sheet.prices
      ∙ any-agree (λ price. (fix price).0 == class) (λ price. price.0 == class) (λ price. ap (λ n. n == class) (alike.class price)) sheet.prices

  ends-after : (d e : Day) → R d e → R (day_after_letter_ends book sheet d) (day_after_letter_ends other (with_prices sheet (map fix sheet.prices)) e)
  ends-after d e is =
      let shown = with_prices sheet (map fix sheet.prices) in
      let keys : keys_of_letters_over sheet d.register ≡ keys_of_letters_over shown d.register =
      ap (map key_of) (filter_agree (has_letter_over sheet) (has_letter_over shown) (λ p. ap (λ b. b && letter_is_over sheet p.letter) (sym (lists-same p.class))) d.register) in
      let both = fold-known (λ (key : PositionKey). KeyCounts known named key.account key.class) R (day_after_letter_end book sheet) (day_after_letter_end other shown)
      (λ one two key counts both. letter_ends-alike book other sheet (map fix sheet.prices) key.account (Counts named) R (alike.alike key.account counts.account) one two key refl counts.class both)
      d e (keys_of_letters_over sheet d.register) (keys-named d e (has_letter_over sheet) is) is in
      subst (λ (x : Day). R (day_after_letter_ends book sheet d) (fold (day_after_letter_end other shown) e (keys_of_letters_over shown x.register))) (alike.same d e is)
      (subst (λ ks. R (day_after_letter_ends book sheet d) (fold (day_after_letter_end other shown) e ks)) keys both)

  pub step-after : (rows : List OrderRow) (d e : Day) → All (RowCounts known named) rows → R d e → R (day_step book sheet rows d) (day_step other (with_prices sheet (map fix sheet.prices)) rows e)
  unfolding day_step
  step-after rows d e counted is =
      let shown = with_prices sheet (map fix sheet.prices) in
      fold-known (RowCounts known named) R (day_after_order book sheet) (day_after_order other shown)
      (λ one two row counts both. orders-alike book other sheet (map fix sheet.prices) row.order.account (Counts named) R (alike.alike row.order.account counts.account) one two row refl counts.body both)
      (day_after_letter_ends book sheet (day_after_dividends book sheet d)) (day_after_letter_ends other shown (day_after_dividends other shown e)) rows counted
      (ends-after (day_after_dividends book sheet d) (day_after_dividends other shown e) (classes-after d e sheet.prices alike.prices is))

-- ---- two books that agree

module _ (book other : Book) (alike : BooksAlike book other) (sheet : Sheet) where
  worth-same : (p : Position) → worth_on book sheet p ≡ worth_on other sheet p
  worth-same p = ap (λ n. record (worth_on book sheet p) { nav = n }) (alike.price p.class sheet.moment)

  counted-same : (owner : Option ℕ) (p : Position) → is_counted book owner p ≡ is_counted other owner p
  counted-same owner p =
      ap (λ b. b && option_map_or (λ own. option_map_or (λ found. found == own) (household_of book.accounts p.account) false) owner false) (alike.counted p.class)
      ∙ ap (λ house. counts other p.class && option_map_or (λ own. option_map_or (λ found. found == own) house false) owner false) (alike.household p.account)

  credit-same : (register : Register) (account : ℕ) → credit_of book sheet register account ≡ credit_of other sheet register account
  credit-same register account =
      ap (λ owner. credit (map (worth_on book sheet) (filter (is_counted book owner) register))) (alike.household account)
      ∙ (ap (λ some. credit (map (worth_on book sheet) some)) (filter_agree (is_counted book (household_of other.accounts account)) (is_counted other (household_of other.accounts account)) (counted-same (household_of other.accounts account)) register)
      ∙ ap credit (map-agree (worth_on book sheet) (worth_on other sheet) worth-same (filter (is_counted other (household_of other.accounts account)) register)))

  same-day : SheetAlike book other sheet (λ account. true) (λ class. true) (λ price. price) (λ d e. d ≡ e)
  same-day = record {
    same = λ d e is. is;
    counts = λ d e is k p short. record { account = refl; class = refl };
    alike = λ account _. record {
      nav = λ class _. ap (λ prices. nav_of (with_prices sheet prices) class) (sym (map-id sheet.prices));
      front = λ class _. alike.front class;
      schedule = λ class _. alike.schedule class;
      found = λ d e class _ is. ap (λ (x : Day). position_of x.register account class) is;
      credit = λ d e is. credit-same d.register account ∙ ap (λ (x : Day). credit_of other sheet x.register account) is;
      traded = λ d e trade _ is. ap (λ x. with_trade x trade) is;
      placed = λ d e p _ _ is. ap (λ x. with_position x p) is;
    };
    class = λ price. refl;
    prices = λ k d short. record { same = λ _. refl; rate = λ _. alike.rate (get_or sheet.prices k d).0 sheet.moment };
  }

pub books_step_alike : (book other : Book) (sheet : Sheet) (rows : List OrderRow) (day : Day) → AlikeBooksStepAlike book other sheet rows day
books_step_alike book other sheet rows day alike =
    step-after book other sheet (λ account. true) (λ class. true) (λ price. price) (λ d e. d ≡ e) (same-day book other alike sheet) rows day day (λ k d short. record { account = refl; body = record { own = refl; target = λ to _. refl } }) refl
    ∙ ap (λ prices. day_step other (with_prices sheet prices) rows day) (map-id sheet.prices)
