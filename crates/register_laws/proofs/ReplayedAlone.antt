-- The part of a household of a replay is the replay of its own book.
use Rattle.std.proofs.Common.{Bool, List, None, Option, Some, [], ap, append-nil, arith, cond, false, filter, find, fold, map, option_map, refl, subst, sym, true, ℕ, ◌&&◌, ◌++◌, ◌==◌, ◌∙◌, ◌∷◌, ◌≡◌}
use Rattle.std.proofs.lemmas.Bool.{and_parts, eqb-true, true≢false}
use Rattle.std.proofs.lemmas.List.Elements.{filter-append}
use Rattle.std.proofs.lemmas.List.Folds.{fold_along}
use Rattle.std.specs.Option.{option_map_or}
use Rattle.agent_events.specs.declared.order.OrderRow.{OrderRow}
use Rattle.agent_events.specs.declared.request.AccountForm.{AccountForm}
use Rattle.forward_price.specs.declared.price_sheet.Sheet.{Sheet}
use Rattle.offering_price.specs.Accumulation.{credit}
use Rattle.register_laws.proofs.AlikeDays.{Alike, BodyCounts, dividends-alike, letter_ends-alike, orders-alike}
use Rattle.register_laws.proofs.ListParts.{filter-map, filter-swap, filter-within, filters-agree, fold-part}
use Rattle.register_laws.proofs.PartPlaces.{found-in-part, is_own_key, keys-of-part, put-other-part, put-own-part}
use Rattle.register_laws.proofs.PositionsInOrder.{put-in_order}
use Rattle.register_laws.proofs.TurnsFiltered.{turns-filter}
use Rattle.register_laws.specs.Households.{ReplayedAlone, accounts_of_household, is_of_household, is_own_position, is_own_row, is_own_trade, own_book, part_by}
use Rattle.register_laws.specs.ReplayKeeps.{AreInOrder}
use Rattle.register_machine.specs.journal.Kinds.{household_of}
use Rattle.register_machine.specs.pricing.CorrectedBook.{Book, counts}
use Rattle.register_machine.specs.pricing.CorrectedOrders.{stands}
use Rattle.register_machine.specs.pricing.DividendRates.{rate_at}
use Rattle.register_machine.specs.replay.DayStep.{day_after_order, day_step}
use Rattle.register_machine.specs.replay.Dividend.{day_after_class, day_after_dividend, day_after_dividends, day_after_rate, is_of_class}
use Rattle.register_machine.specs.replay.Letter.{day_after_letter_end, day_after_letter_ends, has_letter_over}
use Rattle.register_machine.specs.replay.Positions.{Position, PositionKey, Register, key_of, position_of, put}
use Rattle.register_machine.specs.replay.Purchase.{credit_of, is_counted, worth_on}
use Rattle.register_machine.specs.replay.Replay.{Priced, all_in_turn, day_after_sheet, first_day, is_priced_on, orders_on, priced_in, priced_orders, replay_over}
use Rattle.register_machine.specs.replay.Trades.{Day, with_position, with_trade}

-- ---- the part of a day

pub record IsPart (own : ℕ → Bool) (day part : Day) : Type 0 where
  pub in_order : AreInOrder day.register
  pub register : filter (is_own_position own) day.register ≡ part.register
  pub trades : filter (is_own_trade own) day.trades ≡ part.trades

abbrev pub AnyClass : ℕ → Type 0
AnyClass class = Unit {0}

pub any-body : (row : OrderRow) → BodyCounts AnyClass row.order.body
any-body row = record { own = tt; target = λ to _. tt }

-- ---- the households of accounts

pub owner-is : (owner : Option ℕ) (household : ℕ) → option_map_or (λ own. own == household) owner false ≡ true → owner ≡ Some household
owner-is None household e = absurd (true≢false (sym e))
owner-is (Some owner) household e = ap Some (eqb-true owner household e)

-- an own account is one of the household's accounts, with the same household
pub own-household : (accounts : List AccountForm) (household number : ℕ) → is_of_household accounts household number ≡ true → household_of (accounts_of_household accounts household) number ≡ household_of accounts number
own-household [] household number mine = refl
own-household (x ∷ xs) household number mine = by (x.account == number) (x.household == household) refl refl mine (own-household xs household number)
  where
    by : (here owned : Bool) → (x.account == number) ≡ here → (x.household == household) ≡ owned → option_map_or (λ own. own == household) (option_map (λ (form : AccountForm). form.household) (cond here (Some x) (find (λ (form : AccountForm). form.account == number) xs))) false ≡ true → (is_of_household xs household number ≡ true → household_of (accounts_of_household xs household) number ≡ household_of xs number) → option_map (λ (form : AccountForm). form.household) (find (λ (form : AccountForm). form.account == number) (cond owned (x ∷ accounts_of_household xs household) (accounts_of_household xs household))) ≡ option_map (λ (form : AccountForm). form.household) (cond here (Some x) (find (λ (form : AccountForm). form.account == number) xs))
    by true true here owned own rest = ap (λ b. option_map (λ (form : AccountForm). form.household) (cond b (Some x) (find (λ (form : AccountForm). form.account == number) (accounts_of_household xs household)))) here
    by true false here owned own rest = absurd (true≢false (sym own ∙ owned))
    by false true here owned own rest = ap (λ b. option_map (λ (form : AccountForm). form.household) (cond b (Some x) (find (λ (form : AccountForm). form.account == number) (accounts_of_household xs household)))) here ∙ rest own
    by false false here owned own rest = rest own

module _ (book : Book) (household : ℕ) (sheet : Sheet) where
  -- the credit of an own account is that of the part
  counted-own : (p : Position) → is_counted book (Some household) p ≡ true → is_of_household book.accounts household p.account ≡ true
  counted-own p e = (and_parts (counts book p.class) (is_of_household book.accounts household p.account) e).1

  counted-alike : (p : Position) → is_of_household book.accounts household p.account ≡ true → is_counted book (Some household) p ≡ is_counted (own_book household book) (Some household) p
  counted-alike p mine =
      ap (λ owner. counts book p.class && option_map_or (λ other. other == household) owner false) (sym (own-household book.accounts household p.account mine))

  credit-alike : (account : ℕ) → is_of_household book.accounts household account ≡ true → (register : Register) → credit_of book sheet register account ≡ credit_of (own_book household book) sheet (filter (is_own_position (is_of_household book.accounts household)) register) account
  credit-alike account mine register =
      let owner : household_of book.accounts account ≡ Some household = owner-is (household_of book.accounts account) household mine in
      let owner_too = own-household book.accounts household account mine ∙ owner in
      let part = is_own_position (is_of_household book.accounts household) in
      let total = λ (some : List Position). credit (map (worth_on book sheet) some) in
      ap (λ o. total (filter (is_counted book o) register)) owner
      ∙ (ap total (sym (filter-within part (is_counted book (Some household)) counted-own register))
      ∙ (ap total (filters-agree part (is_counted book (Some household)) (is_counted (own_book household book) (Some household)) counted-alike register)
      ∙ ap (λ o. total (filter (is_counted (own_book household book) o) (filter part register))) (sym owner_too)))

  own-alike : (account : ℕ) → is_of_household book.accounts household account ≡ true → Alike book (own_book household book) sheet sheet.prices account AnyClass (IsPart (is_of_household book.accounts household))
  own-alike account mine =
      let own = is_of_household book.accounts household in
      record {
        nav = λ class _. refl;
        front = λ class _. refl;
        schedule = λ class _. refl;
        found = λ d e class _ is. sym (found-in-part own d.register account class mine) ∙ ap (λ r. position_of r account class) is.register;
        credit = λ d e is. credit-alike account mine d.register ∙ ap (λ r. credit_of (own_book household book) sheet r account) is.register;
        traded = λ d e trade by is. record {
          in_order = is.in_order;
          register = is.register;
          trades = filter-append (is_own_trade own) d.trades (trade ∷ [])
              ∙ (ap (λ b. filter (is_own_trade own) d.trades ++ cond b (trade ∷ []) []) (ap own by ∙ mine)
              ∙ ap (λ ts. ts ++ trade ∷ []) is.trades);
        };
        placed = λ d e p by _ is. record {
          in_order = put-in_order p d.register is.in_order;
          register = put-own-part own p d.register (ap own by ∙ mine) ∙ ap (put p) is.register;
          trades = is.trades;
        };
      }

-- a day that a step of another account left, and the part
pub record IsBeside (own : ℕ → Bool) (own_day day after : Day) : Type 0 where
  pub same : day ≡ after
  pub part : IsPart own day own_day

pub other-alike : (book : Book) (sheet : Sheet) (own : ℕ → Bool) (part : Day) (account : ℕ) → own account ≡ false → Alike book book sheet sheet.prices account AnyClass (IsBeside own part)
other-alike book sheet own part account other = record {
  nav = λ class _. refl;
  front = λ class _. refl;
  schedule = λ class _. refl;
  found = λ d e class _ is. ap (λ (x : Day). position_of x.register account class) is.same;
  credit = λ d e is. ap (λ (x : Day). credit_of book sheet x.register account) is.same;
  traded = λ d e trade by is. record {
    same = ap (λ x. with_trade x trade) is.same;
    part = record {
      in_order = is.part.in_order;
      register = is.part.register;
      trades = filter-append (is_own_trade own) d.trades (trade ∷ [])
          ∙ (ap (λ b. filter (is_own_trade own) d.trades ++ cond b (trade ∷ []) []) (ap own by ∙ other)
          ∙ (append-nil (filter (is_own_trade own) d.trades) ∙ is.part.trades));
    };
  };
  placed = λ d e p by _ is. record {
    same = ap (λ x. with_position x p) is.same;
    part = record {
      in_order = put-in_order p d.register is.part.in_order;
      register = put-other-part own p d.register is.part.in_order (ap own by ∙ other) ∙ is.part.register;
      trades = is.part.trades;
    };
  };
}

beside : (own : ℕ → Bool) (day part : Day) → IsPart own day part → IsBeside own part day day
beside own day part is = record { same = refl; part = is }

-- ---- orders in turn

-- the orders of a sheet in the own book are the own ones among all
pub orders-part : (book : Book) (household : ℕ) (sheet : Sheet) → orders_on (priced_orders (own_book household book)) sheet ≡ filter (is_own_row (is_of_household book.accounts household)) (orders_on (priced_orders book) sheet)
orders-part book household sheet =
    let q = is_own_row (is_of_household book.accounts household) in
    let of_priced = λ (priced : Priced). q priced.row in
    let on = is_priced_on sheet.number in
    let row_of = λ (priced : Priced). priced.row in
    let price = priced_in book.table.sheets in
    let listed : priced_orders (own_book household book) ≡ filter of_priced (priced_orders book) =
    ap (map price) (filter-swap stands q book.orders) ∙ sym (filter-map of_priced price (filter stands book.orders)) in
    ap (λ priced. all_in_turn (map row_of (filter on priced))) listed
    ∙ (ap (λ priced. all_in_turn (map row_of priced)) (filter-swap on of_priced (priced_orders book))
    ∙ (ap all_in_turn (sym (filter-map q row_of (filter on (priced_orders book))))
    ∙ sym (turns-filter q (map row_of (filter on (priced_orders book))))))

-- ---- a sheet

module _ (book : Book) (household : ℕ) (sheet : Sheet) where
  keys-after : (step step_too : Day → PositionKey → Day) → ((d e : Day) (key : PositionKey) → is_own_key (is_of_household book.accounts household) key ≡ true → IsPart (is_of_household book.accounts household) d e → IsPart (is_of_household book.accounts household) (step d key) (step_too e key)) → ((d e : Day) (key : PositionKey) → is_own_key (is_of_household book.accounts household) key ≡ false → IsPart (is_of_household book.accounts household) d e → IsPart (is_of_household book.accounts household) (step d key) e) → (test : Position → Bool) (d e : Day) → IsPart (is_of_household book.accounts household) d e → IsPart (is_of_household book.accounts household) (fold step d (map key_of (filter test d.register))) (fold step_too e (map key_of (filter test e.register)))
  keys-after step step_too steps skips test d e is =
      let own = is_of_household book.accounts household in
      let keys : map key_of (filter test e.register) ≡ filter (is_own_key own) (map key_of (filter test d.register)) =
      ap (λ r. map key_of (filter test r)) (sym is.register) ∙ keys-of-part own test d.register in
      subst (λ ks. IsPart own (fold step d (map key_of (filter test d.register))) (fold step_too e ks)) (sym keys)
      (fold-part (IsPart own) (is_own_key own) step step_too steps skips d e (map key_of (filter test d.register)) is)

  class-part : (d e : Day) (price : ℕ × ℕ) → IsPart (is_of_household book.accounts household) d e → IsPart (is_of_household book.accounts household) (day_after_class book.rates sheet d price) (day_after_class book.rates sheet e price)
  class-part d e price is = by_rate (rate_at book.rates price.0 sheet.moment)
    where
      by_rate : (rate : ℕ) → IsPart (is_of_household book.accounts household) (cond (rate == 0) d (day_after_rate sheet rate price d)) (cond (rate == 0) e (day_after_rate sheet rate price e))
      by_rate rate = elim (rate == 0) as (λ b. IsPart (is_of_household book.accounts household) (cond b d (day_after_rate sheet rate price d)) (cond b e (day_after_rate sheet rate price e))) [
        | true ↦ is
        | false ↦ keys-after (day_after_dividend sheet rate price.1) (day_after_dividend sheet rate price.1)
            (λ one two key mine both. dividends-alike book (own_book household book) sheet sheet.prices key.account AnyClass (IsPart (is_of_household book.accounts household)) (own-alike book household sheet key.account mine) rate price.1 one two key refl tt both)
            (λ one two key other both. (dividends-alike book book sheet sheet.prices key.account AnyClass (IsBeside (is_of_household book.accounts household) two) (other-alike book sheet (is_of_household book.accounts household) two key.account other) rate price.1 one one key refl tt (beside (is_of_household book.accounts household) one two both)).part)
            (is_of_class price.0) d e is
      ]

  ends-part : (d e : Day) → IsPart (is_of_household book.accounts household) d e → IsPart (is_of_household book.accounts household) (day_after_letter_ends book sheet d) (day_after_letter_ends (own_book household book) sheet e)
  ends-part d e is =
      keys-after (day_after_letter_end book sheet) (day_after_letter_end (own_book household book) sheet)
      (λ one two key mine both. letter_ends-alike book (own_book household book) sheet sheet.prices key.account AnyClass (IsPart (is_of_household book.accounts household)) (own-alike book household sheet key.account mine) one two key refl tt both)
      (λ one two key other both. (letter_ends-alike book book sheet sheet.prices key.account AnyClass (IsBeside (is_of_household book.accounts household) two) (other-alike book sheet (is_of_household book.accounts household) two key.account other) one one key refl tt (beside (is_of_household book.accounts household) one two both)).part)
      (has_letter_over sheet) d e is

  pub step-part : (rows : List OrderRow) (d e : Day) → IsPart (is_of_household book.accounts household) d e → IsPart (is_of_household book.accounts household) (day_step book sheet rows d) (day_step (own_book household book) sheet (filter (is_own_row (is_of_household book.accounts household)) rows) e)
  unfolding day_step
  step-part rows d e is =
      let own = is_of_household book.accounts household in
      let paid = fold_along (day_after_class book.rates sheet) (day_after_class book.rates sheet) (IsPart own) (λ one two price both. class-part one two price both) d e sheet.prices is in
      fold-part (IsPart own) (is_own_row own) (day_after_order book sheet) (day_after_order (own_book household book) sheet)
      (λ one two row mine both. orders-alike book (own_book household book) sheet sheet.prices row.order.account AnyClass (IsPart own) (own-alike book household sheet row.order.account mine) one two row refl (any-body row) both)
      (λ one two row other both. (orders-alike book book sheet sheet.prices row.order.account AnyClass (IsBeside own two) (other-alike book sheet own two row.order.account other) one one row refl (any-body row) (beside own one two both)).part)
      (day_after_letter_ends book sheet (day_after_dividends book sheet d)) (day_after_letter_ends (own_book household book) sheet (day_after_dividends (own_book household book) sheet e)) rows
      (ends-part (day_after_dividends book sheet d) (day_after_dividends (own_book household book) sheet e) paid)

  pub sheet-part : (d e : Day) → IsPart (is_of_household book.accounts household) d e → IsPart (is_of_household book.accounts household) (day_after_sheet book (priced_orders book) d sheet) (day_after_sheet (own_book household book) (priced_orders (own_book household book)) e sheet)
  sheet-part d e is =
      subst (λ rows. IsPart (is_of_household book.accounts household) (day_after_sheet book (priced_orders book) d sheet) (day_step (own_book household book) sheet rows e)) (sym (orders-part book household sheet))
      (step-part (orders_on (priced_orders book) sheet) d e is)

pub first-part : (own : ℕ → Bool) → IsPart own first_day first_day
first-part own = record { in_order = λ i j d lt within. absurd (omega (arith, within)); register = refl; trades = refl }

pub sheets-part : (book : Book) (household : ℕ) (sheets : List Sheet) (d e : Day) → IsPart (is_of_household book.accounts household) d e → IsPart (is_of_household book.accounts household) (fold (day_after_sheet book (priced_orders book)) d sheets) (fold (day_after_sheet (own_book household book) (priced_orders (own_book household book))) e sheets)
sheets-part book household sheets d e is =
    fold_along (day_after_sheet book (priced_orders book)) (day_after_sheet (own_book household book) (priced_orders (own_book household book))) (IsPart (is_of_household book.accounts household))
    (λ one two sheet both. sheet-part book household sheet one two both) d e sheets is

pub part-day : (own : ℕ → Bool) (day part : Day) → IsPart own day part → part_by own day ≡ part
part-day own day part is =
    ap (λ register. record { register = register; trades = filter (is_own_trade own) day.trades }) is.register
    ∙ ap (λ trades. record { register = part.register; trades = trades }) is.trades

pub replayed_alone : (book : Book) (household : ℕ) (sheets : List Sheet) → ReplayedAlone book household sheets
replayed_alone book household sheets =
    part-day (is_of_household book.accounts household) (replay_over book sheets) (replay_over (own_book household book) sheets)
    (sheets-part book household sheets first_day first_day (first-part (is_of_household book.accounts household)))
