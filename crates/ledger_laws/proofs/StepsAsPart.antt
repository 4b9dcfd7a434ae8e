-- A household's step by facts makes of its part what the sheet makes of all.
use Rattle.std.proofs.Common.{All, Bool, List, Option, ap, false, filter, get_or, map, refl, subst, sym, true, ℕ, ◌&&◌, ◌++◌, ◌==◌, ◌∙◌, ◌≡◌}
use Rattle.std.proofs.lemmas.List.{map-id}
use Rattle.std.proofs.lemmas.List.Elements.{All-weaker, filter_passes}
use Rattle.std.specs.Option.{option_map_or}
use Rattle.agent_events.specs.declared.order.OrderRow.{OrderRow}
use Rattle.forward_price.specs.declared.price_sheet.Sheet.{Sheet}
use Rattle.household_fold.specs.Facts.{Known, book_of_facts, sheet_at_hand}
use Rattle.household_fold.specs.Households.{first_of, orders_of}
use Rattle.checkpoint_replay.specs.Replays.{day_behind}
use Rattle.ledger_laws.proofs.StepsAlone.{rows-alone, step-alone}
use Rattle.ledger_laws.specs.PartsByFacts.{StepsAsPart}
use Rattle.offering_price.specs.Accumulation.{credit}
use Rattle.register_laws.proofs.ListParts.{filter-known, map-agree}
use Rattle.register_laws.proofs.ReplayedAlone.{own-household, part-day, step-part}
use Rattle.register_laws.proofs.StepsAlike.{PositionCounts, RowCounts, SheetAlike, step-after}
use Rattle.register_laws.specs.AlikeBooks.{BooksAlike}
use Rattle.register_laws.specs.Households.{is_of_household, is_own_position, is_own_row, own_book, own_orders, part_of}
use Rattle.register_laws.specs.ReplayKeeps.{AreInOrder}
use Rattle.register_machine.proofs.FoundFacts.{put-all}
use Rattle.register_machine.specs.journal.Kinds.{household_of}
use Rattle.register_machine.specs.pricing.CorrectedBook.{Book, counts}
use Rattle.register_machine.specs.replay.DayStep.{day_step}
use Rattle.register_machine.specs.replay.Positions.{Position, Register, position_of}
use Rattle.register_machine.specs.replay.Purchase.{credit_of, is_counted, worth_on}
use Rattle.register_machine.specs.replay.Replay.{day_after_sheet, orders_on, priced_orders}
use Rattle.forward_price.specs.PriceTables.{with_prices}
use Rattle.register_machine.specs.replay.Trades.{Day, nav_of, with_position, with_trade}

-- all positions are of these accounts, in classes that count
abbrev pub AreOf : (ℕ → Bool) → (ℕ → Bool) → Register → Type 0
AreOf own named register = All (PositionCounts own named) register

-- two days that are one, with such positions
pub record IsOneOf (own named : ℕ → Bool) (day after : Day) : Type 0 where
  pub same : day ≡ after
  pub owned : AreOf own named day.register

module _ (book other : Book) (alike : BooksAlike other book) (household : ℕ) (named : ℕ → Bool) (sheet : Sheet) where
  -- over own positions the own book and the other one give an own account the same credit
  counted-same : (owner : Option ℕ) (p : Position) → is_of_household book.accounts household p.account ≡ true → is_counted (own_book household book) owner p ≡ is_counted other owner p
  counted-same owner p mine =
      ap (λ b. b && option_map_or (λ own. option_map_or (λ found. found == own) (household_of (own_book household book).accounts p.account) false) owner false) (sym (alike.counted p.class))
      ∙ ap (λ house. counts other p.class && option_map_or (λ own. option_map_or (λ found. found == own) house false) owner false)
      (own-household book.accounts household p.account mine ∙ sym (alike.household p.account))

  worth-same : (p : Position) → worth_on (own_book household book) sheet p ≡ worth_on other sheet p
  worth-same p = ap (λ n. record (worth_on other sheet p) { nav = n }) (sym (alike.price p.class sheet.moment))

  credit-same : (account : ℕ) → is_of_household book.accounts household account ≡ true → (register : Register) → AreOf (is_of_household book.accounts household) named register → credit_of (own_book household book) sheet register account ≡ credit_of other sheet register account
  credit-same account mine register owned =
      let own = own_book household book in
      let owner = household_of other.accounts account in
      ap (λ o. credit (map (worth_on own sheet) (filter (is_counted own o) register))) (own-household book.accounts household account mine ∙ sym (alike.household account))
      ∙ (ap (λ some. credit (map (worth_on own sheet) some)) (filter-known (is_counted own owner) (is_counted other owner) register
      (All-weaker (PositionCounts (is_of_household book.accounts household) named) (λ p. is_counted own owner p ≡ is_counted other owner p) (λ p is. counted-same owner p is.account) register owned))
      ∙ ap credit (map-agree (worth_on own sheet) (worth_on other sheet) worth-same (filter (is_counted other owner) register)))

  own-sheet : SheetAlike (own_book household book) other sheet (is_of_household book.accounts household) named (λ price. price) (IsOneOf (is_of_household book.accounts household) named)
  own-sheet =
      let own = is_of_household book.accounts household in
      record {
        same = λ d e is. is.same;
        counts = λ d e is. is.owned;
        alike = λ account mine. record {
          nav = λ class _. ap (λ prices. nav_of (with_prices sheet prices) class) (sym (map-id sheet.prices));
          front = λ class _. sym (alike.front class);
          schedule = λ class _. sym (alike.schedule class);
          found = λ d e class _ is. ap (λ (x : Day). position_of x.register account class) is.same;
          credit = λ d e is. credit-same account mine d.register is.owned ∙ ap (λ (x : Day). credit_of other sheet x.register account) is.same;
          traded = λ d e trade _ is. record { same = ap (λ x. with_trade x trade) is.same; owned = is.owned };
          placed = λ d e p by on is. record {
            same = ap (λ x. with_position x p) is.same;
            owned = put-all (PositionCounts own named) p d.register (record { account = ap own by ∙ mine; class = on }) is.owned;
          };
        };
        class = λ price. refl;
        prices = λ k d short. record { same = λ _. refl; rate = λ _. sym (alike.rate (get_or sheet.prices k d).0 sheet.moment) };
      }

  -- a step over own orders does the same in both, and leaves own positions
  pub own-step : (rows : List OrderRow) (d e : Day) → All (RowCounts (is_of_household book.accounts household) named) rows → IsOneOf (is_of_household book.accounts household) named d e → IsOneOf (is_of_household book.accounts household) named (day_step (own_book household book) sheet rows d) (day_step other sheet rows e)
  own-step rows d e counted is =
      let own = is_of_household book.accounts household in
      subst (λ prices. IsOneOf own named (day_step (own_book household book) sheet rows d) (day_step other (with_prices sheet prices) rows e)) (map-id sheet.prices)
      (step-after (own_book household book) other sheet own named (λ price. price) (IsOneOf own named) own-sheet rows d e counted is)

abbrev any_class : ℕ → Bool
any_class class = true

-- the part after a sheet is that of a step of the part, by a book that agrees
pub part-steps : (book other : Book) → BooksAlike other book → (household : ℕ) (sheet : Sheet) (day : Day) → AreInOrder day.register → part_of book.accounts household (day_after_sheet book (priced_orders book) day sheet) ≡ day_step other sheet (own_orders book.accounts household (orders_on (priced_orders book) sheet)) (part_of book.accounts household day)
part-steps book other alike household sheet day ordered =
    let own = is_of_household book.accounts household in
    let rows = orders_on (priced_orders book) sheet in
    let part = part_of book.accounts household day in
    part-day own (day_after_sheet book (priced_orders book) day sheet) (day_step (own_book household book) sheet (own_orders book.accounts household rows) part)
    (step-part book household sheet rows day part (record { in_order = ordered; register = refl; trades = refl }))
    ∙ (own-step book other alike household any_class sheet (own_orders book.accounts household rows) part part
    (λ k d short. record { account = filter_passes (is_own_row own) rows k d short; body = record { own = refl; target = λ to _. refl } })
    (record { same = refl; owned = λ k d short. record { account = filter_passes (is_own_position own) day.register k d short; class = refl } })).same

-- a step by the facts over the orders of rows goes on behind earlier trades
pub step-behind : (known : Known) (rows : List OrderRow) (day : Day) → day_step (book_of_facts known) (sheet_at_hand known) rows day ≡ day_behind known (orders_of rows) day
step-behind known rows day =
    let book = book_of_facts known in
    let sheet = sheet_at_hand known in
    step-alone book sheet rows day
    ∙ ap (λ (alone : Day). record { register = alone.register; trades = day.trades ++ alone.trades }) (sym (rows-alone book sheet rows (first_of day.register)))

pub steps_as_part : (book : Book) (known : Known) (household : ℕ) (sheet : Sheet) (day : Day) → StepsAsPart book known household sheet day
steps_as_part book known household sheet day alike at_hand ordered =
    let rows = own_orders book.accounts household (orders_on (priced_orders book) sheet) in
    let part = part_of book.accounts household day in
    part-steps book (book_of_facts known) alike household sheet day ordered
    ∙ (ap (λ (s : Sheet). day_step (book_of_facts known) s rows part) (sym at_hand) ∙ step-behind known rows part)
