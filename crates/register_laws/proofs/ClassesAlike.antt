-- Two books that agree in the classes that count: where all standing orders are in such classes, both replay alike, each over its
-- sheets with the prices that they have in it.
use Rattle.std.proofs.Common.{All, Bool, List, Option, Some, [], ap, cond, false, filter, find, fold, map, option_map, refl, subst, sym, true, unwrap_or, ℕ, ◌&&◌, ◌==◌, ◌∙◌, ◌∷◌, ◌≡◌}
use Rattle.std.proofs.lemmas.Bool.{eqb-true}
use Rattle.std.proofs.lemmas.List.Elements.{All-filter, All-head, All-nil, All-tail, All-weaker, filter_agree}
use Rattle.std.specs.Option.{option_map_or}
use Rattle.agent_events.specs.declared.order.OrderRow.{OrderRow}
use Rattle.forward_price.specs.PriceTables.{price_before, with_prices}
use Rattle.forward_price.specs.declared.price_sheet.Sheet.{Sheet}
use Rattle.offering_price.specs.Accumulation.{credit}
use Rattle.register_laws.proofs.AlikeDays.{BodyCounts}
use Rattle.register_laws.proofs.OrdersInTurn.{rows-standing}
use Rattle.register_laws.proofs.StepsAlike.{Counts, PositionCounts, PriceAlike, RowCounts, SheetAlike, step-after}
use Rattle.register_machine.proofs.FoundFacts.{put-all}
use Rattle.register_machine.specs.journal.Kinds.{household_of}
use Rattle.register_machine.specs.pricing.CorrectedBook.{Book, counts, front_of, schedule_of}
use Rattle.register_machine.specs.pricing.CorrectedOrders.{stands}
use Rattle.register_machine.specs.replay.DayStep.{day_step}
use Rattle.register_machine.specs.replay.Positions.{Position, Register, position_of}
use Rattle.register_machine.specs.replay.Purchase.{credit_of, is_counted, worth_on}
use Rattle.register_machine.specs.replay.Replay.{day_after_sheet, first_day, orders_on, priced_orders, replay_over}
use Rattle.register_machine.specs.replay.Trades.{Day, with_position, with_trade}

-- a sheet with other prices
abbrev pub sheet_with : (Sheet → ℕ × ℕ → ℕ × ℕ) → Sheet → Sheet
sheet_with fix sheet = with_prices sheet (map (fix sheet) sheet.prices)

-- terms and accounts that are the same in both
pub record TermsAlike (book other : Book) : Type 0 where
  pub front : (class : ℕ) → front_of book class ≡ front_of other class
  pub schedule : (class : ℕ) → schedule_of book class ≡ schedule_of other class
  pub counted : (class : ℕ) → counts book class ≡ counts other class
  pub household : (account : ℕ) → household_of book.accounts account ≡ household_of other.accounts account

-- on a sheet, the prices and the rates that count
pub record SheetReads (book other : Book) (named : ℕ → Bool) (fix : Sheet → ℕ × ℕ → ℕ × ℕ) (sheet : Sheet) : Type 0 where
  pub before : (class : ℕ) → named class ≡ true → price_before book.table.sheets class sheet.moment ≡ price_before other.table.sheets class sheet.moment
  pub prices : All (PriceAlike book other sheet named (fix sheet)) sheet.prices
  pub orders : orders_on (priced_orders other) sheet ≡ orders_on (priced_orders book) sheet

record NamedSame (named : ℕ → Bool) (day after : Day) : Type 0 where
  same : day ≡ after
  classes : All (λ (p : Position). named p.class ≡ true) day.register

module _ (book other : Book) (named : ℕ → Bool) (terms : TermsAlike book other) (fix : Sheet → ℕ × ℕ → ℕ × ℕ) (class_kept : (sheet : Sheet) (price : ℕ × ℕ) → (fix sheet price).0 ≡ price.0) (sheet : Sheet) (reads : SheetReads book other named fix sheet) where
  nav-fixed : (class : ℕ) → named class ≡ true → (prices : List (ℕ × ℕ)) → All (PriceAlike book other sheet named (fix sheet)) prices → option_map (λ (price : ℕ × ℕ). price.1) (find (λ (price : ℕ × ℕ). price.0 == class) prices) ≡ option_map (λ (price : ℕ × ℕ). price.1) (find (λ (price : ℕ × ℕ). price.0 == class) (map (fix sheet) prices))
  nav-fixed class on [] all = refl
  nav-fixed class on (price ∷ prices) all =
      by (price.0 == class) refl (nav-fixed class on prices (All-tail (PriceAlike book other sheet named (fix sheet)) price prices all)) (All-head (PriceAlike book other sheet named (fix sheet)) price prices all)
    where
      by : (b : Bool) → (price.0 == class) ≡ b → option_map (λ (p : ℕ × ℕ). p.1) (find (λ (p : ℕ × ℕ). p.0 == class) prices) ≡ option_map (λ (p : ℕ × ℕ). p.1) (find (λ (p : ℕ × ℕ). p.0 == class) (map (fix sheet) prices)) → PriceAlike book other sheet named (fix sheet) price → option_map (λ (p : ℕ × ℕ). p.1) (cond b (Some price) (find (λ (p : ℕ × ℕ). p.0 == class) prices)) ≡ option_map (λ (p : ℕ × ℕ). p.1) (cond ((fix sheet price).0 == class) (Some (fix sheet price)) (find (λ (p : ℕ × ℕ). p.0 == class) (map (fix sheet) prices)))
      by true is rest here =
          let same = here.same (ap named (eqb-true price.0 class is) ∙ on) in
          ap (λ (p : ℕ × ℕ). Some p.1) (sym same)
          ∙ sym (ap (λ b. option_map (λ (p : ℕ × ℕ). p.1) (cond b (Some (fix sheet price)) (find (λ (p : ℕ × ℕ). p.0 == class) (map (fix sheet) prices)))) (ap (λ n. n == class) (class_kept sheet price) ∙ is))
      by false is rest here =
          rest
          ∙ sym (ap (λ b. option_map (λ (p : ℕ × ℕ). p.1) (cond b (Some (fix sheet price)) (find (λ (p : ℕ × ℕ). p.0 == class) (map (fix sheet) prices)))) (ap (λ n. n == class) (class_kept sheet price) ∙ is))

  worths-alike : (register : List Position) → All (λ (p : Position). named p.class ≡ true) register → map (worth_on book sheet) register ≡ map (worth_on other sheet) register
  worths-alike [] all = refl
  worths-alike (p ∷ ps) all =
      ap (λ n. record (worth_on book sheet p) { nav = n } ∷ map (worth_on book sheet) ps) (reads.before p.class (All-head (λ (q : Position). named q.class ≡ true) p ps all))
      ∙ ap (λ ws. worth_on other sheet p ∷ ws) (worths-alike ps (All-tail (λ (q : Position). named q.class ≡ true) p ps all))

  counted-same : (owner : Option ℕ) (p : Position) → is_counted book owner p ≡ is_counted other owner p
  counted-same owner p =
      ap (λ b. b && option_map_or (λ own. option_map_or (λ found. found == own) (household_of book.accounts p.account) false) owner false) (terms.counted p.class)
      ∙ ap (λ house. counts other p.class && option_map_or (λ own. option_map_or (λ found. found == own) house false) owner false) (terms.household p.account)

  credit-same : (register : Register) (account : ℕ) → All (λ (p : Position). named p.class ≡ true) register → credit_of book sheet register account ≡ credit_of other sheet register account
  credit-same register account all =
      let owner = household_of other.accounts account in
      ap (λ o. credit (map (worth_on book sheet) (filter (is_counted book o) register))) (terms.household account)
      ∙ (ap (λ some. credit (map (worth_on book sheet) some)) (filter_agree (is_counted book owner) (is_counted other owner) (counted-same owner) register)
      ∙ ap credit (worths-alike (filter (is_counted other owner) register) (All-filter (is_counted other owner) (λ (p : Position). named p.class ≡ true) register all)))

  classes-sheet : SheetAlike book other sheet (λ account. true) named (fix sheet) (NamedSame named)
  classes-sheet = record {
    same = λ d e is. is.same;
    counts = λ d e is. All-weaker (λ (p : Position). named p.class ≡ true) (PositionCounts (λ account. true) named) (λ p on. record { account = refl; class = on }) d.register is.classes;
    alike = λ account _. record {
      nav = λ class on. ap (λ found. unwrap_or found 0) (nav-fixed class on sheet.prices reads.prices);
      front = λ class _. terms.front class;
      schedule = λ class _. terms.schedule class;
      found = λ d e class _ is. ap (λ (x : Day). position_of x.register account class) is.same;
      credit = λ d e is. credit-same d.register account is.classes ∙ ap (λ (x : Day). credit_of other sheet x.register account) is.same;
      traded = λ d e trade _ is. record { same = ap (λ x. with_trade x trade) is.same; classes = is.classes };
      placed = λ d e p _ on is. record {
        same = ap (λ x. with_position x p) is.same;
        classes = put-all (λ (q : Position). named q.class ≡ true) p d.register on is.classes;
      };
    };
    class = class_kept sheet;
    prices = reads.prices;
  }

  sheet-after : (d e : Day) → All (λ (row : OrderRow). BodyCounts (Counts named) row.order.body) (filter stands book.orders) → NamedSame named d e → NamedSame named (day_after_sheet book (priced_orders book) d sheet) (day_after_sheet other (priced_orders other) e (sheet_with fix sheet))
  sheet-after d e all is =
      subst (λ rows. NamedSame named (day_after_sheet book (priced_orders book) d sheet) (day_step other (sheet_with fix sheet) rows e)) (sym reads.orders)
      (step-after book other sheet (λ account. true) named (fix sheet) (NamedSame named) classes-sheet (orders_on (priced_orders book) sheet) d e
      (All-weaker (λ (row : OrderRow). BodyCounts (Counts named) row.order.body) (RowCounts (λ account. true) named) (λ row counts. record { account = refl; body = counts }) (orders_on (priced_orders book) sheet)
      (rows-standing (λ (row : OrderRow). BodyCounts (Counts named) row.order.body) book sheet all))
      is)

sheets-after : (book other : Book) (named : ℕ → Bool) → TermsAlike book other → (fix : Sheet → ℕ × ℕ → ℕ × ℕ) → ((sheet : Sheet) (price : ℕ × ℕ) → (fix sheet price).0 ≡ price.0) → All (λ (row : OrderRow). BodyCounts (Counts named) row.order.body) (filter stands book.orders) → (sheets : List Sheet) → All (SheetReads book other named fix) sheets → (d e : Day) → NamedSame named d e → NamedSame named (fold (day_after_sheet book (priced_orders book)) d sheets) (fold (day_after_sheet other (priced_orders other)) e (map (sheet_with fix) sheets))
sheets-after book other named terms fix kept rows [] reads d e is = is
sheets-after book other named terms fix kept rows (sheet ∷ sheets) reads d e is =
    sheets-after book other named terms fix kept rows sheets (All-tail (SheetReads book other named fix) sheet sheets reads)
    (day_after_sheet book (priced_orders book) d sheet) (day_after_sheet other (priced_orders other) e (sheet_with fix sheet))
    (sheet-after book other named terms fix kept sheet (All-head (SheetReads book other named fix) sheet sheets reads) d e rows is)

pub classes-replay : (book other : Book) (named : ℕ → Bool) → TermsAlike book other → (fix : Sheet → ℕ × ℕ → ℕ × ℕ) → ((sheet : Sheet) (price : ℕ × ℕ) → (fix sheet price).0 ≡ price.0) → All (λ (row : OrderRow). BodyCounts (Counts named) row.order.body) (filter stands book.orders) → (sheets : List Sheet) → All (SheetReads book other named fix) sheets → replay_over book sheets ≡ replay_over other (map (sheet_with fix) sheets)
classes-replay book other named terms fix kept rows sheets reads =
    (sheets-after book other named terms fix kept rows sheets reads first_day first_day (record { same = refl; classes = All-nil (λ (p : Position). named p.class ≡ true) })).same
