-- Two books that agree on what each sheet reads of known accounts and classes replay alike.
use Rattle.std.proofs.Common.{All, Bool, List, Option, [], ap, cond, false, filter, fold, map, refl, subst, sym, true, ℕ, ◌&&◌, ◌==◌, ◌∙◌, ◌∷◌, ◌≡◌}
use Rattle.std.proofs.lemmas.List.{map-id}
use Rattle.std.proofs.lemmas.List.Elements.{All-head, All-nil, All-tail, All-weaker}
use Rattle.std.specs.Option.{option_map_or}
use Rattle.agent_events.specs.declared.order.OrderRow.{OrderRow}
use Rattle.forward_price.specs.PriceTables.{with_prices}
use Rattle.forward_price.specs.declared.price_sheet.Sheet.{Sheet}
use Rattle.offering_price.specs.Accumulation.{credit}
use Rattle.register_laws.proofs.OrdersInTurn.{rows-standing}
use Rattle.register_laws.proofs.StepsAlike.{PositionCounts, RowCounts, SheetAlike, step-after}
use Rattle.register_machine.proofs.FoundFacts.{put-all}
use Rattle.register_machine.specs.journal.Kinds.{household_of}
use Rattle.register_machine.specs.pricing.CorrectedBook.{Book, counts}
use Rattle.register_machine.specs.pricing.CorrectedOrders.{stands}
use Rattle.register_machine.specs.replay.DayStep.{day_step}
use Rattle.register_machine.specs.replay.Positions.{Position, Register, position_of}
use Rattle.register_machine.specs.replay.Purchase.{credit_of, is_counted, worth_on}
use Rattle.register_machine.specs.replay.Replay.{day_after_sheet, first_day, orders_on, priced_orders}
use Rattle.register_machine.specs.replay.Trades.{Day, nav_of, with_position, with_trade}
use Rattle.register_laws.specs.ReadsAlike.{IsKnownRow, SheetAgrees, TermsAgree}

-- two days that are the same, with positions of known accounts and classes alone
pub record SameKnown (known named : ℕ → Bool) (day after : Day) : Type 0 where
  pub same : day ≡ after
  pub counted : All (PositionCounts known named) day.register

module _ (book other : Book) (known named : ℕ → Bool) (terms : TermsAgree book other known named) (sheet : Sheet) (reads : SheetAgrees book other sheet) where
  worth-same : (p : Position) → worth_on book sheet p ≡ worth_on other sheet p
  worth-same p = ap (λ n. record (worth_on book sheet p) { nav = n }) (reads.before p.class)

  counted-same : (owner : Option ℕ) (p : Position) → PositionCounts known named p → is_counted book owner p ≡ is_counted other owner p
  counted-same owner p is =
      ap (λ b. b && option_map_or (λ own. option_map_or (λ found. found == own) (household_of book.accounts p.account) false) owner false) (terms.counted p.class is.class)
      ∙ ap (λ house. counts other p.class && option_map_or (λ own. option_map_or (λ found. found == own) house false) owner false) (terms.household p.account is.account)

  worths-same : (owner : Option ℕ) (register : Register) → All (PositionCounts known named) register → map (worth_on book sheet) (filter (is_counted book owner) register) ≡ map (worth_on other sheet) (filter (is_counted other owner) register)
  worths-same owner [] all = refl
  worths-same owner (p ∷ ps) all =
      subst (λ b. map (worth_on book sheet) (cond (is_counted book owner p) (p ∷ filter (is_counted book owner) ps) (filter (is_counted book owner) ps)) ≡ map (worth_on other sheet) (cond b (p ∷ filter (is_counted other owner) ps) (filter (is_counted other owner) ps)))
      (counted-same owner p (All-head (PositionCounts known named) p ps all)) (by (is_counted book owner p) (worths-same owner ps (All-tail (PositionCounts known named) p ps all)))
    where
      by : (b : Bool) → map (worth_on book sheet) (filter (is_counted book owner) ps) ≡ map (worth_on other sheet) (filter (is_counted other owner) ps) → map (worth_on book sheet) (cond b (p ∷ filter (is_counted book owner) ps) (filter (is_counted book owner) ps)) ≡ map (worth_on other sheet) (cond b (p ∷ filter (is_counted other owner) ps) (filter (is_counted other owner) ps))
      by true rest = ap (λ w. w ∷ map (worth_on book sheet) (filter (is_counted book owner) ps)) (worth-same p) ∙ ap (λ ws. worth_on other sheet p ∷ ws) rest
      by false rest = rest

  credit-same : (register : Register) (account : ℕ) → known account ≡ true → All (PositionCounts known named) register → credit_of book sheet register account ≡ credit_of other sheet register account
  credit-same register account own all =
      ap (λ owner. credit (map (worth_on book sheet) (filter (is_counted book owner) register))) (terms.household account own)
      ∙ ap credit (worths-same (household_of other.accounts account) register all)

  known-sheet : SheetAlike book other sheet known named (λ price. price) (SameKnown known named)
  known-sheet = record {
    same = λ d e is. is.same;
    counts = λ d e is. is.counted;
    alike = λ account own. record {
      nav = λ class _. ap (λ prices. nav_of (with_prices sheet prices) class) (sym (map-id sheet.prices));
      front = λ class on. terms.front class on;
      schedule = λ class on. terms.schedule class on;
      found = λ d e class _ is. ap (λ (x : Day). position_of x.register account class) is.same;
      credit = λ d e is. credit-same d.register account own is.counted ∙ ap (λ (x : Day). credit_of other sheet x.register account) is.same;
      traded = λ d e trade _ is. record { same = ap (λ x. with_trade x trade) is.same; counted = is.counted };
      placed = λ d e p by on is. record {
        same = ap (λ x. with_position x p) is.same;
        counted = put-all (PositionCounts known named) p d.register (record { account = ap known by ∙ own; class = on }) is.counted;
      };
    };
    class = λ price. refl;
    prices = λ k d short. record { same = λ _. refl; rate = λ _. reads.rates k d short };
  }

  sheet-same : (d e : Day) → All (RowCounts known named) (orders_on (priced_orders book) sheet) → SameKnown known named d e → SameKnown known named (day_after_sheet book (priced_orders book) d sheet) (day_after_sheet other (priced_orders other) e sheet)
  sheet-same d e rows is =
      subst (λ orders. SameKnown known named (day_after_sheet book (priced_orders book) d sheet) (day_step other sheet orders e)) (sym reads.orders)
      (subst (λ prices. SameKnown known named (day_after_sheet book (priced_orders book) d sheet) (day_step other (with_prices sheet prices) (orders_on (priced_orders book) sheet) e)) (map-id sheet.prices)
      (step-after book other sheet known named (λ price. price) (SameKnown known named) known-sheet (orders_on (priced_orders book) sheet) d e rows is))

row-counts : (known named : ℕ → Bool) (row : OrderRow) → IsKnownRow known named row → RowCounts known named row
row-counts known named row is = record { account = is.account; body = record { own = is.own; target = is.target } }

pub sheets-same : (book other : Book) (known named : ℕ → Bool) → TermsAgree book other known named → All (IsKnownRow known named) (filter stands book.orders) → (sheets : List Sheet) → All (SheetAgrees book other) sheets → (d e : Day) → SameKnown known named d e → SameKnown known named (fold (day_after_sheet book (priced_orders book)) d sheets) (fold (day_after_sheet other (priced_orders other)) e sheets)
sheets-same book other known named terms rows [] reads d e is = is
sheets-same book other known named terms rows (sheet ∷ sheets) reads d e is =
    sheets-same book other known named terms rows sheets (All-tail (SheetAgrees book other) sheet sheets reads)
    (day_after_sheet book (priced_orders book) d sheet) (day_after_sheet other (priced_orders other) e sheet)
    (sheet-same book other known named terms sheet (All-head (SheetAgrees book other) sheet sheets reads) d e
    (All-weaker (IsKnownRow known named) (RowCounts known named) (row-counts known named) (orders_on (priced_orders book) sheet)
    (rows-standing (IsKnownRow known named) book sheet rows))
    is)

pub first-same : (known named : ℕ → Bool) → SameKnown known named first_day first_day
first-same known named = record { same = refl; counted = All-nil (PositionCounts known named) }
