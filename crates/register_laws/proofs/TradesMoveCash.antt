-- Each trade of a replay moves the cash of its kind, and a charge is a part of it.
use Rattle.std.proofs.Common.{All, Bool, List, None, Option, Some, [], arith, cond, false, refl, sum_by, true, ℕ, ◌+◌, ◌-◌, ◌==◌, ◌∷◌, ◌≡◌, ◌≤◌}
use Rattle.std.proofs.lemmas.List.Elements.{All-append, All-cons, All-nil}
use Rattle.std.proofs.lemmas.List.Sums.{sum_by-cons}
use Rattle.std.specs.Option.{option_map_or}
use Rattle.agent_events.specs.declared.order.OrderRow.{OrderRow}
use Rattle.agent_events.specs.declared.request.ClassForm.{ClassForm}
use Rattle.class_terms.proofs.TableFacts.{rates-lawful, schedule-ceiling}
use Rattle.class_terms.specs.Tables.{breaks_schedule, first_broken}
use Rattle.contingent_charge.proofs.ChargeLemmas.{charge-within}
use Rattle.contingent_charge.specs.DeferredCharge.{Valued, charge_of, with_values}
use Rattle.forward_price.specs.declared.price_sheet.Sheet.{Sheet}
use Rattle.offering_price.specs.declared.purchase.Split.{Split}
use Rattle.register_laws.proofs.DayTurns.{IsBought, Turn, bought_by, elected_by, exchanged_by, position_asked, reached_by, settled_by, sold_by, trade_of, trades_added}
use Rattle.register_laws.proofs.HouseholdCredit.{FoundAs, found-as}
use Rattle.register_laws.proofs.PurchasesDivided.{parts_make}
use Rattle.register_laws.proofs.ReplayTurns.{All-one, AnyKey, AnyRow, TurnsKeep, any-all, replay-kept}
use Rattle.register_laws.specs.ReplayKeeps.{IsWithinLimits, TermsWithinLimits}
use Rattle.register_laws.specs.TradeCash.{MovesItsCash, TradesMoveTheirCash}
use Rattle.register_machine.specs.journal.Kinds.{class_numbered}
use Rattle.register_machine.specs.pricing.CorrectedBook.{Book, schedule_of}
use Rattle.register_machine.specs.pricing.CorrectedOrders.{stands}
use Rattle.register_machine.specs.replay.Dividend.{cash_dividend_trade, dividend_trade}
use Rattle.register_machine.specs.replay.Letter.{letter_end_trade}
use Rattle.register_machine.specs.replay.Positions.{Register, position_at}
use Rattle.register_machine.specs.replay.Purchase.{purchase_rate}
use Rattle.register_machine.specs.replay.Replay.{orders_on, priced_orders}
use Rattle.agent_events.specs.declared.trade.Outcome.{Outcome}
use Rattle.agent_events.specs.declared.trade.TradeKind.{TradeKind}
use Rattle.register_machine.specs.replay.Trades.{nav_of, order_trade}
use Rattle.share_lots.specs.Lots.{mils}
use Rattle.share_lots.specs.Taking.{pieces}

schedule-low : (place : ℕ) (before : Option ℕ) (rates : List ℕ) → first_broken breaks_schedule place before rates ≡ None → All (λ rate. rate ≤ 850) rates
schedule-low place before [] stands = All-nil (λ rate. rate ≤ 850)
schedule-low place before (rate ∷ rates) stands =
    elim (breaks_schedule before rate) as (λ b. breaks_schedule before rate ≡ b → cond b (Some (place + 1)) (first_broken breaks_schedule (place + 1) (Some rate) rates) ≡ None → All (λ r. r ≤ 850) (rate ∷ rates)) [
      | true ↦ λ e h. absurd (some_none h)
      | false ↦ λ e h. All-cons (λ r. r ≤ 850) rate rates (schedule-ceiling before rate e) (schedule-low (place + 1) (Some rate) rates h)
    ] refl stands
  where
    some_none : (Some (place + 1) ≡ None) → ⊥
    some_none h = cc

schedule-of-low : (book : Book) (class : ℕ) → All TermsWithinLimits book.classes → All (λ rate. rate ≤ 850) (schedule_of book class)
schedule-of-low book class terms =
    by (class_numbered book.classes class) (found-as TermsWithinLimits (λ other. other.class == class) book.classes terms)
  where
    by : (found : Option ClassForm) → FoundAs TermsWithinLimits found → All (λ rate. rate ≤ 850) (option_map_or (λ terms. terms.deferred) found [])
    by None is = All-nil (λ rate. rate ≤ 850)
    by (Some form) is = schedule-low 0 None form.deferred (rates-lawful form.deferred is.deferred).stands

charges-within : (day : ℕ) (schedule : List ℕ) (items : List Valued) → All (λ rate. rate ≤ 850) schedule → sum_by (charge_of day schedule) items ≤ sum_by (λ (item : Valued). item.value) items
charges-within day schedule [] low = omega arith
charges-within day schedule (item ∷ items) low =
    omega (arith, sum_by-cons (charge_of day schedule) item items, sum_by-cons (λ (i : Valued). i.value) item items, charge-within day schedule item low, charges-within day schedule items low)

sold-moves : (book : Book) (sheet : Sheet) (register : Register) (row : OrderRow) (asked : ℕ) → IsWithinLimits book → MovesItsCash (sold_by book sheet register row asked)
sold-moves book sheet register row asked within =
    let x = position_asked register row in
    let trade = sold_by book sheet register row asked in
    let part : trade.charge ≤ trade.cash = charges-within sheet.day (schedule_of book x.class) (with_values (nav_of sheet x.class) 0 (pieces asked x.holding.lots)) (schedule-of-low book x.class within.terms) in
    record { rest = trade.cash - trade.charge; whole = omega (arith, part); movements = refl }

bought-moves : (book : Book) (sheet : Sheet) (register : Register) (row : OrderRow) (gross : ℕ) (split : Split) → IsBought book sheet register row gross split → MovesItsCash (bought_by sheet row gross split)
bought-moves book sheet register row gross split is =
    let x = position_asked register row in
    let parts = parts_make gross (nav_of sheet x.class) (purchase_rate book sheet register x gross) split is.divided in
    record { rest = gross - split.charge; whole = omega (arith, parts); movements = refl }

elected-moves : (sheet : Sheet) (row : OrderRow) (in_cash : Bool) → MovesItsCash (elected_by sheet row in_cash)
elected-moves sheet row true = refl
elected-moves sheet row false = refl

cash-moved : (book : Book) (sheet : Sheet) (register : Register) (turn : Turn book sheet register) → IsWithinLimits book → All MovesItsCash (trades_added book sheet register turn)
cash-moved book sheet register Turn.Nothing within = All-nil MovesItsCash
cash-moved book sheet register (Turn.Unfilled row why) within =
    All-one MovesItsCash (record (trade_of sheet row) { outcome = Outcome.Unfilled why }) refl
cash-moved book sheet register (Turn.Bought row gross split is none_open) within =
    All-one MovesItsCash (bought_by sheet row gross split) (bought-moves book sheet register row gross split is)
cash-moved book sheet register (Turn.Noted row gross split letter is so) within =
    All-one MovesItsCash (bought_by sheet row gross split) (bought-moves book sheet register row gross split is)
cash-moved book sheet register (Turn.Reached row gross split letter is so) within =
    All-cons MovesItsCash (bought_by sheet row gross split) (reached_by sheet register row ∷ []) (bought-moves book sheet register row gross split is)
    (All-one MovesItsCash (reached_by sheet register row) refl)
cash-moved book sheet register (Turn.Sold row asked is) within =
    All-one MovesItsCash (sold_by book sheet register row asked) (sold-moves book sheet register row asked within)
cash-moved book sheet register (Turn.Exchanged row to asked is) within =
    All-one MovesItsCash (exchanged_by sheet register row to asked) refl
cash-moved book sheet register (Turn.Elected row in_cash is) within =
    All-one MovesItsCash (elected_by sheet row in_cash) (elected-moves sheet row in_cash)
cash-moved book sheet register (Turn.Begun row amount is) within =
    All-one MovesItsCash (record (order_trade sheet row.order TradeKind.Letter) { cash = amount }) refl
cash-moved book sheet register (Turn.Paid key cash) within =
    All-one MovesItsCash (cash_dividend_trade sheet (position_at register key) cash) refl
cash-moved book sheet register (Turn.Reinvested key cash mils room) within =
    All-one MovesItsCash (dividend_trade sheet (position_at register key) cash mils) refl
cash-moved book sheet register (Turn.Ended key letter is) within =
    All-one MovesItsCash (letter_end_trade sheet (position_at register key) (settled_by book sheet (position_at register key) letter)) refl

turns-move-cash : (book : Book) → IsWithinLimits book → TurnsKeep book AnyRow AnyKey (λ done day. All MovesItsCash day.trades)
turns-move-cash book within = record {
  keys = λ done day kept. any-all day.register;
  turn = λ sheet done day turn published rows keys kept.
      All-append MovesItsCash day.trades (trades_added book sheet day.register turn) kept (cash-moved book sheet day.register turn within);
}

pub trades_move_their_cash : (book : Book) → TradesMoveTheirCash book
trades_move_their_cash book within =
    replay-kept book AnyRow AnyKey (λ done day. All MovesItsCash day.trades) (turns-move-cash book within)
    (λ sheet. any-all (orders_on (priced_orders book) sheet)) (All-nil MovesItsCash)
