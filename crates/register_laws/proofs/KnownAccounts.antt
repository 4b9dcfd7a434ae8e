-- A replay has positions and trades of accounts alone that have orders in its book.
use Rattle.std.proofs.Common.{All, Bool, List, [], ap, filter, fold, refl, sym, true, ℕ, ◌∙◌, ◌∷◌, ◌≡◌}
use Rattle.std.proofs.lemmas.List.{map-id}
use Rattle.std.proofs.lemmas.List.Elements.{All-nil, All-push, All-weaker}
use Rattle.agent_events.specs.declared.order.OrderRow.{OrderRow}
use Rattle.agent_events.specs.declared.trade.Trade.{Trade}
use Rattle.forward_price.specs.PriceTables.{with_prices}
use Rattle.forward_price.specs.declared.price_sheet.Sheet.{Sheet}
use Rattle.register_laws.proofs.OrdersInTurn.{rows-standing}
use Rattle.register_laws.proofs.StepsAlike.{PositionCounts, RowCounts, SheetAlike, step-after}
use Rattle.register_machine.proofs.FoundFacts.{put-all}
use Rattle.register_machine.specs.pricing.CorrectedBook.{Book}
use Rattle.register_machine.specs.pricing.CorrectedOrders.{stands}
use Rattle.register_machine.specs.replay.DayStep.{day_step}
use Rattle.register_machine.specs.replay.Positions.{Position, position_of}
use Rattle.register_machine.specs.replay.Purchase.{credit_of}
use Rattle.register_machine.specs.replay.Replay.{day_after_sheet, first_day, orders_on, priced_orders, replay_over}
use Rattle.register_machine.specs.replay.Trades.{Day, nav_of, with_position, with_trade}

-- all positions and trades are of these accounts
pub record IsKnownDay (known : ℕ → Bool) (day : Day) : Type 0 where
  pub positions : All (λ (p : Position). known p.account ≡ true) day.register
  pub trades : All (λ (t : Trade). known t.account ≡ true) day.trades

record KnownSame (known : ℕ → Bool) (day after : Day) : Type 0 where
  same : day ≡ after
  known_day : IsKnownDay known day

known-sheet : (book : Book) (sheet : Sheet) (known : ℕ → Bool) → SheetAlike book book sheet known (λ class. true) (λ price. price) (KnownSame known)
known-sheet book sheet known = record {
  same = λ d e is. is.same;
  counts = λ d e is. All-weaker (λ (p : Position). known p.account ≡ true) (PositionCounts known (λ class. true)) (λ p own. record { account = own; class = refl }) d.register is.known_day.positions;
  alike = λ account own. record {
    nav = λ class _. ap (λ prices. nav_of (with_prices sheet prices) class) (sym (map-id sheet.prices));
    front = λ class _. refl;
    schedule = λ class _. refl;
    found = λ d e class _ is. ap (λ (x : Day). position_of x.register account class) is.same;
    credit = λ d e is. ap (λ (x : Day). credit_of book sheet x.register account) is.same;
    traded = λ d e trade by is. record {
      same = ap (λ x. with_trade x trade) is.same;
      known_day = record {
        positions = is.known_day.positions;
        trades = All-push (λ (t : Trade). known t.account ≡ true) d.trades trade is.known_day.trades (ap known by ∙ own);
      };
    };
    placed = λ d e p by _ is. record {
      same = ap (λ x. with_position x p) is.same;
      known_day = record {
        positions = put-all (λ (q : Position). known q.account ≡ true) p d.register (ap known by ∙ own) is.known_day.positions;
        trades = is.known_day.trades;
      };
    };
  };
  class = λ price. refl;
  prices = λ k d short. record { same = λ _. refl; rate = λ _. refl };
}

pub known-step : (book : Book) (sheet : Sheet) (known : ℕ → Bool) (rows : List OrderRow) (day : Day) → All (λ (row : OrderRow). known row.order.account ≡ true) rows → IsKnownDay known day → IsKnownDay known (day_step book sheet rows day)
known-step book sheet known rows day all is =
    (step-after book book sheet known (λ class. true) (λ price. price) (KnownSame known) (known-sheet book sheet known) rows day day
    (All-weaker (λ (row : OrderRow). known row.order.account ≡ true) (RowCounts known (λ class. true)) (λ row own. record { account = own; body = record { own = refl; target = λ to _. refl } }) rows all)
    (record { same = refl; known_day = is })).known_day

pub known-sheets : (book : Book) (known : ℕ → Bool) → All (λ (row : OrderRow). known row.order.account ≡ true) (filter stands book.orders) → (sheets : List Sheet) (day : Day) → IsKnownDay known day → IsKnownDay known (fold (day_after_sheet book (priced_orders book)) day sheets)
known-sheets book known all [] day is = is
known-sheets book known all (sheet ∷ sheets) day is =
    known-sheets book known all sheets (day_after_sheet book (priced_orders book) day sheet)
    (known-step book sheet known (orders_on (priced_orders book) sheet) day (rows-standing (λ (row : OrderRow). known row.order.account ≡ true) book sheet all) is)

pub known-replay : (book : Book) (known : ℕ → Bool) → All (λ (row : OrderRow). known row.order.account ≡ true) (filter stands book.orders) → (sheets : List Sheet) → IsKnownDay known (replay_over book sheets)
known-replay book known all sheets =
    known-sheets book known all sheets first_day (record { positions = All-nil (λ (p : Position). known p.account ≡ true); trades = All-nil (λ (t : Trade). known t.account ≡ true) })
