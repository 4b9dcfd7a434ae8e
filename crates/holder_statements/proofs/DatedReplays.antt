-- Over sheets in their order, dated near their moments, the trades of a replay are dated so.
use Rattle.std.proofs.Common.{All, AllPairs, Bool, List, [], arith, fold, get_or, subst, suc, sym, ◌++◌, ◌∷◌, ◌≤◌}
use Rattle.std.proofs.lemmas.List.Elements.{All-append, All-filter, All-nil}
use Rattle.std.proofs.lemmas.List.Kept.{AllPairs-filter}
use Rattle.agent_events.specs.declared.trade.Trade.{Trade}
use Rattle.forward_price.specs.declared.price_sheet.Sheet.{Sheet}
use Rattle.register_machine.proofs.ListItems.{pairs-append}
use Rattle.register_machine.specs.pricing.CorrectedBook.{Book}
use Rattle.register_machine.specs.replay.Replay.{Priced, day_after_sheet, orders_on}
use Rattle.register_machine.specs.replay.Trades.{Day}
use Rattle.holder_statements.specs.Periods.{AreDated, AreSheetsDated, IsNear, IsSheetNear, PartIsDated}
use Rattle.holder_statements.proofs.SheetTrades.{Grows, IsOn, step_grows}

-- a trade isn't later than any of these sheets
abbrev pub IsBefore : List Sheet → Trade → Type 0
IsBefore sheets trade = All (λ (sheet : Sheet). trade.moment ≤ sheet.moment) sheets

near_on : (sheet : Sheet) (trade : Trade) → IsSheetNear sheet → IsOn sheet trade → IsNear trade
near_on sheet trade near on =
    let day = on.day in
    let moment = on.moment in
    let after = near.not_after in
    let before = near.not_before in
    record { not_after = omega arith; not_before = omega arith }

-- trades of one sheet more
dated_more : (sheet : Sheet) (trades new : List Trade) → IsSheetNear sheet → AreDated trades → All (λ (trade : Trade). trade.moment ≤ sheet.moment) trades → All (IsOn sheet) new → AreDated (trades ++ new)
dated_more sheet trades new near dated before own = record {
  in_turn = pairs-append (λ (a : Trade) (b : Trade). a.moment ≤ b.moment) trades new dated.in_turn
      (λ i j d lt short. (let first = (own i d (omega arith)).moment in let second = (own j d short).moment in omega arith))
      (λ k d short i e within. (let earlier = before k d short in let later = (own i e within).moment in omega arith));
  near = All-append IsNear trades new dated.near (λ k d short. near_on sheet (get_or new k d) near (own k d short));
}

before_more : (sheet : Sheet) (sheets : List Sheet) (trades new : List Trade) → AllPairs (λ (a : Sheet) (b : Sheet). a.moment ≤ b.moment) (sheet ∷ sheets) → All (IsBefore (sheet ∷ sheets)) trades → All (IsOn sheet) new → All (IsBefore sheets) (trades ++ new)
before_more sheet sheets trades new climb before own =
    All-append (IsBefore sheets) trades new
    (λ k d short i e within. before k d short (suc i) e (omega arith))
    (λ k d short i e within. (let on = (own k d short).moment in let later = climb 0 (suc i) e (omega arith) (omega arith) in omega arith))

pub dated_on : (book : Book) (priced : List Priced) (sheets : List Sheet) (day : Day) → AreSheetsDated sheets → AreDated day.trades → All (IsBefore sheets) day.trades → AreDated (fold (day_after_sheet book priced) day sheets).trades
dated_on book priced [] day sheets dated before = dated
dated_on book priced (sheet ∷ sheets) day those dated before =
    let grows : Grows sheet day (day_after_sheet book priced day sheet) = step_grows book sheet (orders_on priced sheet) day in
    dated_on book priced sheets (day_after_sheet book priced day sheet)
    (record {
      in_turn = λ i j d lt short. those.in_turn (suc i) (suc j) d (omega arith) (omega arith);
      near = λ k d short. those.near (suc k) d (omega arith);
    })
    (subst (λ (trades : List Trade). AreDated trades) (sym grows.grown)
    (dated_more sheet day.trades grows.new (those.near 0 sheet (omega arith)) dated (λ k d short. before k d short 0 sheet (omega arith)) grows.own))
    (subst (λ (trades : List Trade). All (IsBefore sheets) trades) (sym grows.grown)
    (before_more sheet sheets day.trades grows.new those.in_turn before grows.own))

-- no trades are dated
pub none_dated : AreDated []
none_dated = record { in_turn = λ i j d lt short. absurd (omega arith); near = All-nil IsNear }

pub part_is_dated : (is_of : Trade → Bool) (trades : List Trade) → PartIsDated is_of trades
part_is_dated is_of trades dated = record {
  in_turn = AllPairs-filter (λ (a : Trade) (b : Trade). a.moment ≤ b.moment) is_of trades dated.in_turn;
  near = All-filter is_of IsNear trades dated.near;
}
