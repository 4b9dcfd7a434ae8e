-- The trades of a replay, sheet by sheet: each sheet adds few, and each trade is small.
use Rattle.std.proofs.Common.{All, List, Some, [], ap, append_assoc, arith, length, slice_get, subst, suc, sym, take, zero, ℕ, ◌++◌, ◌+◌, ◌∙◌, ◌≡◌, ◌≤◌}
use Rattle.std.proofs.lemmas.List.Elements.{All-append, All-nil, All-weaker}
use Rattle.std.proofs.lemmas.List.Sums.{fold_more}
use Rattle.std.proofs.lemmas.Option.{get_or_from_slice_get, slice_get_within}
use Rattle.agent_events.specs.declared.trade.Trade.{Trade}
use Rattle.forward_price.specs.declared.price_sheet.Sheet.{Sheet}
use Rattle.limit_laws.proofs.SheetTrades.{StandsWithin, after-dividends, after-ends, after-orders}
use Rattle.limit_laws.specs.Limited.{IsLimited, stands_among}
use Rattle.limit_laws.specs.SmallTrades.{AddsFewTrades, IsLettersEnd, IsPayment, IsSmallTrade, SheetsAddFewTrades, TradesAreSmall}
use Rattle.register_laws.proofs.KnownAccounts.{known-replay}
use Rattle.register_laws.proofs.LettersKept.{keeps_letters}
use Rattle.register_laws.proofs.LotsCounted.{counted_to}
use Rattle.register_laws.proofs.OrdersInTurn.{rows-standing}
use Rattle.register_laws.proofs.RegistersKept.{at-last}
use Rattle.register_laws.specs.ReplayKeeps.{RowInRange, SheetInRange}
use Rattle.register_machine.proofs.ListItems.{item-there}
use Rattle.register_machine.specs.pricing.CorrectedBook.{Book}
use Rattle.register_machine.specs.replay.DayStep.{day_step}
use Rattle.register_machine.specs.replay.Dividend.{day_after_dividends}
use Rattle.register_machine.specs.replay.Letter.{day_after_letter_ends}
use Rattle.register_machine.specs.replay.Replay.{day_after_sheet, first_day, orders_on, priced_orders, replay, replay_to}
use Rattle.register_machine.specs.replay.Trades.{Day}

within-to : (book : Book) (place : ℕ) → IsLimited book → StandsWithin book (replay_to book place).register
within-to book place limited = record {
  stand = (counted_to book place limited.orderly).0;
  known = (known-replay book (stands_among book.accounts) limited.placed (take place book.table.sheets)).positions;
  letters = (keeps_letters book limited.orderly limited.within limited.in_range).up_to place;
}

sheet-step : (book : Book) (place : ℕ) (sheet : Sheet) → slice_get book.table.sheets place ≡ Some sheet → replay_to book (place + 1) ≡ day_after_sheet book (priced_orders book) (replay_to book place) sheet
sheet-step book place sheet is =
    fold_more (day_after_sheet book (priced_orders book)) first_day book.table.sheets place sheet (slice_get_within book.table.sheets place sheet is)
    ∙ ap (day_after_sheet book (priced_orders book) (replay_to book place)) (get_or_from_slice_get book.table.sheets place sheet sheet is)

in-three : (trades payments ends of_orders : List Trade) → ((trades ++ payments) ++ ends) ++ of_orders ≡ trades ++ (payments ++ (ends ++ of_orders))
in-three trades payments ends of_orders =
    append_assoc (trades ++ payments) ends of_orders ∙ append_assoc trades payments (ends ++ of_orders)

step-adds : (book : Book) (sheet : Sheet) (day : Day) → IsLimited book → SheetInRange sheet → StandsWithin book day.register → AddsFewTrades book sheet day.trades (day_after_sheet book (priced_orders book) day sheet).trades
unfolding day_step
step-adds book sheet day limited low within =
    let paid_day = day_after_dividends book sheet day in
    let ended_day = day_after_letter_ends book sheet paid_day in
    let rows = orders_on (priced_orders book) sheet in
    let paid = after-dividends book sheet limited day within in
    let ended = after-ends book sheet limited paid_day paid.within in
    let ordered = after-orders book sheet low rows ended_day (rows-standing RowInRange book sheet limited.in_range.letters) ended.within.stand in
    record {
      payments = paid.adds.added;
      ends = ended.adds.added;
      of_orders = ordered.added;
      trades = ordered.is
          ∙ (ap (λ (trades : List Trade). trades ++ ordered.added) (ended.adds.is ∙ ap (λ (trades : List Trade). trades ++ ended.adds.added) paid.adds.is)
          ∙ in-three day.trades paid.adds.added ended.adds.added ordered.added);
      are_payments = paid.adds.all;
      are_ends = ended.adds.all;
      are_small = ordered.all;
      few_payments = paid.adds.few;
      few_ends = ended.adds.few;
      few_of_orders = ordered.few;
    }

pub sheets_add_few_trades : (book : Book) → SheetsAddFewTrades book
sheets_add_few_trades book limited place sheet is =
    let sheets = book.table.sheets in
    let low = subst SheetInRange (get_or_from_slice_get sheets place sheet sheet is) (limited.in_range.prices place sheet (slice_get_within sheets place sheet is)) in
    subst (λ (after : Day). AddsFewTrades book sheet (replay_to book place).trades after.trades) (sym (sheet-step book place sheet is))
    (step-adds book sheet (replay_to book place) limited low (within-to book place limited))

-- ---- along the sheets

-- what each sheet's additions keep holds of the trades up to each place
pub along : (book : Book) → IsLimited book → (K : ℕ → List Trade → Type 0) → K 0 [] → ((place : ℕ) (sheet : Sheet) → slice_get book.table.sheets place ≡ Some sheet → (before after : List Trade) → AddsFewTrades book sheet before after → K place before → K (place + 1) after) → (place : ℕ) → place ≤ length book.table.sheets → K place (replay_to book place).trades
along book limited K first keeps zero within = first
along book limited K first keeps (suc place) within =
    let here = item-there book.table.sheets place (omega (arith, within)) in
    let before = along book limited K first keeps place (omega (arith, within)) in
    let more : place + 1 ≡ suc place = omega arith in
    subst (λ n. K n (replay_to book n).trades) more
    (keeps place here.0 here.1 (replay_to book place).trades (replay_to book (place + 1)).trades (sheets_add_few_trades book limited place here.0 here.1) before)

pub along-all : (book : Book) → IsLimited book → (K : ℕ → List Trade → Type 0) → K 0 [] → ((place : ℕ) (sheet : Sheet) → slice_get book.table.sheets place ≡ Some sheet → (before after : List Trade) → AddsFewTrades book sheet before after → K place before → K (place + 1) after) → K (length book.table.sheets) (replay book).trades
along-all book limited K first keeps =
    subst (λ (day : Day). K (length book.table.sheets) day.trades) (at-last book)
    (along book limited K first keeps (length book.table.sheets) (omega arith))

pub trades_are_small : (book : Book) → TradesAreSmall book
trades_are_small book limited =
    along-all book limited (λ place trades. All IsSmallTrade trades) (All-nil IsSmallTrade)
    (λ place sheet is before after adds small.
    subst (All IsSmallTrade) (sym adds.trades)
    (All-append IsSmallTrade before (adds.payments ++ (adds.ends ++ adds.of_orders)) small
    (All-append IsSmallTrade adds.payments (adds.ends ++ adds.of_orders) (All-weaker IsPayment IsSmallTrade (λ trade is. is.small) adds.payments adds.are_payments)
    (All-append IsSmallTrade adds.ends adds.of_orders (All-weaker IsLettersEnd IsSmallTrade (λ trade is. is.small) adds.ends adds.are_ends) adds.are_small))))
