-- The sum of what all trades move, by how many there are of each kind and how much one moves.
use Rattle.std.proofs.Common.{List, ap, arith, count_by, filter, get_or, length, subst, sum_by, sym, take, true, ℕ, ◌*◌, ◌++◌, ◌+◌, ◌^◌, ◌∙◌, ◌≡◌, ◌≤◌}
use Rattle.std.proofs.Math.Nat.{mul-le-mul, mul-le-mul_right}
use Rattle.std.proofs.lemmas.Bool.{true≢false}
use Rattle.std.proofs.lemmas.List.{length-map, take_all}
use Rattle.std.proofs.lemmas.List.Elements.{All-weaker}
use Rattle.std.proofs.lemmas.List.Sums.{sum_by-append, sum_by-le, sum_by_more}
use Rattle.std.proofs.lemmas.Option.{get_or_from_slice_get, slice_get_within}
use Rattle.std.specs.Prelude.{Bool, Some, slice_get}
use Rattle.agent_events.specs.declared.order.OrderRow.{OrderRow}
use Rattle.agent_events.specs.declared.trade.Outcome.{Outcome}
use Rattle.agent_events.specs.declared.trade.Trade.{Trade}
use Rattle.agent_events.specs.declared.trade.TradeKind.{TradeKind}
use Rattle.forward_price.specs.declared.price_sheet.Sheet.{Sheet}
use Rattle.gain_loss_book.specs.Posted.{cents_moved}
use Rattle.limit_laws.proofs.Counting.{ones, sum-within}
use Rattle.limit_laws.proofs.ReplayedTrades.{along-all}
use Rattle.limit_laws.specs.Counts.{most_accounts, most_listings, prices_listed}
use Rattle.limit_laws.specs.Limited.{IsCounted, IsLimited}
use Rattle.limit_laws.specs.Moved.{CountedMovesLittle, cents_of, mils_by, mils_of}
use Rattle.limit_laws.specs.SmallTrades.{AddsFewTrades, IsLettersEnd, IsPayment, IsSmallTrade, is_dividend, most_cash_by}
use Rattle.register_laws.proofs.OrdersInTurn.{executed-few}
use Rattle.register_laws.proofs.TradesMoveCash.{trades_move_their_cash}
use Rattle.register_laws.specs.TradeCash.{FilledMoves, MovesBy, MovesItsCash}
use Rattle.register_machine.specs.corrections.Cash.{movements_in}
use Rattle.register_machine.specs.pricing.CorrectedBook.{Book}
use Rattle.register_machine.specs.pricing.CorrectedOrders.{stands}
use Rattle.register_machine.specs.replay.Movements.{if_filled}
use Rattle.register_machine.specs.replay.Replay.{Priced, orders_on, priced_in, priced_orders, replay}
use Rattle.share_lots.specs.Lots.{most_mils}

-- ---- by sheets

abbrev orders_of_sheet : Book → Sheet → ℕ
orders_of_sheet book sheet = length (orders_on (priced_orders book) sheet)

abbrev prices_of : Sheet → ℕ
prices_of sheet = length sheet.prices

-- one trade of each kind weighs at most so much
record Weighs (weight : Trade → ℕ) (of_payment of_end of_order : ℕ) : Type 0 where
  payment : (trade : Trade) → IsPayment trade → weight trade ≤ of_payment
  end : (trade : Trade) → IsLettersEnd trade → weight trade ≤ of_end
  order : (trade : Trade) → IsSmallTrade trade → weight trade ≤ of_order

-- what so many prices and orders weigh
abbrev weighed : ℕ → ℕ → ℕ → ℕ → ℕ → ℕ → ℕ
weighed of_payment of_end of_order accounts prices orders =
    (prices * accounts) * of_payment + ((prices * accounts) * of_end + (2 * orders) * of_order)

sheet-weighs : (book : Book) (weight : Trade → ℕ) (of_payment of_end of_order : ℕ) → Weighs weight of_payment of_end of_order → (sheet : Sheet) (before after : List Trade) → AddsFewTrades book sheet before after → sum_by weight after ≤ sum_by weight before + weighed of_payment of_end of_order (length book.accounts) (prices_of sheet) (orders_of_sheet book sheet)
sheet-weighs book weight of_payment of_end of_order weighs sheet before after adds =
    let whole = ap (sum_by weight) adds.trades
    ∙ (sum_by-append weight before (adds.payments ++ (adds.ends ++ adds.of_orders))
    ∙ ap (λ n. sum_by weight before + n) (sum_by-append weight adds.payments (adds.ends ++ adds.of_orders)
    ∙ ap (λ n. sum_by weight adds.payments + n) (sum_by-append weight adds.ends adds.of_orders))) in
    let payments = sum_by-le weight of_payment adds.payments (All-weaker IsPayment (λ t. weight t ≤ of_payment) weighs.payment adds.payments adds.are_payments) in
    let ends = sum_by-le weight of_end adds.ends (All-weaker IsLettersEnd (λ t. weight t ≤ of_end) weighs.end adds.ends adds.are_ends) in
    let orders = sum_by-le weight of_order adds.of_orders (All-weaker IsSmallTrade (λ t. weight t ≤ of_order) weighs.order adds.of_orders adds.are_small) in
    let few_payments = mul-le-mul_right of_payment adds.few_payments in
    let few_ends = mul-le-mul_right of_end adds.few_ends in
    let few_orders = mul-le-mul_right of_order adds.few_of_orders in
    omega (arith, whole, payments, ends, orders, few_payments, few_ends, few_orders)

-- the prices and the orders of the sheets up to a place
abbrev prices_to : Book → ℕ → ℕ
prices_to book place = sum_by prices_of (take place book.table.sheets)

abbrev orders_to : Book → ℕ → ℕ
orders_to book place = sum_by (orders_of_sheet book) (take place book.table.sheets)

more-of : (f : Sheet → ℕ) (sheets : List Sheet) (place : ℕ) (sheet : Sheet) → slice_get sheets place ≡ Some sheet → sum_by f (take (place + 1) sheets) ≡ sum_by f (take place sheets) + f sheet
more-of f sheets place sheet is =
    sum_by_more f sheets place sheet (slice_get_within sheets place sheet is)
    ∙ ap (λ s. sum_by f (take place sheets) + f s) (get_or_from_slice_get sheets place sheet sheet is)

weighed-more : (p e o accounts prices orders more_prices more_orders : ℕ) → weighed p e o accounts prices orders + weighed p e o accounts more_prices more_orders ≡ weighed p e o accounts (prices + more_prices) (orders + more_orders)
weighed-more p e o accounts prices orders more_prices more_orders = omega arith

all-weighs : (book : Book) → IsLimited book → (weight : Trade → ℕ) (of_payment of_end of_order : ℕ) → Weighs weight of_payment of_end of_order → sum_by weight (replay book).trades ≤ weighed of_payment of_end of_order (length book.accounts) (prices_listed book.table.sheets) (sum_by (orders_of_sheet book) book.table.sheets)
all-weighs book limited weight of_payment of_end of_order weighs =
    let sheets = book.table.sheets in
    let all = along-all book limited (λ place trades. sum_by weight trades ≤ weighed of_payment of_end of_order (length book.accounts) (prices_to book place) (orders_to book place)) (omega arith)
    (λ place sheet is before after adds low.
    let step = sheet-weighs book weight of_payment of_end of_order weighs sheet before after adds in
    let both = weighed-more of_payment of_end of_order (length book.accounts) (prices_to book place) (orders_to book place) (prices_of sheet) (orders_of_sheet book sheet) in
    let prices = more-of prices_of sheets place sheet is in
    let orders = more-of (orders_of_sheet book) sheets place sheet is in
    let same = ap (λ p. weighed of_payment of_end of_order (length book.accounts) p (orders_to book place + orders_of_sheet book sheet)) prices in
    let same_orders = ap (λ o. weighed of_payment of_end of_order (length book.accounts) (prices_to book (place + 1)) o) orders in
    step-on (sum_by weight after) (sum_by weight before) (weighed of_payment of_end of_order (length book.accounts) (prices_of sheet) (orders_of_sheet book sheet))
    (weighed of_payment of_end of_order (length book.accounts) (prices_to book place) (orders_to book place))
    (weighed of_payment of_end of_order (length book.accounts) (prices_to book (place + 1)) (orders_to book (place + 1)))
    step low (both ∙ (sym same ∙ sym same_orders))) in
    subst (λ some. sum_by weight (replay book).trades ≤ weighed of_payment of_end of_order (length book.accounts) (sum_by prices_of some) (sum_by (orders_of_sheet book) some)) (take_all (length sheets) sheets (omega arith)) all
  where
    step-on : (after before more low high : ℕ) → after ≤ before + more → before ≤ low → low + more ≡ high → after ≤ high
    step-on after before more low high step is same = omega (arith, step, is, same)

-- ---- by counts

few-executed : (book : Book) → IsLimited book → sum_by (orders_of_sheet book) book.table.sheets ≤ length (filter stands book.orders)
few-executed book limited =
    let any : OrderRow → Bool = λ row. true in
    let each = sum-within (orders_of_sheet book) (λ (sheet : Sheet). count_by any (orders_on (priced_orders book) sheet)) book.table.sheets
    (λ k d short. omega (arith, ones (orders_on (priced_orders book) (get_or book.table.sheets k d)))) in
    let all = executed-few any (priced_orders book) book.table.sheets limited.orderly.numbered in
    let orders : count_by (λ (order : Priced). any order.row) (priced_orders book) ≡ length (priced_orders book) = ones (priced_orders book) in
    omega (arith, each, all, orders, length-map (filter stands book.orders) (priced_in book.table.sheets))

-- the payments of dividends, or the ends of letters, that there can be
abbrev most_of_positions : ℕ
most_of_positions = 23424000000000

abbrev heaviest : ℕ → ℕ → ℕ → ℕ
heaviest of_payment of_end of_order =
    most_of_positions * of_payment + (most_of_positions * of_end + 200000000 * of_order)

counted-weighs : (book : Book) → IsLimited book → IsCounted book → (weight : Trade → ℕ) (of_payment of_end of_order : ℕ) → Weighs weight of_payment of_end of_order → sum_by weight (replay book).trades ≤ heaviest of_payment of_end of_order
counted-weighs book limited counted weight of_payment of_end of_order weighs =
    let all = all-weighs book limited weight of_payment of_end of_order weighs in
    let prices = prices_listed book.table.sheets in
    let orders = sum_by (orders_of_sheet book) book.table.sheets in
    let positions : prices * length book.accounts ≤ most_listings * most_accounts = mul-le-mul {n₁ = prices} {m₁ = length book.accounts} {n₂ = most_listings} {m₂ = most_accounts} counted.prices counted.accounts in
    let few : 2 * orders ≤ 200000000 = omega (arith, few-executed book limited, counted.orders) in
    let of_payments = mul-le-mul_right {m = prices * length book.accounts} {n = most_listings * most_accounts} of_payment positions in
    let of_ends = mul-le-mul_right {m = prices * length book.accounts} {n = most_listings * most_accounts} of_end positions in
    let of_orders = mul-le-mul_right {m = 2 * orders} {n = 200000000} of_order few in
    omega (arith, all, of_payments, of_ends, of_orders)

-- ---- the weights

-- cents, by kind: a reinvested dividend moves them twice
abbrev moved_by_kind : TradeKind → ℕ → ℕ
moved_by_kind TradeKind.Buy cash = cash
moved_by_kind TradeKind.Sell cash = cash
moved_by_kind TradeKind.Exchange cash = cash
moved_by_kind TradeKind.Letter cash = 0
moved_by_kind TradeKind.LetterReached cash = 0
moved_by_kind TradeKind.LetterEnded cash = cash
moved_by_kind TradeKind.ElectCash cash = 0
moved_by_kind TradeKind.ElectShares cash = 0
moved_by_kind TradeKind.DividendShares cash = 2 * cash
moved_by_kind TradeKind.DividendCash cash = cash

abbrev weight_of_cash : Trade → ℕ
weight_of_cash trade = moved_by_kind trade.kind trade.cash

filled-cents : (kind : TradeKind) (trade : Trade) → FilledMoves kind trade → cents_moved (movements_in trade.outcome trade) ≤ moved_by_kind kind trade.cash
filled-cents TradeKind.Buy trade is = omega (arith, ap cents_moved is.movements, is.whole)
filled-cents TradeKind.Sell trade is = omega (arith, ap cents_moved is.movements, is.whole)
filled-cents TradeKind.Exchange trade is = omega (arith, ap cents_moved is)
filled-cents TradeKind.Letter trade is = omega (arith, ap cents_moved is)
filled-cents TradeKind.LetterReached trade is = omega (arith, ap cents_moved is)
filled-cents TradeKind.LetterEnded trade is = omega (arith, ap cents_moved is)
filled-cents TradeKind.ElectCash trade is = omega (arith, ap cents_moved is)
filled-cents TradeKind.ElectShares trade is = omega (arith, ap cents_moved is)
filled-cents TradeKind.DividendShares trade is = omega (arith, ap cents_moved is)
filled-cents TradeKind.DividendCash trade is = omega (arith, ap cents_moved is)

cents-low : (trade : Trade) → MovesItsCash trade → cents_of trade ≤ weight_of_cash trade
cents-low trade is = by trade.outcome is
  where
    by : (outcome : Outcome) → MovesBy outcome trade → cents_moved (movements_in trade.outcome trade) ≤ moved_by_kind trade.kind trade.cash
    by Outcome.Filled moves = filled-cents trade.kind trade moves
    by (Outcome.Unfilled why) moves = omega (arith, ap cents_moved moves)

payment-cash : (kind : TradeKind) (cash : ℕ) → is_dividend kind ≡ true → cash ≤ most_cash_by kind → moved_by_kind kind cash ≤ 2 * 10 ^ 14
payment-cash TradeKind.DividendShares cash is low = omega (arith, low)
payment-cash TradeKind.DividendCash cash is low = omega (arith, low)
payment-cash TradeKind.Buy cash is low = absurd (true≢false (sym is))
payment-cash TradeKind.Sell cash is low = absurd (true≢false (sym is))
payment-cash TradeKind.Exchange cash is low = absurd (true≢false (sym is))
payment-cash TradeKind.Letter cash is low = absurd (true≢false (sym is))
payment-cash TradeKind.LetterReached cash is low = absurd (true≢false (sym is))
payment-cash TradeKind.LetterEnded cash is low = absurd (true≢false (sym is))
payment-cash TradeKind.ElectCash cash is low = absurd (true≢false (sym is))
payment-cash TradeKind.ElectShares cash is low = absurd (true≢false (sym is))

any-cash : (kind : TradeKind) (cash : ℕ) → cash ≤ most_cash_by kind → moved_by_kind kind cash ≤ 10 ^ 16
any-cash TradeKind.Buy cash low = omega (arith, low)
any-cash TradeKind.Sell cash low = omega (arith, low)
any-cash TradeKind.Exchange cash low = omega (arith, low)
any-cash TradeKind.Letter cash low = omega arith
any-cash TradeKind.LetterReached cash low = omega arith
any-cash TradeKind.LetterEnded cash low = omega (arith, low)
any-cash TradeKind.ElectCash cash low = omega arith
any-cash TradeKind.ElectShares cash low = omega arith
any-cash TradeKind.DividendShares cash low = omega (arith, low)
any-cash TradeKind.DividendCash cash low = omega (arith, low)

cash-weighs : Weighs weight_of_cash (2 * 10 ^ 14) 85000000000 (10 ^ 16)
cash-weighs = record {
  payment = λ trade is. payment-cash trade.kind trade.cash is.kind is.small.cash;
  end = λ trade is. subst (λ kind. trade.cash ≤ most_cash_by kind → moved_by_kind kind trade.cash ≤ 85000000000) (sym is.kind) (λ low. low) is.small.cash;
  order = λ trade is. any-cash trade.kind trade.cash is.cash;
}

filled-le : (outcome : Outcome) (n most : ℕ) → n ≤ most → if_filled outcome n ≤ most
filled-le Outcome.Filled n most low = low
filled-le (Outcome.Unfilled why) n most low = omega arith

kind-mils : (kind : TradeKind) (trade : Trade) → IsSmallTrade trade → mils_by kind trade ≤ most_mils
kind-mils TradeKind.Buy trade is = is.mils
kind-mils TradeKind.DividendShares trade is = is.mils
kind-mils TradeKind.Exchange trade is = is.to_mils
kind-mils TradeKind.Sell trade is = omega arith
kind-mils TradeKind.Letter trade is = omega arith
kind-mils TradeKind.LetterReached trade is = omega arith
kind-mils TradeKind.LetterEnded trade is = omega arith
kind-mils TradeKind.ElectCash trade is = omega arith
kind-mils TradeKind.ElectShares trade is = omega arith
kind-mils TradeKind.DividendCash trade is = omega arith

mils-weigh : Weighs mils_of most_mils 0 most_mils
mils-weigh = record {
  payment = λ trade is. filled-le trade.outcome (mils_by trade.kind trade) most_mils (kind-mils trade.kind trade is.small);
  end = λ trade is. filled-le trade.outcome (mils_by trade.kind trade) 0 (subst (λ kind. mils_by kind trade ≤ 0) (sym is.kind) (omega arith));
  order = λ trade is. filled-le trade.outcome (mils_by trade.kind trade) most_mils (kind-mils trade.kind trade is);
}

ones-weigh : Weighs (λ trade. 1) 1 1 1
ones-weigh = record { payment = λ trade is. omega arith; end = λ trade is. omega arith; order = λ trade is. omega arith }

pub counted_moves_little : (book : Book) → CountedMovesLittle book
counted_moves_little book limited counted =
    let trades = (replay book).trades in
    let cents = sum-within cents_of weight_of_cash trades (All-weaker MovesItsCash (λ trade. cents_of trade ≤ weight_of_cash trade) cents-low trades (trades_move_their_cash book limited.within)) in
    record {
      few = omega (arith, ones trades, counted-weighs book limited counted (λ trade. 1) 1 1 1 ones-weigh);
      cents = omega (arith, cents, counted-weighs book limited counted weight_of_cash (2 * 10 ^ 14) 85000000000 (10 ^ 16) cash-weighs);
      mils = omega (arith, counted-weighs book limited counted mils_of most_mils 0 most_mils mils-weigh);
    }
