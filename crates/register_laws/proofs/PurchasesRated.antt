-- Every filled purchase of a replay has the rate of its turn.
use Rattle.std.proofs.Common.{All, Bool, List, [], ap, append-nil, append_assoc, arith, false, fold, refl, subst, sym, true, ℕ, ◌++◌, ◌+◌, ◌∙◌, ◌∷◌, ◌≡◌}
use Rattle.std.proofs.lemmas.Bool.{true≢false}
use Rattle.std.proofs.lemmas.List.Elements.{All-append, All-cons, All-head, All-nil, Contains-append_right}
use Rattle.std.proofs.lemmas.List.Sums.{fold-append}
use Rattle.std.specs.Prelude.{Contains}
use Rattle.agent_events.specs.declared.order.OrderRow.{OrderRow}
use Rattle.forward_price.specs.PriceTables.{sheet_published}
use Rattle.forward_price.specs.declared.price_sheet.Sheet.{Sheet}
use Rattle.offering_price.specs.Accumulation.{bracket}
use Rattle.offering_price.specs.Purchase.{split_of}
use Rattle.offering_price.specs.declared.purchase.Split.{Split}
use Rattle.register_laws.proofs.DayTurns.{IsBought, Turn, bought_by, elected_by, exchanged_by, order-turns, reached_by, rows_done, settled_by, sold_by, trade_of, trades_added}
use Rattle.register_laws.proofs.ReplayTurns.{All-one, AnyKey, TurnsKeep, any-all, phases-kept}
use Rattle.register_laws.specs.OrderTurns.{day_at}
use Rattle.register_laws.specs.PurchaseRates.{IsRatedPurchase, PurchasesHaveTheirRate, amount_at, is_filled_purchase}
use Rattle.register_machine.proofs.FoundFacts.{own-account, own-class}
use Rattle.register_machine.specs.pricing.CorrectedBook.{Book, front_of}
use Rattle.register_machine.specs.pricing.OrderClasses.{class_of}
use Rattle.register_machine.specs.replay.DayStep.{day_after_order, day_step}
use Rattle.register_machine.specs.replay.Dividend.{cash_dividend_trade, day_after_dividends, dividend_trade}
use Rattle.register_machine.specs.replay.Letter.{day_after_letter_ends, letter_end_trade}
use Rattle.register_machine.specs.replay.Positions.{PositionKey, Register, position_at, position_of}
use Rattle.register_machine.specs.replay.Purchase.{amount_rated, credit_of}
use Rattle.register_machine.specs.replay.Replay.{day_after_sheet, first_day, orders_on, priced_orders, replay, replay_over}
use Rattle.agent_events.specs.declared.trade.Outcome.{Outcome}
use Rattle.agent_events.specs.declared.trade.Trade.{Trade}
use Rattle.agent_events.specs.declared.trade.TradeKind.{TradeKind}
use Rattle.register_machine.specs.replay.Trades.{Day, nav_of, order_trade}
use Rattle.share_lots.specs.Lots.{mils}

-- ---- what each element of a fold keeps, with those before it

fold-split : {X : Type 0} (K : Day → Type 0) (f : Day → X → Day) (start : Day) (all : List X) → ((before : List X) (x : X) (behind : List X) → all ≡ before ++ x ∷ behind → K (fold f start before) → K (f (fold f start before) x)) → (before behind : List X) → all ≡ before ++ behind → K (fold f start before) → K (fold f start all)
fold-split K f start all keeps before [] split kept =
    subst (λ xs. K (fold f start xs)) (sym (split ∙ append-nil before)) kept
fold-split K f start all keeps before (x ∷ behind) split kept =
    fold-split K f start all keeps (before ++ x ∷ []) behind (split ∙ sym (append_assoc before (x ∷ []) behind))
    (subst K (sym (fold-append f start before (x ∷ []))) (keeps before x behind split kept))

pub fold-splits : {X : Type 0} (K : Day → Type 0) (f : Day → X → Day) (start : Day) (all : List X) → ((before : List X) (x : X) (behind : List X) → all ≡ before ++ x ∷ behind → K (fold f start before) → K (f (fold f start before) x)) → K start → K (fold f start all)
fold-splits K f start all keeps kept = fold-split K f start all keeps [] all refl kept

-- ---- one sheet

-- no order is executed
abbrev pub NoRow : Sheet → OrderRow → Type 0
NoRow sheet row = ⊥

-- a trade that is no filled purchase
not-purchase : (book : Book) (trade : Trade) → is_filled_purchase trade.outcome trade.kind ≡ false → IsRatedPurchase book trade
not-purchase book trade other q = absurd (true≢false (sym q ∙ other))

one-other : (book : Book) (trade : Trade) → is_filled_purchase trade.outcome trade.kind ≡ false → All (IsRatedPurchase book) (trade ∷ [])
one-other book trade other = All-one (IsRatedPurchase book) trade (not-purchase book trade other)

-- where the turn comes of an order
abbrev IsTurn : Book → List Sheet → Sheet → List OrderRow → OrderRow → Type 0
IsTurn book before sheet rows row =
    (behind : List Sheet) × (rest : List OrderRow) × (book.table.sheets ≡ before ++ sheet ∷ behind) × (orders_on (priced_orders book) sheet ≡ rows ++ row ∷ rest)

bought-rated : (book : Book) (before : List Sheet) (sheet : Sheet) (rows : List OrderRow) (row : OrderRow) (gross : ℕ) (split : Split) → IsTurn book before sheet rows row → IsBought book sheet (day_at book before sheet rows).register row gross split → IsRatedPurchase book (bought_by sheet row gross split)
bought-rated book before sheet rows row gross split turn is q =
    let register = (day_at book before sheet rows).register in
    let a = row.order.account in
    let c = class_of row.order.body in
    let key : PositionKey = record { account = a; class = c } in
    let letter = (position_of register a c).letter in
    let rated : amount_rated letter (gross + credit_of book sheet register (position_of register a c).account) ≡ amount_at book sheet register key gross =
    ap (λ account. amount_rated letter (gross + credit_of book sheet register account)) (own-account register a c) in
    record {
      turn = record {
        sheets_before = before;
        sheet = sheet;
        sheets_behind = turn.0;
        sheets = turn.2;
        rows_before = rows;
        row = row;
        rows_behind = turn.1;
        rows = turn.3;
      };
      number = refl;
      account = refl;
      ref_no = refl;
      gross = gross;
      body = is.body;
      amount = amount_at book sheet register key gross;
      rated = refl;
      rate = bracket (front_of book c) (amount_at book sheet register key gross);
      reached = refl;
      split = split;
      divided = ap (λ amount. split_of gross (nav_of sheet c) (bracket (front_of book c) amount)) (sym rated)
          ∙ (ap (λ class. split_of gross (nav_of sheet class) (bracket (front_of book class) (amount_rated letter (gross + credit_of book sheet register (position_of register a c).account)))) (sym (own-class register a c)) ∙ is.divided);
      price = refl;
      mils = refl;
      cash = refl;
      charge = refl;
    }

elected-other : (book : Book) (sheet : Sheet) (row : OrderRow) (in_cash : Bool) → IsRatedPurchase book (elected_by sheet row in_cash)
elected-other book sheet row true = not-purchase book (elected_by sheet row true) refl
elected-other book sheet row false = not-purchase book (elected_by sheet row false) refl

trades-rated : (book : Book) (before : List Sheet) (sheet : Sheet) (rows : List OrderRow) (turn : Turn book sheet (day_at book before sheet rows).register) → All (IsTurn book before sheet rows) (rows_done book sheet (day_at book before sheet rows).register turn) → All (IsRatedPurchase book) (trades_added book sheet (day_at book before sheet rows).register turn)
trades-rated book before sheet rows Turn.Nothing on = All-nil (IsRatedPurchase book)
trades-rated book before sheet rows (Turn.Unfilled row why) on =
    one-other book (record (trade_of sheet row) { outcome = Outcome.Unfilled why }) refl
trades-rated book before sheet rows (Turn.Bought row gross split is none_open) on =
    All-one (IsRatedPurchase book) (bought_by sheet row gross split)
    (bought-rated book before sheet rows row gross split (All-head (IsTurn book before sheet rows) row [] on) is)
trades-rated book before sheet rows (Turn.Noted row gross split letter is so) on =
    All-one (IsRatedPurchase book) (bought_by sheet row gross split)
    (bought-rated book before sheet rows row gross split (All-head (IsTurn book before sheet rows) row [] on) is)
trades-rated book before sheet rows (Turn.Reached row gross split letter is so) on =
    All-cons (IsRatedPurchase book) (bought_by sheet row gross split) (reached_by sheet (day_at book before sheet rows).register row ∷ [])
    (bought-rated book before sheet rows row gross split (All-head (IsTurn book before sheet rows) row [] on) is)
    (one-other book (reached_by sheet (day_at book before sheet rows).register row) refl)
trades-rated book before sheet rows (Turn.Sold row asked is) on =
    one-other book (sold_by book sheet (day_at book before sheet rows).register row asked) refl
trades-rated book before sheet rows (Turn.Exchanged row to asked is) on =
    one-other book (exchanged_by sheet (day_at book before sheet rows).register row to asked) refl
trades-rated book before sheet rows (Turn.Elected row in_cash is) on =
    All-one (IsRatedPurchase book) (elected_by sheet row in_cash) (elected-other book sheet row in_cash)
trades-rated book before sheet rows (Turn.Begun row amount is) on =
    one-other book (record (order_trade sheet row.order TradeKind.Letter) { cash = amount }) refl
trades-rated book before sheet rows (Turn.Paid key cash) on =
    one-other book (cash_dividend_trade sheet (position_at (day_at book before sheet rows).register key) cash) refl
trades-rated book before sheet rows (Turn.Reinvested key cash mils room) on =
    one-other book (dividend_trade sheet (position_at (day_at book before sheet rows).register key) cash mils) refl
trades-rated book before sheet rows (Turn.Ended key letter is) on =
    one-other book (letter_end_trade sheet (position_at (day_at book before sheet rows).register key) (settled_by book sheet (position_at (day_at book before sheet rows).register key) letter)) refl

-- dividends and letters that end add no purchase
keys-rated : (book : Book) (sheet : Sheet) (register : Register) (turn : Turn book sheet register) → All (NoRow sheet) (rows_done book sheet register turn) → All (IsRatedPurchase book) (trades_added book sheet register turn)
keys-rated book sheet register Turn.Nothing none = All-nil (IsRatedPurchase book)
keys-rated book sheet register (Turn.Paid key cash) none =
    one-other book (cash_dividend_trade sheet (position_at register key) cash) refl
keys-rated book sheet register (Turn.Reinvested key cash mils room) none =
    one-other book (dividend_trade sheet (position_at register key) cash mils) refl
keys-rated book sheet register (Turn.Ended key letter is) none =
    one-other book (letter_end_trade sheet (position_at register key) (settled_by book sheet (position_at register key) letter)) refl
keys-rated book sheet register (Turn.Unfilled row why) none = absurd (All-head (NoRow sheet) row [] none)
keys-rated book sheet register (Turn.Bought row gross split is none_open) none = absurd (All-head (NoRow sheet) row [] none)
keys-rated book sheet register (Turn.Noted row gross split letter is so) none = absurd (All-head (NoRow sheet) row [] none)
keys-rated book sheet register (Turn.Reached row gross split letter is so) none =
    absurd (All-head (NoRow sheet) row [] none)
keys-rated book sheet register (Turn.Sold row asked is) none = absurd (All-head (NoRow sheet) row [] none)
keys-rated book sheet register (Turn.Exchanged row to asked is) none = absurd (All-head (NoRow sheet) row [] none)
keys-rated book sheet register (Turn.Elected row in_cash is) none = absurd (All-head (NoRow sheet) row [] none)
keys-rated book sheet register (Turn.Begun row amount is) none = absurd (All-head (NoRow sheet) row [] none)

abbrev Rated : Book → Day → Type 0
Rated book day = All (IsRatedPurchase book) day.trades

keys-keep : (book : Book) → TurnsKeep book NoRow AnyKey (λ done day. Rated book day)
keys-keep book = record {
  keys = λ done day kept. any-all day.register;
  turn = λ sheet done day turn sheet_published rows keys kept.
      All-append (IsRatedPurchase book) day.trades (trades_added book sheet day.register turn) kept (keys-rated book sheet day.register turn rows);
}

-- an order in its turn
row-rated : (book : Book) (before : List Sheet) (sheet : Sheet) (rows : List OrderRow) (row : OrderRow) → IsTurn book before sheet rows row → Rated book (day_at book before sheet rows) → Rated book (day_after_order book sheet (day_at book before sheet rows) row)
row-rated book before sheet rows row turn kept =
    let day = day_at book before sheet rows in
    let here = order-turns book sheet day row in
    let own = subst (All (IsTurn book before sheet rows)) (sym here.rows) (All-one (IsTurn book before sheet rows) row turn) in
    subst (Rated book) here.is
    (All-append (IsRatedPurchase book) day.trades (trades_added book sheet day.register here.turn) kept (trades-rated book before sheet rows here.turn own))

sheet-rated : (book : Book) (before : List Sheet) (sheet : Sheet) (behind : List Sheet) → book.table.sheets ≡ before ++ sheet ∷ behind → Contains book.table.sheets sheet → Rated book (replay_over book before) → Rated book (day_after_sheet book (priced_orders book) (replay_over book before) sheet)
unfolding day_step
sheet-rated book before sheet behind split sheet_published kept =
    let start = day_after_letter_ends book sheet (day_after_dividends book sheet (replay_over book before)) in
    let rows = orders_on (priced_orders book) sheet in
    let begun : Rated book start = phases-kept book NoRow AnyKey (λ done day. Rated book day) (keys-keep book) sheet sheet_published [] (replay_over book before) kept in
    fold-splits (Rated book) (day_after_order book sheet) start rows
    (λ earlier row later is so_far. row-rated book before sheet earlier row (behind, later, split, is) so_far) begun

pub purchases_have_their_rate : (book : Book) → PurchasesHaveTheirRate book
unfolding replay
purchases_have_their_rate book =
    fold-splits (Rated book) (day_after_sheet book (priced_orders book)) first_day book.table.sheets
    (λ before sheet behind split kept. sheet-rated book before sheet behind split (contained before sheet behind split) kept) (All-nil (IsRatedPurchase book))
  where
    among : (before : List Sheet) (sheet : Sheet) (behind : List Sheet) → Contains (before ++ sheet ∷ behind) sheet
    among before sheet behind =
        Contains-append_right before (sheet ∷ behind) sheet (0, omega arith, refl)

    contained : (before : List Sheet) (sheet : Sheet) (behind : List Sheet) → book.table.sheets ≡ before ++ sheet ∷ behind → Contains book.table.sheets sheet
    contained before sheet behind split =
        subst (λ sheets. Contains sheets sheet) (sym split) (among before sheet behind)
