-- What every turn keeps, a replay keeps.
use Rattle.std.proofs.Common.{All, Bool, List, [], arith, cond, false, filter, fold, length-append, map, refl, subst, sym, take, true, ℕ, ◌++◌, ◌==◌, ◌∷◌, ◌≡◌}
use Rattle.std.proofs.lemmas.List.{get_or_append_left}
use Rattle.std.proofs.lemmas.List.Elements.{All-cons, All-contains_itself, All-filter, All-head, All-map, All-nil, All-tail, All-take, All-weaker, Contains-append_right}
use Rattle.std.specs.Prelude.{Contains}
use Rattle.agent_events.specs.declared.order.OrderRow.{OrderRow}
use Rattle.forward_price.specs.PriceTables.{sheet_published}
use Rattle.forward_price.specs.declared.price_sheet.Sheet.{Sheet}
use Rattle.register_laws.proofs.DayTurns.{KeyTurns, Turn, day_after_turn, dividend-turns, keys_done, letter_end-turns, order-turns, rows_done}
use Rattle.register_laws.specs.OrderTurns.{OrderTurn, day_at, day_before_orders}
use Rattle.register_machine.specs.pricing.CorrectedBook.{Book}
use Rattle.register_machine.specs.pricing.DividendRates.{rate_at}
use Rattle.register_machine.specs.replay.DayStep.{day_after_order, day_after_orders, day_step}
use Rattle.register_machine.specs.replay.Dividend.{day_after_class, day_after_dividend, day_after_dividends, day_after_rate, is_of_class, keys_of_class}
use Rattle.register_machine.specs.replay.Letter.{day_after_letter_end, day_after_letter_ends, has_letter_over, keys_of_letters_over}
use Rattle.register_machine.specs.replay.Positions.{Position, PositionKey, Register, key_of}
use Rattle.register_machine.specs.replay.Replay.{day_after_sheet, first_day, orders_on, priced_orders, replay, replay_over}
use Rattle.register_machine.specs.replay.Trades.{Day}

-- Of a book: what is known of the orders on each sheet and of the keys of all positions, and that each turn keeps a fact about
-- the orders executed so far and the day.
pub record TurnsKeep (book : Book) (R : Sheet → OrderRow → Type 0) (P : PositionKey → Type 0) (K : List OrderRow → Day → Type 0) : Type 0 where
  pub keys : (done : List OrderRow) (day : Day) → K done day → All (λ x. P (key_of x)) day.register
  pub turn : (sheet : Sheet) (done : List OrderRow) (day : Day) (turn : Turn book sheet day.register) → Contains book.table.sheets sheet → All (R sheet) (rows_done book sheet day.register turn) → All P (keys_done book sheet day.register turn) → K done day → K (rows_done book sheet day.register turn ++ done) (day_after_turn book sheet day turn)

-- of any key and of any order
abbrev pub AnyKey : PositionKey → Type 0
AnyKey key = Unit {0}

abbrev pub AnyRow : Sheet → OrderRow → Type 0
AnyRow sheet row = Unit {0}

pub any-all : {X : Type 0} (xs : List X) → All (λ (x : X). Unit {0}) xs
any-all xs k d short = tt

pub All-one : {X : Type 0} (P : X → Type 0) (x : X) → P x → All P (x ∷ [])
All-one P x is = All-cons P x [] is (All-nil P)

keys-kept : (book : Book) (R : Sheet → OrderRow → Type 0) (P : PositionKey → Type 0) (K : List OrderRow → Day → Type 0) → TurnsKeep book R P K → (sheet : Sheet) → Contains book.table.sheets sheet → (step : Day → PositionKey → Day) → ((day : Day) (key : PositionKey) → KeyTurns book sheet day key (step day key)) → (done : List OrderRow) (day : Day) (keys : List PositionKey) → All P keys → K done day → K done (fold step day keys)
keys-kept book R P K keeps sheet sheet_published step turns done day [] those kept = kept
keys-kept book R P K keeps sheet sheet_published step turns done day (key ∷ keys) those kept =
    let here = turns day key in
    let own = All-head P key keys those in
    let after = keeps.turn sheet done day here.turn sheet_published
    (subst (All (R sheet)) (sym here.rows) (All-nil (R sheet)))
    (All-weaker (λ other. other ≡ key) P (λ other same. subst P (sym same) own) (keys_done book sheet day.register here.turn) here.keys) kept in
    keys-kept book R P K keeps sheet sheet_published step turns done (step day key) keys (All-tail P key keys those)
    (subst (K done) here.is (subst (λ rows. K (rows ++ done) (day_after_turn book sheet day here.turn)) here.rows after))

-- the keys of the positions that pass
chosen-keys : (P : PositionKey → Type 0) (p : Position → Bool) (register : Register) → All (λ x. P (key_of x)) register → All P (map key_of (filter p register))
chosen-keys P p register those =
    All-map P key_of (filter p register) (All-filter p (λ x. P (key_of x)) register those)

classes-kept : (book : Book) (R : Sheet → OrderRow → Type 0) (P : PositionKey → Type 0) (K : List OrderRow → Day → Type 0) → TurnsKeep book R P K → (sheet : Sheet) → Contains book.table.sheets sheet → (done : List OrderRow) (day : Day) (prices : List (ℕ × ℕ)) → K done day → K done (fold (day_after_class book.rates sheet) day prices)
classes-kept book R P K keeps sheet sheet_published done day [] kept = kept
classes-kept book R P K keeps sheet sheet_published done day (price ∷ prices) kept =
    classes-kept book R P K keeps sheet sheet_published done (day_after_class book.rates sheet day price) prices
    (elim (rate_at book.rates price.0 sheet.moment == 0) as (λ b. K done (cond b day (day_after_rate sheet (rate_at book.rates price.0 sheet.moment) price day))) [
      | true ↦ kept
      | false ↦
          let rate = rate_at book.rates price.0 sheet.moment in
          keys-kept book R P K keeps sheet sheet_published (day_after_dividend sheet rate price.1) (dividend-turns book sheet rate price.1) done day (keys_of_class price.0 day.register)
          (chosen-keys P (is_of_class price.0) day.register (keeps.keys done day kept)) kept
    ])

-- these orders, executed in turn behind others
abbrev pub done_with : List OrderRow → List OrderRow → List OrderRow
done_with [] done = done
done_with (row ∷ rows) done = done_with rows (row ∷ done)

orders-kept : (book : Book) (R : Sheet → OrderRow → Type 0) (P : PositionKey → Type 0) (K : List OrderRow → Day → Type 0) → TurnsKeep book R P K → (sheet : Sheet) → Contains book.table.sheets sheet → (done : List OrderRow) (day : Day) (rows : List OrderRow) → All (R sheet) rows → K done day → K (done_with rows done) (day_after_orders book sheet rows day)
orders-kept book R P K keeps sheet sheet_published done day [] those kept = kept
orders-kept book R P K keeps sheet sheet_published done day (row ∷ rows) those kept =
    let here = order-turns book sheet day row in
    let own = All-cons (R sheet) row [] (All-head (R sheet) row rows those) (All-nil (R sheet)) in
    let after = keeps.turn sheet done day here.turn sheet_published
    (subst (All (R sheet)) (sym here.rows) own) (subst (All P) (sym here.keys) (All-nil P)) kept in
    orders-kept book R P K keeps sheet sheet_published (row ∷ done) (day_after_order book sheet day row) rows
    (All-tail (R sheet) row rows those)
    (subst (K (row ∷ done)) here.is (subst (λ some. K (some ++ done) (day_after_turn book sheet day here.turn)) here.rows after))

-- the dividends of a sheet and the letters that end on it
pub phases-kept : (book : Book) (R : Sheet → OrderRow → Type 0) (P : PositionKey → Type 0) (K : List OrderRow → Day → Type 0) → TurnsKeep book R P K → (sheet : Sheet) → Contains book.table.sheets sheet → (done : List OrderRow) (day : Day) → K done day → K done (day_after_letter_ends book sheet (day_after_dividends book sheet day))
phases-kept book R P K keeps sheet sheet_published done day kept =
    let paid = classes-kept book R P K keeps sheet sheet_published done day sheet.prices kept in
    let after_dividends = day_after_dividends book sheet day in
    keys-kept book R P K keeps sheet sheet_published (day_after_letter_end book sheet) (letter_end-turns book sheet) done after_dividends (keys_of_letters_over sheet after_dividends.register)
    (chosen-keys P (has_letter_over sheet) after_dividends.register (keeps.keys done after_dividends paid)) paid

step-kept : (book : Book) (R : Sheet → OrderRow → Type 0) (P : PositionKey → Type 0) (K : List OrderRow → Day → Type 0) → TurnsKeep book R P K → (sheet : Sheet) → Contains book.table.sheets sheet → (done : List OrderRow) (day : Day) (rows : List OrderRow) → All (R sheet) rows → K done day → K (done_with rows done) (day_step book sheet rows day)
unfolding day_step
step-kept book R P K keeps sheet sheet_published done day rows those kept =
    orders-kept book R P K keeps sheet sheet_published done (day_after_letter_ends book sheet (day_after_dividends book sheet day)) rows those
    (phases-kept book R P K keeps sheet sheet_published done day kept)

-- the orders that sheets execute, behind others
abbrev pub executed : Book → List Sheet → List OrderRow → List OrderRow
executed book [] done = done
executed book (sheet ∷ sheets) done = executed book sheets (done_with (orders_on (priced_orders book) sheet) done)

-- what is known of the orders on each sheet
abbrev pub KnownOn : Book → (Sheet → OrderRow → Type 0) → Type 0
KnownOn book R = (sheet : Sheet) → All (R sheet) (orders_on (priced_orders book) sheet)

pub sheets-kept : (book : Book) (R : Sheet → OrderRow → Type 0) (P : PositionKey → Type 0) (K : List OrderRow → Day → Type 0) → TurnsKeep book R P K → KnownOn book R → (done : List OrderRow) (day : Day) (sheets : List Sheet) → All (Contains book.table.sheets) sheets → K done day → K (executed book sheets done) (fold (day_after_sheet book (priced_orders book)) day sheets)
sheets-kept book R P K keeps known done day [] sheet_published kept = kept
sheets-kept book R P K keeps known done day (sheet ∷ sheets) sheet_published kept =
    let rows = orders_on (priced_orders book) sheet in
    sheets-kept book R P K keeps known (done_with rows done) (day_after_sheet book (priced_orders book) day sheet) sheets
    (All-tail (Contains book.table.sheets) sheet sheets sheet_published)
    (step-kept book R P K keeps sheet (All-head (Contains book.table.sheets) sheet sheets sheet_published) done day rows
    (known sheet) kept)

-- and so for the replay over some of the book's sheets, and over all
pub over-kept : (book : Book) (R : Sheet → OrderRow → Type 0) (P : PositionKey → Type 0) (K : List OrderRow → Day → Type 0) → TurnsKeep book R P K → KnownOn book R → K [] first_day → (sheets : List Sheet) → All (Contains book.table.sheets) sheets → K (executed book sheets []) (replay_over book sheets)
over-kept book R P K keeps known first sheets sheet_published =
    sheets-kept book R P K keeps known [] first_day sheets sheet_published first

pub replay-kept : (book : Book) (R : Sheet → OrderRow → Type 0) (P : PositionKey → Type 0) (K : List OrderRow → Day → Type 0) → TurnsKeep book R P K → KnownOn book R → K [] first_day → K (executed book book.table.sheets []) (replay book)
unfolding replay
replay-kept book R P K keeps known first =
    over-kept book R P K keeps known first book.table.sheets (All-contains_itself book.table.sheets)

-- the first sheets of a book are sheets of it
pub first-sheets : (book : Book) (number : ℕ) → All (Contains book.table.sheets) (take number book.table.sheets)
first-sheets book number =
    All-take (Contains book.table.sheets) number book.table.sheets (All-contains_itself book.table.sheets)

-- ---- the turn of an order

-- the orders executed before a turn
abbrev pub done_at : (book : Book) → OrderTurn book → List OrderRow
done_at book turn = done_with turn.rows_before (executed book turn.sheets_before [])

first-of : {X : Type 0} (P : X → Type 0) (xs ys zs : List X) → zs ≡ xs ++ ys → All P zs → All P xs
first-of P xs ys zs is all k d short =
    let whole = subst (All P) is all k d (omega (arith, short, length-append xs ys)) in
    subst P (get_or_append_left xs ys d k short) whole

-- what turns keep holds when the turn of an order comes
pub at_turn-kept : (book : Book) (R : Sheet → OrderRow → Type 0) (P : PositionKey → Type 0) (K : List OrderRow → Day → Type 0) → TurnsKeep book R P K → KnownOn book R → K [] first_day → (turn : OrderTurn book) → K (done_at book turn) (day_at book turn.sheets_before turn.sheet turn.rows_before)
at_turn-kept book R P K keeps known first turn =
    let among = first-of (Contains book.table.sheets) turn.sheets_before (turn.sheet ∷ turn.sheets_behind) book.table.sheets turn.sheets (All-contains_itself book.table.sheets) in
    let sheet_published : Contains book.table.sheets turn.sheet = subst (λ sheets. Contains sheets turn.sheet) (sym turn.sheets) (Contains-append_right turn.sheets_before (turn.sheet ∷ turn.sheets_behind) turn.sheet (0, omega arith, refl)) in
    let before = over-kept book R P K keeps known first turn.sheets_before among in
    let done = executed book turn.sheets_before [] in
    orders-kept book R P K keeps turn.sheet sheet_published done (day_before_orders book turn.sheets_before turn.sheet) turn.rows_before
    (first-of (R turn.sheet) turn.rows_before (turn.row ∷ turn.rows_behind) (orders_on (priced_orders book) turn.sheet) turn.rows (known turn.sheet))
    (phases-kept book R P K keeps turn.sheet sheet_published done (replay_over book turn.sheets_before) before)
