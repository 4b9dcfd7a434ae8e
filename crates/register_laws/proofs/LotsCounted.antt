-- An order is executed on one sheet at most, so a replay brings a position no more lots than its account's orders allow.
use Rattle.std.proofs.Common.{All, Bool, List, Some, [], ap, arith, cond, count_by, false, filter, refl, subst, sum_by, sym, take, true, ℕ, ◌++◌, ◌+◌, ◌==◌, ◌∙◌, ◌∷◌, ◌≡◌, ◌≤◌}
use Rattle.std.proofs.lemmas.List.Elements.{All-head, All-nil}
use Rattle.std.proofs.lemmas.List.Sums.{sum_by-append, sum_by-cons, sum_by-take-le}
use Rattle.agent_events.specs.declared.order.OrderRow.{OrderRow}
use Rattle.forward_price.specs.PriceTables.{sheet_published}
use Rattle.forward_price.specs.declared.price_sheet.Sheet.{Sheet}
use Rattle.fund_exchange.specs.Exchange.{transfer_of}
use Rattle.letter_of_intent.specs.Letters.{note_of_purchase}
use Rattle.letter_of_intent.specs.declared.letter.Letter.{Letter}
use Rattle.offering_price.specs.declared.purchase.Split.{Split}
use Rattle.register_laws.proofs.AccountParts.{Costs, Counted, Passes, Rises, Within, counted-more, lettered, looked_up-owns, looked_up-within, put-both, put-more, put-same}
use Rattle.register_laws.proofs.Comparisons.{and-false, eq-no, eq-yes}
use Rattle.register_laws.proofs.DayTurns.{Turn, goes-elsewhere, position_asked, positions_put, reinvested, released, rows_done, settled_by, with_all_put, with_letter_begun, with_letter_ended, with_lot_of, with_note_of, with_pieces_of}
use Rattle.register_laws.proofs.LotParts.{added-grows, bought-parts, carried-owned, paid-parts, pieces-grows, release-parts, taken-parts}
use Rattle.register_laws.proofs.LotTotals.{hold-frees, one-free, release-frees}
use Rattle.register_laws.proofs.OrdersInTurn.{executed-few, rows-standing}
use Rattle.register_laws.proofs.RegistersStand.{Beside, KeptBeside, RegisterStands, Stands, beside, first-stands, looked_up-stands}
use Rattle.register_laws.proofs.ReplayTurns.{AnyKey, at_turn-kept, done_at, done_with, executed, first-sheets, over-kept}
use Rattle.register_laws.proofs.Sums.{count-map}
use Rattle.register_laws.specs.OrderTurns.{OrderTurn, register_at}
use Rattle.register_laws.specs.Trades.{IsOrderly, LeavesItsClass, is_order_of}
use Rattle.register_machine.proofs.FoundFacts.{own-account, own-class}
use Rattle.register_machine.specs.pricing.CorrectedBook.{Book}
use Rattle.register_machine.specs.pricing.CorrectedOrders.{stands}
use Rattle.register_machine.specs.pricing.OrderClasses.{class_of}
use Rattle.register_machine.specs.replay.Exchange.{position_with_pieces}
use Rattle.register_machine.specs.replay.Positions.{Position, PositionKey, Register, position_at, position_of, put}
use Rattle.register_machine.specs.replay.Purchase.{position_after_note}
use Rattle.register_machine.specs.replay.Redemption.{position_less}
use Rattle.register_machine.specs.replay.Replay.{Priced, orders_on, priced_in, priced_orders, replay_to}
use Rattle.register_machine.specs.replay.Trades.{nav_of}
use Rattle.register_machine.specs.rules.Limits.{most_orders}
use Rattle.share_lots.specs.Lots.{shares_added, mils}
use Rattle.share_lots.specs.Taking.{pieces}

-- so many orders an account has had
abbrev pub had : List OrderRow → ℕ → ℕ
had done account = count_by (is_order_of account) done

row-rises : (done : List OrderRow) (row : OrderRow) → Rises (had done) (had (row ∷ done)) row.order.account
row-rises done row =
    let here : ◌≡◌ {A = ℕ} (cond (is_order_of row.order.account row) 1 0) 1 = rw (eq-yes row.order.account row.order.account refl) refl in
    record {
      all = λ other. omega (arith, sum_by-cons (λ (x : OrderRow). cond (is_order_of other x) 1 0) row done);
      own = omega (arith, here, sum_by-cons (λ (x : OrderRow). cond (is_order_of row.order.account x) 1 0) row done);
    }

-- ---- one position in the stead of another

order-counted : (done : List OrderRow) (register : Register) (row : OrderRow) (p : Position) → Costs (position_asked register row) p 1 2 → RegisterStands register → Counted (had done) register → Counted (had (row ∷ done)) (put p register)
order-counted done register row p costs stand counted =
    put-more (had done) (had (row ∷ done)) register (position_asked register row) p costs
    (subst (Rises (had done) (had (row ∷ done))) (sym (own-account register row.order.account (class_of row.order.body))) (row-rises done row))
    (looked_up-owns register row.order.account (class_of row.order.body) stand.in_order)
    (looked_up-within (had done) register row.order.account (class_of row.order.body) counted.within) counted

key-counted : (n : ℕ → ℕ) (register : Register) (key : PositionKey) (p : Position) → Costs (position_at register key) p 0 0 → RegisterStands register → Counted n register → Counted n (put p register)
key-counted n register key p costs stand counted =
    put-same n register (position_at register key) p costs (looked_up-owns register key.account key.class stand.in_order)
    (looked_up-within n register key.account key.class counted.within) counted

noted-costs : (x : Position) (day gross : ℕ) (split : Split) (letter : Letter) → x.letter ≡ Some letter → Stands x → Costs x (position_after_note x (shares_added x.holding day split.mils gross false) letter gross split) 1 2
noted-costs x day gross split letter is stand =
    let lot = shares_added x.holding day split.mils gross false in
    let hold = (note_of_purchase letter gross split.price split.mils).hold in
    let grows = added-grows x.holding day split.mils gross false in
    let open_letter : lettered x.letter ≡ 1 = ap lettered is in
    record {
      account_is = refl;
      class_is = refl;
      numbers_le = omega (arith, open_letter, grows.numbers, hold-frees lot.number hold lot.holding.lots);
      parts_le = omega (arith, bought-parts x.holding day split.mils gross hold stand.holding.below_next);
    }

taken-costs : (x : Position) (asked : ℕ) → Stands x → Costs x (position_less x asked) 1 1
taken-costs x asked stand = record {
  account_is = refl;
  class_is = refl;
  numbers_le = omega (arith, one-free x.holding.lots stand.holding.ranked);
  parts_le = omega (arith, taken-parts x.holding asked);
}

-- an exchange moves parts from one position to another of the account
exchange-passes : (x t : Position) (asked from to : ℕ) → Stands x → t.account ≡ x.account → (x.class ≡ t.class → ⊥) → Passes x (position_less x asked) t (position_with_pieces t (transfer_of from to (pieces asked x.holding.lots)).pieces)
exchange-passes x t asked from to stand same apart =
    let given = pieces asked x.holding.lots in
    let grows = pieces-grows (transfer_of from to given).pieces t.holding in
    let less = taken-parts x.holding asked in
    let brought = carried-owned from to given in
    record {
      costs_less = taken-costs x asked stand;
      costs_more = record {
        account_is = refl;
        class_is = refl;
        numbers_le = omega (arith, grows.numbers, less, brought);
        parts_le = omega (arith, grows.parts_le, less, brought);
      };
      one_account = same;
      parts_both = omega (arith, grows.parts_le, less, brought);
      elsewhere = and-false (x.account == t.account) (x.class == t.class) (eq-no x.class t.class apart);
    }

-- ---- the turns

turn-counted : (book : Book) (sheet : Sheet) (register : Register) (done : List OrderRow) (turn : Turn book sheet register) → All LeavesItsClass (rows_done book sheet register turn) → RegisterStands register → Counted (had done) register → Counted (had (rows_done book sheet register turn ++ done)) (with_all_put (positions_put book sheet register turn) register)
turn-counted book sheet register done Turn.Nothing leave stand counted = counted
turn-counted book sheet register done (Turn.Unfilled row why) leave stand counted =
    counted-more (had done) (had (row ∷ done)) register (row-rises done row).all counted
turn-counted book sheet register done (Turn.Bought row gross split is none_open) leave stand counted =
    let x = position_asked register row in
    let grows = added-grows x.holding sheet.day split.mils gross false in
    order-counted done register row (with_lot_of sheet x gross split)
    (record { account_is = refl; class_is = refl; numbers_le = omega (arith, grows.numbers); parts_le = omega (arith, grows.parts_le) }) stand counted
turn-counted book sheet register done (Turn.Noted row gross split letter is so) leave stand counted =
    let x = position_asked register row in
    let here = looked_up-stands register row.order.account (class_of row.order.body) stand in
    order-counted done register row (with_note_of sheet x gross split letter) (noted-costs x sheet.day gross split letter so.open_letter here) stand counted
turn-counted book sheet register done (Turn.Reached row gross split letter is so) leave stand counted =
    let x = position_asked register row in
    let here = looked_up-stands register row.order.account (class_of row.order.body) stand in
    let kept = with_note_of sheet x gross split letter in
    let costs = noted-costs x sheet.day gross split letter so.open_letter here in
    order-counted done register row (released kept)
    (record {
      account_is = refl;
      class_is = refl;
      numbers_le = omega (arith, costs.numbers_le, release-frees kept.holding.lots);
      parts_le = omega (arith, costs.parts_le, release-parts kept.holding.lots);
    }) stand counted
turn-counted book sheet register done (Turn.Sold row asked is) leave stand counted =
    let x = position_asked register row in
    let costs = taken-costs x asked (looked_up-stands register row.order.account (class_of row.order.body) stand) in
    order-counted done register row (position_less x asked)
    (record { account_is = refl; class_is = refl; numbers_le = costs.numbers_le; parts_le = omega (arith, costs.parts_le) }) stand counted
turn-counted book sheet register done (Turn.Exchanged row to asked is) leave stand counted =
    let a = row.order.account in
    let from = class_of row.order.body in
    let x = position_asked register row in
    let t = position_of register a to in
    let x_account = own-account register a from in
    let apart = goes-elsewhere row.order.body to (All-head LeavesItsClass row [] leave).elsewhere is.target in
    put-both (had done) (had (row ∷ done)) register x (position_less x asked) t (with_pieces_of sheet register row to asked)
    (exchange-passes x t asked (nav_of sheet x.class) (nav_of sheet to) (looked_up-stands register a from stand) (own-account register a to ∙ sym x_account)
    (λ e. apart (sym (own-class register a to) ∙ (sym e ∙ own-class register a from))))
    (subst (Rises (had done) (had (row ∷ done))) (sym x_account) (row-rises done row))
    (looked_up-owns register a from stand.in_order) (looked_up-owns register a to stand.in_order)
    (looked_up-within (had done) register a from counted.within) (looked_up-within (had done) register a to counted.within) counted
turn-counted book sheet register done (Turn.Elected row in_cash is) leave stand counted =
    order-counted done register row (record (position_asked register row) { in_cash = in_cash })
    (record { account_is = refl; class_is = refl; numbers_le = omega arith; parts_le = omega arith }) stand counted
turn-counted book sheet register done (Turn.Begun row amount is) leave stand counted =
    order-counted done register row (with_letter_begun book sheet register row amount)
    (record { account_is = refl; class_is = refl; numbers_le = omega arith; parts_le = omega arith }) stand counted
turn-counted book sheet register done (Turn.Paid key cash) leave stand counted = counted
turn-counted book sheet register done (Turn.Reinvested key cash mils room) leave stand counted =
    let x = position_at register key in
    let grows = added-grows x.holding sheet.day mils cash true in
    key-counted (had done) register key (reinvested sheet x cash mils)
    (record { account_is = refl; class_is = refl; numbers_le = omega (arith, grows.numbers); parts_le = grows.parts_le }) stand counted
turn-counted book sheet register done (Turn.Ended key letter is) leave stand counted =
    let x = position_at register key in
    let here = looked_up-stands register key.account key.class stand in
    let paid = (settled_by book sheet x letter).paid in
    let open_letter : lettered x.letter ≡ 1 = ap lettered is in
    key-counted (had done) register key (with_letter_ended book sheet x letter)
    (record {
      account_is = refl;
      class_is = refl;
      numbers_le = omega (arith, open_letter, one-free x.holding.lots here.holding.ranked);
      parts_le = omega (arith, paid-parts x.holding paid);
    }) stand counted

counted-kept : (book : Book) → KeptBeside book (λ sheet. LeavesItsClass) (λ done day. Counted (had done) day.register)
counted-kept book sheet done day turn sheet_published leave stand counted =
    turn-counted book sheet day.register done turn leave stand counted

-- ---- the orders that sheets execute

done-count : (q : OrderRow → Bool) (rows done : List OrderRow) → count_by q (done_with rows done) ≡ count_by q rows + count_by q done
done-count q [] done = omega arith
done-count q (row ∷ rows) done =
    omega (arith, done-count q rows (row ∷ done), sum_by-cons (λ x. cond (q x) 1 0) row rows, sum_by-cons (λ x. cond (q x) 1 0) row done)

executed-count : (book : Book) (q : OrderRow → Bool) (sheets : List Sheet) (done : List OrderRow) → count_by q (executed book sheets done) ≡ sum_by (λ sheet. count_by q (orders_on (priced_orders book) sheet)) sheets + count_by q done
executed-count book q [] done = omega arith
executed-count book q (sheet ∷ sheets) done =
    let rows = orders_on (priced_orders book) sheet in
    omega (arith, executed-count book q sheets (done_with rows done), done-count q rows done, sum_by-cons (λ s. count_by q (orders_on (priced_orders book) s)) sheet sheets)

-- no account has had more orders than the machine lets it have, whichever sheet comes next
pub had-few : (book : Book) (number : ℕ) → IsOrderly book → (account : ℕ) → had (executed book (take number book.table.sheets) []) account ≤ most_orders
had-few book number orderly account =
    let q = is_order_of account in
    let each = λ (sheet : Sheet). count_by q (orders_on (priced_orders book) sheet) in
    omega (arith, executed-count book q (take number book.table.sheets) [], sum_by-take-le each book.table.sheets number, executed-few q (priced_orders book) book.table.sheets orderly.numbered, count-map (λ (order : Priced). q order.row) (priced_in book.table.sheets) (filter stands book.orders), orderly.few_orders account)

-- what stands and is counted after so many sheets
pub counted_to : (book : Book) (number : ℕ) → IsOrderly book → RegisterStands (replay_to book number).register × Counted (λ account. most_orders) (replay_to book number).register
counted_to book number orderly =
    let kept = over-kept book (λ sheet. LeavesItsClass) AnyKey (Beside (λ done day. Counted (had done) day.register))
    (beside book (λ sheet. LeavesItsClass) (λ done day. Counted (had done) day.register) (counted-kept book))
    (λ sheet. rows-standing LeavesItsClass book sheet orderly.elsewhere)
    (first-stands, record { within = All-nil (Within (had [])); few = λ account. omega arith })
    (take number book.table.sheets) (first-sheets book number) in
    (kept.0, counted-more (had (executed book (take number book.table.sheets) [])) (λ account. most_orders) (replay_to book number).register (had-few book number orderly) kept.1)

-- and when the turn of an order comes
pub had-few_at : (book : Book) (turn : OrderTurn book) → IsOrderly book → (account : ℕ) → had (done_at book turn) account ≤ most_orders
had-few_at book turn orderly account =
    let q = is_order_of account in
    let each = λ (sheet : Sheet). count_by q (orders_on (priced_orders book) sheet) in
    let one = λ (row : OrderRow). cond (q row) 1 0 in
    let rows : each turn.sheet ≡ count_by q turn.rows_before + sum_by one (turn.row ∷ turn.rows_behind) = ap (count_by q) turn.rows ∙ sum_by-append one turn.rows_before (turn.row ∷ turn.rows_behind) in
    let sheets : sum_by each book.table.sheets ≡ sum_by each turn.sheets_before + sum_by each (turn.sheet ∷ turn.sheets_behind) = ap (sum_by each) turn.sheets ∙ sum_by-append each turn.sheets_before (turn.sheet ∷ turn.sheets_behind) in
    omega (arith, done-count q turn.rows_before (executed book turn.sheets_before []), executed-count book q turn.sheets_before [], rows, sheets, sum_by-cons each turn.sheet turn.sheets_behind, executed-few q (priced_orders book) book.table.sheets orderly.numbered, count-map (λ (order : Priced). q order.row) (priced_in book.table.sheets) (filter stands book.orders), orderly.few_orders account)

pub counted_at : (book : Book) (turn : OrderTurn book) → IsOrderly book → RegisterStands (register_at book turn) × Counted (λ account. most_orders) (register_at book turn)
counted_at book turn orderly =
    let kept = at_turn-kept book (λ sheet. LeavesItsClass) AnyKey (Beside (λ done day. Counted (had done) day.register))
    (beside book (λ sheet. LeavesItsClass) (λ done day. Counted (had done) day.register) (counted-kept book))
    (λ sheet. rows-standing LeavesItsClass book sheet orderly.elsewhere)
    (first-stands, record { within = All-nil (Within (had [])); few = λ account. omega arith }) turn in
    (kept.0, counted-more (had (done_at book turn)) (λ account. most_orders) (register_at book turn) (had-few_at book turn orderly) kept.1)
