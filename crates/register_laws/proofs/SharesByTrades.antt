-- Shares come and go by trades alone: each turn brings a class what its trades bring, and takes what they take.
use Rattle.std.proofs.Common.{All, Bool, List, [], ap, arith, cond, false, filter, refl, sum_by, sym, true, unwrap_or, ℕ, ◌+◌, ◌==◌, ◌∙◌, ◌∷◌, ◌≡◌, ◌≤◌}
use Rattle.std.proofs.lemmas.List.Elements.{All-head}
use Rattle.std.proofs.lemmas.List.Sums.{sum_by-append, sum_by-cons}
use Rattle.agent_events.specs.declared.order.OrderRow.{OrderRow}
use Rattle.forward_price.specs.PriceTables.{sheet_published}
use Rattle.forward_price.specs.declared.price_sheet.Sheet.{Sheet}
use Rattle.letter_of_intent.specs.Letters.{note_of_purchase}
use Rattle.letter_of_intent.specs.declared.letter.Letter.{Letter}
use Rattle.offering_price.specs.declared.purchase.Split.{Split}
use Rattle.register_laws.proofs.Comparisons.{and-false, eq-no}
use Rattle.register_laws.proofs.DayTurns.{HasRoom, Turn, bought_by, elected_by, exchanged_by, goes-elsewhere, moved_by, position_asked, positions_put, reached_by, reinvested, released, rows_done, settled_by, sold_by, trade_of, trades_added, with_all_put, with_letter_begun, with_letter_ended, with_lot_of, with_note_of, with_pieces_of}
use Rattle.register_laws.proofs.LotTotals.{fresh-no_mils, hold-mils, its_mils, paying-shrinks, release-mils, taking-shrinks}
use Rattle.register_laws.proofs.OrdersInTurn.{rows-standing}
use Rattle.register_laws.proofs.PositionsInOrder.{f_at, mass, mass-own, once, put-in_order, put-sum}
use Rattle.register_laws.proofs.RegistersStand.{Beside, KeptBeside, RegisterStands, Stands, beside, first-stands, looked_up-stands, lot-grown, lot-loose, moved-grown}
use Rattle.register_laws.proofs.ReplayTurns.{AnyKey, replay-kept}
use Rattle.register_laws.proofs.Sums.{sum-filtered}
use Rattle.register_laws.specs.ReplayKeeps.{AreInOrder}
use Rattle.register_laws.specs.Trades.{IsOutstandingByTrades, LeavesItsClass, SharesGoByTrades}
use Rattle.register_machine.proofs.FoundFacts.{found-elsewhere, own-account, own-class, same-place}
use Rattle.register_machine.specs.corrections.Cash.{outstanding, outstanding_in}
use Rattle.register_machine.specs.pricing.CorrectedBook.{Book}
use Rattle.register_machine.specs.pricing.OrderClasses.{class_of}
use Rattle.register_machine.specs.replay.Dividend.{cash_dividend_trade, dividend_trade}
use Rattle.register_machine.specs.replay.Letter.{letter_end_trade}
use Rattle.register_machine.specs.replay.Movements.{mils_brought, mils_if, mils_taken}
use Rattle.register_machine.specs.replay.Positions.{Position, Register, is_position, mils_of, position_at, position_of, put}
use Rattle.register_machine.specs.replay.Redemption.{position_less}
use Rattle.agent_events.specs.declared.trade.Outcome.{Outcome}
use Rattle.agent_events.specs.declared.trade.Trade.{Trade}
use Rattle.agent_events.specs.declared.trade.TradeKind.{TradeKind}
use Rattle.register_machine.specs.replay.Trades.{order_trade}
use Rattle.share_lots.specs.Lots.{shares_added, held_total, mils}

-- of a class, a position brings its own mils in the stead of those in its place
pub put-outstanding : (class : ℕ) (p : Position) (register : Register) → outstanding (put p register) class + cond (p.class == class) (mass its_mils p.account p.class register) 0 ≡ outstanding register class + cond (p.class == class) (mils_of p.holding) 0
put-outstanding class p register =
    let moved = put-sum (outstanding_in class) p register (λ e. empty (fresh-no_mils p e) (p.class == class)) in
    let there : sum_by (outstanding_in class) (filter (is_position p.account p.class) register) ≡ cond (p.class == class) (mass its_mils p.account p.class register) 0 =
    sum-filtered (outstanding_in class) (is_position p.account p.class) register ∙ of_class register in
    omega (arith, moved, there)
  where
    empty : mils_of p.holding ≡ 0 → (b : Bool) → cond b (mils_of p.holding) 0 ≡ 0
    empty none true = none
    empty none false = refl

    one : (x : Position) → cond (is_position p.account p.class x) (outstanding_in class x) 0 ≡ cond (p.class == class) (f_at its_mils p.account p.class x) 0
    one x =
        elim (is_position p.account p.class x) as (λ b. is_position p.account p.class x ≡ b → cond b (outstanding_in class x) 0 ≡ cond (p.class == class) (cond b (mils_of x.holding) 0) 0) [
          | true ↦ λ e. rw ((same-place p.account p.class x e).1) refl
          | false ↦ λ e. nothing (p.class == class)
        ] refl
      where
        nothing : (b : Bool) → ◌≡◌ {A = ℕ} 0 (cond b 0 0)
        nothing true = refl
        nothing false = refl

    of_class : (xs : Register) → sum_by (λ x. cond (is_position p.account p.class x) (outstanding_in class x) 0) xs ≡ cond (p.class == class) (mass its_mils p.account p.class xs) 0
    of_class [] = elim (p.class == class) as (λ b. ◌≡◌ {A = ℕ} 0 (cond b 0 0)) [ true ↦ refl | false ↦ refl ]
    of_class (x ∷ xs) =
        let left = sum_by-cons (λ y. cond (is_position p.account p.class y) (outstanding_in class y) 0) x xs in
        let right = sum_by-cons (f_at its_mils p.account p.class) x xs in
        let here = one x in
        let rest = of_class xs in
        elim (p.class == class) as (λ b. cond (is_position p.account p.class x) (outstanding_in class x) 0 ≡ cond b (f_at its_mils p.account p.class x) 0 → sum_by (λ y. cond (is_position p.account p.class y) (outstanding_in class y) 0) xs ≡ cond b (mass its_mils p.account p.class xs) 0 → sum_by (λ y. cond (is_position p.account p.class y) (outstanding_in class y) 0) (x ∷ xs) ≡ cond b (mass its_mils p.account p.class (x ∷ xs)) 0) [
          | true ↦ λ h r. omega (arith, left, right, h, r)
          | false ↦ λ h r. omega (arith, left, h, r)
        ] here rest

mils_if-none : (class other : ℕ) → mils_if class other 0 ≡ 0
mils_if-none class other = elim (other == class) as (λ b. ◌≡◌ {A = ℕ} (cond b 0 0) 0) [ true ↦ refl | false ↦ refl ]

-- a position in the stead of the one that was looked up, with so many mils less and so many more
put-moves : (class : ℕ) (register : Register) (a c : ℕ) (x p : Position) (less more : ℕ) → AreInOrder register → position_of register a c ≡ x → p.account ≡ x.account → p.class ≡ x.class → mils_of p.holding + less ≡ mils_of x.holding + more → outstanding (put p register) class + mils_if class c less ≡ outstanding register class + mils_if class c more
put-moves class register a c x p less more ordered found same_account same_class mils =
    let account : p.account ≡ a = same_account ∙ (ap (λ (y : Position). y.account) (sym found) ∙ own-account register a c) in
    let of_class : p.class ≡ c = same_class ∙ (ap (λ (y : Position). y.class) (sym found) ∙ own-class register a c) in
    let there : mass its_mils p.account p.class register ≡ mils_of x.holding = rw (account, of_class) (mass-own its_mils register a c refl (once register ordered) ∙ ap its_mils found) in
    let moved = put-outstanding class p register in
    let named : mils_if class c less ≡ mils_if class p.class less = ap (λ k. mils_if class k less) (sym of_class) in
    let named_more : mils_if class c more ≡ mils_if class p.class more = ap (λ k. mils_if class k more) (sym of_class) in
    rw (named, named_more)
    (elim (p.class == class) as (λ b. outstanding (put p register) class + cond b (mass its_mils p.account p.class register) 0 ≡ outstanding register class + cond b (mils_of p.holding) 0 → outstanding (put p register) class + cond b less 0 ≡ outstanding register class + cond b more 0) [
      | true ↦ λ m. omega (arith, m, there, mils)
      | false ↦ λ m. omega (arith, m)
    ] moved)

-- of a class: what trades move of it is what the register has more or less
abbrev Moved : ℕ → Register → Register → List Trade → Type 0
Moved class before after trades =
    outstanding after class + sum_by (mils_taken class) trades ≡ outstanding before class + sum_by (mils_brought class) trades

one-moved : (class : ℕ) (before after : Register) (trade : Trade) → outstanding after class + mils_taken class trade ≡ outstanding before class + mils_brought class trade → Moved class before after (trade ∷ [])
one-moved class before after trade is =
    omega (arith, is, sum_by-cons (mils_taken class) trade [], sum_by-cons (mils_brought class) trade [])

-- a position of an order or a key comes in the stead of the one looked up, with a trade
traded : (class : ℕ) (register : Register) (a c : ℕ) (p : Position) (trade : Trade) (less more : ℕ) → AreInOrder register → p.account ≡ (position_of register a c).account → p.class ≡ (position_of register a c).class → mils_of p.holding + less ≡ mils_of (position_of register a c).holding + more → mils_taken class trade ≡ mils_if class c less → mils_brought class trade ≡ mils_if class c more → outstanding (put p register) class + mils_taken class trade ≡ outstanding register class + mils_brought class trade
traded class register a c p trade less more ordered same_account same_class mils out_is in_is =
    omega (arith, out_is, in_is, put-moves class register a c (position_of register a c) p less more ordered refl same_account same_class mils)

none-out : (class : ℕ) (in_cash : Bool) (sheet : Sheet) (row : OrderRow) → mils_taken class (elected_by sheet row in_cash) ≡ 0
none-out class true sheet row = refl
none-out class false sheet row = refl

none-in : (class : ℕ) (in_cash : Bool) (sheet : Sheet) (row : OrderRow) → mils_brought class (elected_by sheet row in_cash) ≡ 0
none-in class true sheet row = refl
none-in class false sheet row = refl

-- a noted purchase brings its mils, of which the letter holds some
note-mils : (sheet : Sheet) (x : Position) (gross : ℕ) (split : Split) (letter : Letter) → HasRoom x split.mils gross → Stands x → mils_of (with_note_of sheet x gross split letter).holding ≡ mils_of x.holding + split.mils
note-mils sheet x gross split letter room stand =
    let lot = shares_added x.holding sheet.day split.mils gross false in
    let grown = lot-grown sheet x split.mils gross false room stand in
    omega (arith, grown.grown, hold-mils lot.holding lot.number (note_of_purchase letter gross split.price split.mils).hold (lot-loose sheet x gross split letter stand))

turn-moves : (class : ℕ) (book : Book) (sheet : Sheet) (register : Register) (turn : Turn book sheet register) → All LeavesItsClass (rows_done book sheet register turn) → RegisterStands register → Moved class register (with_all_put (positions_put book sheet register turn) register) (trades_added book sheet register turn)
turn-moves class book sheet register Turn.Nothing leave stand = refl
turn-moves class book sheet register (Turn.Unfilled row why) leave stand =
    one-moved class register register (record (trade_of sheet row) { outcome = Outcome.Unfilled why }) refl
turn-moves class book sheet register (Turn.Bought row gross split is none_open) leave stand =
    let c = class_of row.order.body in
    let x = position_asked register row in
    let grown = lot-grown sheet x split.mils gross false is.room (looked_up-stands register row.order.account c stand) in
    one-moved class register (put (with_lot_of sheet x gross split) register) (bought_by sheet row gross split)
    (traded class register row.order.account c (with_lot_of sheet x gross split) (bought_by sheet row gross split) 0 split.mils stand.in_order refl refl
    (omega (arith, grown.grown)) (sym (mils_if-none class c)) refl)
turn-moves class book sheet register (Turn.Noted row gross split letter is so) leave stand =
    let c = class_of row.order.body in
    let x = position_asked register row in
    one-moved class register (put (with_note_of sheet x gross split letter) register) (bought_by sheet row gross split)
    (traded class register row.order.account c (with_note_of sheet x gross split letter) (bought_by sheet row gross split) 0 split.mils stand.in_order refl refl
    (omega (arith, note-mils sheet x gross split letter is.room (looked_up-stands register row.order.account c stand))) (sym (mils_if-none class c)) refl)
turn-moves class book sheet register (Turn.Reached row gross split letter is so) leave stand =
    let c = class_of row.order.body in
    let x = position_asked register row in
    let kept = with_note_of sheet x gross split letter in
    let first = traded class register row.order.account c (released kept) (bought_by sheet row gross split) 0 split.mils stand.in_order refl refl
    (omega (arith, note-mils sheet x gross split letter is.room (looked_up-stands register row.order.account c stand), release-mils kept.holding)) (sym (mils_if-none class c)) refl in
    omega (arith, first, sum_by-cons (mils_taken class) (bought_by sheet row gross split) (reached_by sheet register row ∷ []), sum_by-cons (mils_brought class) (bought_by sheet row gross split) (reached_by sheet register row ∷ []), sum_by-cons (mils_taken class) (reached_by sheet register row) [], sum_by-cons (mils_brought class) (reached_by sheet register row) [])
turn-moves class book sheet register (Turn.Sold row asked is) leave stand =
    let c = class_of row.order.body in
    let x = position_asked register row in
    one-moved class register (put (position_less x asked) register) (sold_by book sheet register row asked)
    (traded class register row.order.account c (position_less x asked) (sold_by book sheet register row asked) asked 0 stand.in_order refl refl
    (omega (arith, taking-shrinks x.holding asked is.enough)) refl (sym (mils_if-none class c)))
turn-moves class book sheet register (Turn.Exchanged row to asked is) leave stand =
    let a = row.order.account in
    let from = class_of row.order.body in
    let x = position_asked register row in
    let t = position_of register a to in
    let moved = moved_by sheet register row to asked in
    let less = position_less x asked in
    let more = with_pieces_of sheet register row to asked in
    let grown = moved-grown sheet register row to asked is.room (looked_up-stands register a to stand) in
    let away : is_position a to less ≡ false = and-false (x.account == a) (x.class == to) (eq-no x.class to (λ e. goes-elsewhere row.order.body to (All-head LeavesItsClass row [] leave).elsewhere is.target (sym e ∙ own-class register a from))) in
    let first = put-moves class register a from x less asked 0 stand.in_order refl refl refl (omega (arith, taking-shrinks x.holding asked is.enough)) in
    let second = put-moves class (put less register) a to t more 0 moved.mils (put-in_order less register stand.in_order) (found-elsewhere less register a to away) refl refl (omega (arith, grown.grown)) in
    let brought : mils_brought class (exchanged_by sheet register row to asked) ≡ mils_if class to moved.mils = ap (λ o. mils_if class (unwrap_or o 0) moved.mils) is.target in
    one-moved class register (put more (put less register)) (exchanged_by sheet register row to asked)
    (omega (arith, first, second, brought, mils_if-none class from, mils_if-none class to))
turn-moves class book sheet register (Turn.Elected row in_cash is) leave stand =
    let c = class_of row.order.body in
    let x = position_asked register row in
    one-moved class register (put (record x { in_cash = in_cash }) register) (elected_by sheet row in_cash)
    (traded class register row.order.account c (record x { in_cash = in_cash }) (elected_by sheet row in_cash) 0 0 stand.in_order refl refl refl
    (none-out class in_cash sheet row ∙ sym (mils_if-none class c)) (none-in class in_cash sheet row ∙ sym (mils_if-none class c)))
turn-moves class book sheet register (Turn.Begun row amount is) leave stand =
    let c = class_of row.order.body in
    let trade = record (order_trade sheet row.order TradeKind.Letter) { cash = amount } in
    one-moved class register (put (with_letter_begun book sheet register row amount) register) trade
    (traded class register row.order.account c (with_letter_begun book sheet register row amount) trade 0 0 stand.in_order refl refl refl
    (sym (mils_if-none class c)) (sym (mils_if-none class c)))
turn-moves class book sheet register (Turn.Paid key cash) leave stand =
    one-moved class register register (cash_dividend_trade sheet (position_at register key) cash) refl
turn-moves class book sheet register (Turn.Reinvested key cash mils room) leave stand =
    let x = position_at register key in
    let grown = lot-grown sheet x mils cash true room (looked_up-stands register key.account key.class stand) in
    one-moved class register (put (reinvested sheet x cash mils) register) (dividend_trade sheet x cash mils)
    (traded class register key.account key.class (reinvested sheet x cash mils) (dividend_trade sheet x cash mils) 0 mils stand.in_order refl refl
    (omega (arith, grown.grown)) (sym (mils_if-none class key.class)) (ap (λ k. mils_if class k mils) (own-class register key.account key.class)))
turn-moves class book sheet register (Turn.Ended key letter is) leave stand =
    let x = position_at register key in
    let said = settled_by book sheet x letter in
    let within : said.paid ≤ held_total x.holding = omega arith in
    let trade = letter_end_trade sheet x said in
    let here = looked_up-stands register key.account key.class stand in
    one-moved class register (put (with_letter_ended book sheet x letter) register) trade
    (traded class register key.account key.class (with_letter_ended book sheet x letter) trade said.paid 0 stand.in_order refl refl
    (omega (arith, paying-shrinks x.holding said.paid here.holding within)) (ap (λ k. mils_if class k said.paid) (own-class register key.account key.class)) (sym (mils_if-none class key.class)))

outstanding-kept : (class : ℕ) (book : Book) → KeptBeside book (λ sheet. LeavesItsClass) (λ done day. IsOutstandingByTrades class day)
outstanding-kept class book sheet done day turn sheet_published leave stand kept =
    let trades = trades_added book sheet day.register turn in
    omega (arith, kept, turn-moves class book sheet day.register turn leave stand, sum_by-append (mils_taken class) day.trades trades, sum_by-append (mils_brought class) day.trades trades)

pub shares_go_by_trades : (book : Book) (class : ℕ) → SharesGoByTrades book class
shares_go_by_trades book class orderly =
    (replay-kept book (λ sheet. LeavesItsClass) AnyKey (Beside (λ done day. IsOutstandingByTrades class day))
    (beside book (λ sheet. LeavesItsClass) (λ done day. IsOutstandingByTrades class day) (outstanding-kept class book))
    (λ sheet. rows-standing LeavesItsClass book sheet orderly.elsewhere) (first-stands, refl)).1
