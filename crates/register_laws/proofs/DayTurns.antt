-- The turns of a day: what becomes of each order, dividend and letter's end, as the positions that it puts into the register
-- and the trades that it adds. What every turn keeps, a replay keeps.
use Rattle.std.proofs.Common.{All, Bool, List, None, Option, Some, [], ap, append-nil, append_assoc, arith, cond, false, fold, inl, inr, is_some, nat_le, nat_lt, not, refl, sym, true, ℕ, ◌*◌, ◌++◌, ◌+◌, ◌-◌, ◌==◌, ◌||◌, ◌∙◌, ◌∷◌, ◌≡◌, ◌≤◌}
use Rattle.std.proofs.lemmas.Bool.{and_parts, ltb-false, or_parts, true≢false}
use Rattle.std.proofs.lemmas.Bool.Decides.{leb_tells}
use Rattle.std.proofs.lemmas.List.Elements.{All-cons, All-nil}
use Rattle.std.specs.Option.{option_map_or}
use Rattle.std.specs.Prelude.{if◌then◌else◌}
use Rattle.agent_events.specs.declared.order.Body.{Body}
use Rattle.agent_events.specs.declared.order.OrderRow.{OrderRow}
use Rattle.contingent_charge.specs.DeferredCharge.{charge_of_pieces}
use Rattle.dividend_reinvest.specs.Dividend.{cash_of as cents_paid, mils_of as mils_paid, payment_of_cash, passes_ceiling, payment}
use Rattle.dividend_reinvest.specs.declared.payment.Payment.{Payment}
use Rattle.forward_price.specs.declared.price_sheet.Sheet.{Sheet}
use Rattle.fund_exchange.specs.Exchange.{transfer_of}
use Rattle.fund_exchange.specs.declared.carrying.Carried.{Carried}
use Rattle.letter_of_intent.specs.Letters.{new_letter, note_of_purchase, settlement}
use Rattle.letter_of_intent.specs.declared.letter.Letter.{Letter}
use Rattle.letter_of_intent.specs.declared.letter.Settlement.{Settlement}
use Rattle.money_units.specs.Rounding.{half}
use Rattle.offering_price.specs.Purchase.{split_at_price, mils_bought, offering_price, split_of}
use Rattle.offering_price.specs.declared.purchase.Split.{Split}
use Rattle.register_laws.proofs.Comparisons.{eq-yes, not-zero}
use Rattle.register_laws.specs.Priced.{kind_of}
use Rattle.register_laws.specs.Trades.{stays_in_class}
use Rattle.register_machine.proofs.PutAgain.{put-over}
use Rattle.register_machine.specs.journal.Choices.{first_some, when}
use Rattle.register_machine.specs.pricing.CorrectedBook.{Book, front_of, schedule_of}
use Rattle.register_machine.specs.pricing.OrderClasses.{class_of, target_of}
use Rattle.register_machine.specs.replay.DayStep.{day_after_body, day_after_order}
use Rattle.register_machine.specs.replay.Dividend.{cash_dividend_trade, day_after_dividend, day_after_payment, dividend_trade, payment_on}
use Rattle.register_machine.specs.replay.Exchange.{day_after_exchange, exchange_reasons, exchange_trade, position_with_pieces}
use Rattle.register_machine.specs.replay.Letter.{day_after_end_of, day_after_letter, day_after_letter_end, letter_end_trade}
use Rattle.register_machine.specs.replay.Positions.{Position, PositionKey, Register, has_room, mils_of, position_at, position_of, put, with_holding}
use Rattle.register_machine.specs.replay.Purchase.{credit_of, day_at_split, day_if_reached, day_with_lot, position_after_note, purchase_rate, purchase_trade}
use Rattle.register_machine.specs.replay.Redemption.{day_after_redemption, day_after_redemption_for, day_after_sale, loose_of, position_less, redemption_trade, short_of}
use Rattle.agent_events.specs.declared.trade.Outcome.{Outcome}
use Rattle.agent_events.specs.declared.trade.Trade.{Trade}
use Rattle.agent_events.specs.declared.trade.TradeKind.{TradeKind}
use Rattle.agent_events.specs.declared.trade.Why.{Why}
use Rattle.register_machine.specs.replay.Trades.{Day, day_after_trade, day_unless, day_unless_any, nav_of, order_trade, plain_trade, with_position, with_trade}
use Rattle.share_lots.specs.Lots.{Holding, shares_added, cost_total, held_total, loose_total, mils, most_cost, most_mils, release_all}
use Rattle.share_lots.specs.Taking.{after_paying, pieces}
use Rattle.dividend_reinvest.specs.declared.payment.Payment.TheVariants as pays

-- ---- what is asked for, and when there is room

-- the position of an order
abbrev pub position_asked : Register → OrderRow → Position
position_asked register row = position_of register row.order.account (class_of row.order.body)

-- some mils, for which a position has room
pub record HasRoom (x : Position) (mils cents : ℕ) : Type 0 where
  pub some : 1 ≤ mils
  pub mils_fit : mils_of x.holding + mils ≤ most_mils
  pub cost_fits : cost_total x.holding + cents ≤ most_cost

pub record IsBought (book : Book) (sheet : Sheet) (register : Register) (row : OrderRow) (gross : ℕ) (split : Split) : Type 0 where
  pub body : row.order.body ≡ Body.Buy (class_of row.order.body) gross
  pub divided : split_of gross (nav_of sheet (position_asked register row).class) (purchase_rate book sheet register (position_asked register row) gross) ≡ Some split
  pub room : HasRoom (position_asked register row) split.mils gross

pub record IsSold (register : Register) (row : OrderRow) (asked : ℕ) : Type 0 where
  pub body : kind_of row.order.body ≡ TradeKind.Sell
  pub enough : asked ≤ loose_total (position_asked register row).holding

-- what an exchange carries over
abbrev pub moved_by : Sheet → Register → OrderRow → ℕ → ℕ → Carried
moved_by sheet register row to asked =
    let x = position_asked register row in transfer_of (nav_of sheet x.class) (nav_of sheet to) (pieces asked x.holding.lots)

pub record IsExchanged (sheet : Sheet) (register : Register) (row : OrderRow) (to asked : ℕ) : Type 0 where
  pub body : kind_of row.order.body ≡ TradeKind.Exchange
  pub target : target_of row.order.body ≡ Some to
  pub enough : asked ≤ loose_total (position_asked register row).holding
  pub room : HasRoom (position_of register row.order.account to) (moved_by sheet register row to asked).mils (moved_by sheet register row to asked).cost

pub record IsBegun (register : Register) (row : OrderRow) (amount : ℕ) : Type 0 where
  pub body : row.order.body ≡ Body.Letter (class_of row.order.body) amount
  pub none_open : (position_asked register row).letter ≡ None

-- the letter is open, and this purchase brings it to its amount or not
pub record IsNoted (x : Position) (gross : ℕ) (split : Split) (letter : Letter) (reached : Bool) : Type 0 where
  pub open_letter : x.letter ≡ Some letter
  pub reaches : (note_of_purchase letter gross split.price split.mils).reached ≡ reached

-- ---- the turns

pub data Turn (book : Book) (sheet : Sheet) (register : Register) : Type 0 where
  Nothing : Turn book sheet register
  Unfilled : (row : OrderRow) → Why → Turn book sheet register
  Bought : (row : OrderRow) (gross : ℕ) (split : Split) → IsBought book sheet register row gross split → (position_asked register row).letter ≡ None → Turn book sheet register
  Noted : (row : OrderRow) (gross : ℕ) (split : Split) (letter : Letter) → IsBought book sheet register row gross split → IsNoted (position_asked register row) gross split letter false → Turn book sheet register
  Reached : (row : OrderRow) (gross : ℕ) (split : Split) (letter : Letter) → IsBought book sheet register row gross split → IsNoted (position_asked register row) gross split letter true → Turn book sheet register
  Sold : (row : OrderRow) (asked : ℕ) → IsSold register row asked → Turn book sheet register
  Exchanged : (row : OrderRow) (to : ℕ) (asked : ℕ) → IsExchanged sheet register row to asked → Turn book sheet register
  Elected : (row : OrderRow) (in_cash : Bool) → row.order.body ≡ Body.Elect (class_of row.order.body) in_cash → Turn book sheet register
  Begun : (row : OrderRow) (amount : ℕ) → IsBegun register row amount → Turn book sheet register
  Paid : (key : PositionKey) (cash : ℕ) → Turn book sheet register
  Reinvested : (key : PositionKey) (cash : ℕ) (mils : ℕ) → HasRoom (position_at register key) mils cash → Turn book sheet register
  Ended : (key : PositionKey) (letter : Letter) → (position_at register key).letter ≡ Some letter → Turn book sheet register

-- ---- the positions that a turn leaves

abbrev pub with_lot_of : Sheet → Position → ℕ → Split → Position
with_lot_of sheet x gross split = with_holding x (shares_added x.holding sheet.day split.mils gross false).holding

abbrev pub with_note_of : Sheet → Position → ℕ → Split → Letter → Position
with_note_of sheet x gross split letter =
    position_after_note x (shares_added x.holding sheet.day split.mils gross false) letter gross split

-- held mils become loose, and there is no letter
abbrev pub released : Position → Position
released x = record x { holding = release_all x.holding; letter = None }

abbrev pub with_letter_begun : Book → Sheet → Register → OrderRow → ℕ → Position
with_letter_begun book sheet register row amount =
    let x = position_asked register row in
    record x { letter = Some (new_letter amount sheet.day (credit_of book sheet register row.order.account) (front_of book x.class)) }

abbrev pub settled_by : Book → Sheet → Position → Letter → Settlement
settled_by book sheet x letter =
    settlement (front_of book x.class) letter (nav_of sheet x.class) (held_total x.holding)

abbrev pub with_letter_ended : Book → Sheet → Position → Letter → Position
with_letter_ended book sheet x letter =
    record x { holding = release_all (after_paying x.holding (settled_by book sheet x letter).paid); letter = None }

abbrev pub reinvested : Sheet → Position → ℕ → ℕ → Position
reinvested sheet x cash mils = with_holding x (shares_added x.holding sheet.day mils cash true).holding

abbrev pub with_pieces_of : Sheet → Register → OrderRow → ℕ → ℕ → Position
with_pieces_of sheet register row to asked =
    position_with_pieces (position_of register row.order.account to) (moved_by sheet register row to asked).pieces

abbrev pub positions_put : (book : Book) (sheet : Sheet) (register : Register) → Turn book sheet register → List Position
positions_put book sheet register Turn.Nothing = []
positions_put book sheet register (Turn.Unfilled row why) = []
positions_put book sheet register (Turn.Bought row gross split is none_open) =
    with_lot_of sheet (position_asked register row) gross split ∷ []
positions_put book sheet register (Turn.Noted row gross split letter is so) =
    with_note_of sheet (position_asked register row) gross split letter ∷ []
positions_put book sheet register (Turn.Reached row gross split letter is so) =
    released (with_note_of sheet (position_asked register row) gross split letter) ∷ []
positions_put book sheet register (Turn.Sold row asked is) = position_less (position_asked register row) asked ∷ []
positions_put book sheet register (Turn.Exchanged row to asked is) =
    position_less (position_asked register row) asked ∷ with_pieces_of sheet register row to asked ∷ []
positions_put book sheet register (Turn.Elected row in_cash is) =
    record (position_asked register row) { in_cash = in_cash } ∷ []
positions_put book sheet register (Turn.Begun row amount is) = with_letter_begun book sheet register row amount ∷ []
positions_put book sheet register (Turn.Paid key cash) = []
positions_put book sheet register (Turn.Reinvested key cash mils room) =
    reinvested sheet (position_at register key) cash mils ∷ []
positions_put book sheet register (Turn.Ended key letter is) =
    with_letter_ended book sheet (position_at register key) letter ∷ []

-- ---- the trades that a turn adds

abbrev pub trade_of : Sheet → OrderRow → Trade
trade_of sheet row = order_trade sheet row.order (kind_of row.order.body)

abbrev pub bought_by : Sheet → OrderRow → ℕ → Split → Trade
bought_by sheet row gross split = purchase_trade (order_trade sheet row.order TradeKind.Buy) gross split

abbrev pub sold_by : Book → Sheet → Register → OrderRow → ℕ → Trade
sold_by book sheet register row asked =
    let x = position_asked register row in
    redemption_trade (order_trade sheet row.order TradeKind.Sell) (nav_of sheet x.class) asked
    (charge_of_pieces (pieces asked x.holding.lots) (nav_of sheet x.class) sheet.day (schedule_of book x.class))

abbrev pub exchanged_by : Sheet → Register → OrderRow → ℕ → ℕ → Trade
exchanged_by sheet register row to asked =
    exchange_trade (order_trade sheet row.order TradeKind.Exchange) (nav_of sheet (position_asked register row).class) asked
    (moved_by sheet register row to asked)

abbrev pub reached_by : Sheet → Register → OrderRow → Trade
reached_by sheet register row =
    let x = position_asked register row in plain_trade sheet x.account x.class TradeKind.LetterReached

abbrev pub elected_by : Sheet → OrderRow → Bool → Trade
elected_by sheet row in_cash =
    order_trade sheet row.order (if in_cash then TradeKind.ElectCash else TradeKind.ElectShares)

abbrev pub trades_added : (book : Book) (sheet : Sheet) (register : Register) → Turn book sheet register → List Trade
trades_added book sheet register Turn.Nothing = []
trades_added book sheet register (Turn.Unfilled row why) =
    record (trade_of sheet row) { outcome = Outcome.Unfilled why } ∷ []
trades_added book sheet register (Turn.Bought row gross split is none_open) = bought_by sheet row gross split ∷ []
trades_added book sheet register (Turn.Noted row gross split letter is so) = bought_by sheet row gross split ∷ []
trades_added book sheet register (Turn.Reached row gross split letter is so) =
    bought_by sheet row gross split ∷ reached_by sheet register row ∷ []
trades_added book sheet register (Turn.Sold row asked is) = sold_by book sheet register row asked ∷ []
trades_added book sheet register (Turn.Exchanged row to asked is) = exchanged_by sheet register row to asked ∷ []
trades_added book sheet register (Turn.Elected row in_cash is) = elected_by sheet row in_cash ∷ []
trades_added book sheet register (Turn.Begun row amount is) =
    record (order_trade sheet row.order TradeKind.Letter) { cash = amount } ∷ []
trades_added book sheet register (Turn.Paid key cash) = cash_dividend_trade sheet (position_at register key) cash ∷ []
trades_added book sheet register (Turn.Reinvested key cash mils room) =
    dividend_trade sheet (position_at register key) cash mils ∷ []
trades_added book sheet register (Turn.Ended key letter is) =
    letter_end_trade sheet (position_at register key) (settled_by book sheet (position_at register key) letter) ∷ []

-- ---- what asked for it, and the day after it

-- the order that is executed, where one is
abbrev pub rows_done : (book : Book) (sheet : Sheet) (register : Register) → Turn book sheet register → List OrderRow
rows_done book sheet register Turn.Nothing = []
rows_done book sheet register (Turn.Unfilled row why) = row ∷ []
rows_done book sheet register (Turn.Bought row gross split is none_open) = row ∷ []
rows_done book sheet register (Turn.Noted row gross split letter is so) = row ∷ []
rows_done book sheet register (Turn.Reached row gross split letter is so) = row ∷ []
rows_done book sheet register (Turn.Sold row asked is) = row ∷ []
rows_done book sheet register (Turn.Exchanged row to asked is) = row ∷ []
rows_done book sheet register (Turn.Elected row in_cash is) = row ∷ []
rows_done book sheet register (Turn.Begun row amount is) = row ∷ []
rows_done book sheet register (Turn.Paid key cash) = []
rows_done book sheet register (Turn.Reinvested key cash mils room) = []
rows_done book sheet register (Turn.Ended key letter is) = []

-- the key of the dividend or the letter's end, where it is one
abbrev pub keys_done : (book : Book) (sheet : Sheet) (register : Register) → Turn book sheet register → List PositionKey
keys_done book sheet register (Turn.Paid key cash) = key ∷ []
keys_done book sheet register (Turn.Reinvested key cash mils room) = key ∷ []
keys_done book sheet register (Turn.Ended key letter is) = key ∷ []
keys_done book sheet register turn = []

abbrev pub with_all_put : List Position → Register → Register
with_all_put positions register = fold (λ so_far p. put p so_far) register positions

abbrev pub turned : Day → List Position → List Trade → Day
turned day positions trades = record { register = with_all_put positions day.register; trades = day.trades ++ trades }

abbrev pub day_after_turn : (book : Book) (sheet : Sheet) (day : Day) → Turn book sheet day.register → Day
day_after_turn book sheet day turn =
    turned day (positions_put book sheet day.register turn) (trades_added book sheet day.register turn)

-- what a turn leads to, and what asked for it
pub record OrderTurns (book : Book) (sheet : Sheet) (day : Day) (row : OrderRow) (after : Day) : Type 0 where
  pub turn : Turn book sheet day.register
  pub rows : rows_done book sheet day.register turn ≡ row ∷ []
  pub keys : keys_done book sheet day.register turn ≡ []
  pub is : day_after_turn book sheet day turn ≡ after

pub record KeyTurns (book : Book) (sheet : Sheet) (day : Day) (key : PositionKey) (after : Day) : Type 0 where
  pub turn : Turn book sheet day.register
  pub rows : rows_done book sheet day.register turn ≡ []
  pub keys : All (λ other. other ≡ key) (keys_done book sheet day.register turn)
  pub is : day_after_turn book sheet day turn ≡ after

-- ---- where no reason holds

-- the first of some reasons, and the others, where none holds
clear-first : (why : Option Why) (rest : List (Option Why)) → first_some (why ∷ rest) ≡ None → (why ≡ None) × (first_some rest ≡ None)
clear-first None rest e = (refl, e)
clear-first (Some why) rest e = absurd (some_none e)
  where
    some_none : (Some why ≡ None) → ⊥
    some_none h = cc

clear-when : (b : Bool) (why : Why) → when b why ≡ None → b ≡ false
clear-when false why e = refl
clear-when true why e = absurd (some_none e)
  where
    some_none : (Some why ≡ None) → ⊥
    some_none h = cc

not_short : (h : Holding) (asked : ℕ) → short_of h asked ≡ None → asked ≤ loose_total h
not_short h asked e =
    ltb-false (loose_total h) asked
    (or_parts (asked == 0) (nat_lt (loose_total h) asked) (clear-when (asked == 0 || nat_lt (loose_total h) asked) (Why.Short (loose_total h)) e)).1

-- so much fits into a holding
fits-parts : (h : Holding) (quantity cents : ℕ) → not (has_room h quantity cents) ≡ false → (mils_of h + quantity ≤ most_mils) × (cost_total h + cents ≤ most_cost)
fits-parts h quantity cents e =
    let parts = and_parts (nat_le (mils_of h + quantity) most_mils) (nat_le (cost_total h + cents) most_cost) (not-false (has_room h quantity cents) e) in
    (le-yes (mils_of h + quantity) most_mils parts.0, le-yes (cost_total h + cents) most_cost parts.1)
  where
    not-false : (b : Bool) → not b ≡ false → b ≡ true
    not-false true e = refl
    not-false false e = absurd (true≢false e)

    le-yes : (a b : ℕ) → nat_le a b ≡ true → a ≤ b
    le-yes a b e = elim (leb_tells a b) [
      | inl (t, le) ↦ le
      | inr (t, gt) ↦ absurd (true≢false (sym e ∙ t))
    ]

unfilled-turns : (book : Book) (sheet : Sheet) (day : Day) (row : OrderRow) (kind : TradeKind) → kind_of row.order.body ≡ kind → (reasons : List (Option Why)) (done : Day) → (first_some reasons ≡ None → OrderTurns book sheet day row done) → OrderTurns book sheet day row (day_unless_any reasons day (order_trade sheet row.order kind) done)
unfilled-turns book sheet day row kind kind_is reasons done filled =
    elim (first_some reasons) as (λ why. first_some reasons ≡ why → OrderTurns book sheet day row (day_unless why day (order_trade sheet row.order kind) done)) [
      | None ↦ λ e. filled e
      | Some why ↦ λ e. record {
        turn = Turn.Unfilled row why;
        rows = refl;
        keys = refl;
        is = ap (λ k. with_trade day (record (order_trade sheet row.order k) { outcome = Outcome.Unfilled why })) kind_is;
      }
    ] refl

-- ---- purchases

some-mils : (gross nav rate : ℕ) (split : Split) → split_of gross nav rate ≡ Some split → 1 ≤ split.mils
some-mils gross nav rate split e =
    elim (mils_bought gross (offering_price nav rate) == 0) as (λ b. (mils_bought gross (offering_price nav rate) == 0) ≡ b → cond b None (Some (split_at_price gross nav rate (offering_price nav rate))) ≡ Some split → 1 ≤ split.mils) [
      | true ↦ λ t h. absurd (none_some h)
      | false ↦ λ t h. let same = ap (λ o. option_map_or (λ (s : Split). s.mils) o 0) h in omega (arith, same, not-zero (mils_bought gross (offering_price nav rate)) t)
    ] refl e
  where
    none_some : None ≡ Some split → ⊥
    none_some h = cc

lot-turns : (book : Book) (sheet : Sheet) (day : Day) (row : OrderRow) (gross : ℕ) (split : Split) → IsBought book sheet day.register row gross split → (letter : Option Letter) → (position_asked day.register row).letter ≡ letter → OrderTurns book sheet day row (day_with_lot sheet day (position_asked day.register row) (shares_added (position_asked day.register row).holding sheet.day split.mils gross false) letter gross split (bought_by sheet row gross split))
lot-turns book sheet day row gross split is None none_open =
    record { turn = Turn.Bought row gross split is none_open; rows = refl; keys = refl; is = refl }
lot-turns book sheet day row gross split is (Some letter) opened =
    by (note_of_purchase letter gross split.price split.mils).reached refl
  where
    by : (reached : Bool) → (note_of_purchase letter gross split.price split.mils).reached ≡ reached → OrderTurns book sheet day row (day_if_reached reached sheet (with_note_of sheet (position_asked day.register row) gross split letter) (day_after_trade day (with_note_of sheet (position_asked day.register row) gross split letter) (bought_by sheet row gross split)))
    by false so =
        record { turn = Turn.Noted row gross split letter is (record { open_letter = opened; reaches = so }); rows = refl; keys = refl; is = refl }
    by true so = record {
      turn = Turn.Reached row gross split letter is (record { open_letter = opened; reaches = so });
      rows = refl;
      keys = refl;
      is = ap (λ (register : Register). let after : Day = record { register = register; trades = day.trades ++ bought_by sheet row gross split ∷ reached_by sheet day.register row ∷ [] } in after) (sym (put-over (record kept { holding = release_all kept.holding; in_cash = kept.in_cash; letter = None }) kept day.register refl refl))
          ∙ ap (λ (trades : List Trade). let after : Day = record { register = put (released kept) (put kept day.register); trades = trades } in after) (sym (append_assoc day.trades (bought_by sheet row gross split ∷ []) (reached_by sheet day.register row ∷ [])));
    }
      where
        kept : Position
        kept = with_note_of sheet (position_asked day.register row) gross split letter

split-turns : (book : Book) (sheet : Sheet) (day : Day) (row : OrderRow) (gross : ℕ) → row.order.body ≡ Body.Buy (class_of row.order.body) gross → (found : Option Split) → split_of gross (nav_of sheet (position_asked day.register row).class) (purchase_rate book sheet day.register (position_asked day.register row) gross) ≡ found → OrderTurns book sheet day row (day_at_split sheet day (position_asked day.register row) gross found (order_trade sheet row.order TradeKind.Buy))
split-turns book sheet day row gross body None divided = record {
  turn = Turn.Unfilled row Why.TooSmall;
  rows = refl;
  keys = refl;
  is = ap (λ k. with_trade day (record (order_trade sheet row.order k) { outcome = Outcome.Unfilled Why.TooSmall })) (ap kind_of body);
}
split-turns book sheet day row gross body (Some split) divided =
    let x = position_asked day.register row in
    let full = not (has_room x.holding split.mils gross) in
    unfilled-turns book sheet day row TradeKind.Buy (ap kind_of body) (when full Why.Ceiling ∷ [])
    (day_with_lot sheet day x (shares_added x.holding sheet.day split.mils gross false) x.letter gross split (bought_by sheet row gross split))
    (λ e. let fits = fits-parts x.holding split.mils gross (clear-when full Why.Ceiling (clear-first (when full Why.Ceiling) [] e).0) in
    lot-turns book sheet day row gross split
    (record {
      body = body;
      divided = divided;
      room = record {
        some = some-mils gross (nav_of sheet x.class) (purchase_rate book sheet day.register x gross) split divided;
        mils_fit = fits.0;
        cost_fits = fits.1;
      };
    }) x.letter refl)

-- ---- redemptions and exchanges

sale-turns : (book : Book) (sheet : Sheet) (day : Day) (row : OrderRow) (asked : ℕ) → kind_of row.order.body ≡ TradeKind.Sell → short_of (position_asked day.register row).holding asked ≡ None → OrderTurns book sheet day row (day_after_sale book sheet day (position_asked day.register row) asked (order_trade sheet row.order TradeKind.Sell))
sale-turns book sheet day row asked kind clear = record {
  turn = Turn.Sold row asked (record { body = kind; enough = not_short (position_asked day.register row).holding asked clear });
  rows = refl;
  keys = refl;
  is = refl;
}

redemption-turns : (book : Book) (sheet : Sheet) (day : Day) (row : OrderRow) (asked : ℕ) → kind_of row.order.body ≡ TradeKind.Sell → OrderTurns book sheet day row (day_after_redemption book sheet day row.order asked)
redemption-turns book sheet day row asked kind =
    let x = position_asked day.register row in
    unfilled-turns book sheet day row TradeKind.Sell kind (short_of x.holding asked ∷ [])
    (day_after_sale book sheet day x asked (order_trade sheet row.order TradeKind.Sell))
    (λ e. sale-turns book sheet day row asked kind (clear-first (short_of x.holding asked) [] e).0)

amount-turns : (book : Book) (sheet : Sheet) (day : Day) (row : OrderRow) (amount : ℕ) → kind_of row.order.body ≡ TradeKind.Sell → OrderTurns book sheet day row (day_after_redemption_for book sheet day row.order amount)
amount-turns book sheet day row amount kind =
    let x = position_asked day.register row in
    let asked = half (1000 * amount) (nav_of sheet x.class) in
    unfilled-turns book sheet day row TradeKind.Sell kind (when (asked == 0) Why.TooSmall ∷ short_of x.holding asked ∷ [])
    (day_after_sale book sheet day x asked (order_trade sheet row.order TradeKind.Sell))
    (λ e. sale-turns book sheet day row asked kind
    (clear-first (short_of x.holding asked) [] (clear-first (when (asked == 0) Why.TooSmall) (short_of x.holding asked ∷ []) e).1).0)

exchange-turns : (book : Book) (sheet : Sheet) (day : Day) (row : OrderRow) (to asked : ℕ) → kind_of row.order.body ≡ TradeKind.Exchange → target_of row.order.body ≡ Some to → OrderTurns book sheet day row (day_after_exchange sheet day row.order to asked)
exchange-turns book sheet day row to asked kind target =
    let x = position_asked day.register row in
    let t = position_of day.register row.order.account to in
    let moved = moved_by sheet day.register row to asked in
    let full = not (has_room t.holding moved.mils moved.cost) in
    unfilled-turns book sheet day row TradeKind.Exchange kind (exchange_reasons x t asked moved)
    (day_after_trade (with_position day (position_less x asked)) (position_with_pieces t moved.pieces) (exchanged_by sheet day.register row to asked))
    (λ e. let first = clear-first (short_of x.holding asked) (when (moved.mils == 0) Why.TooSmall ∷ when full Why.Ceiling ∷ []) e in
    let second = clear-first (when (moved.mils == 0) Why.TooSmall) (when full Why.Ceiling ∷ []) first.1 in
    let fits = fits-parts t.holding moved.mils moved.cost (clear-when full Why.Ceiling (clear-first (when full Why.Ceiling) [] second.1).0) in
    record {
      turn = Turn.Exchanged row to asked (record {
        body = kind;
        target = target;
        enough = not_short x.holding asked first.0;
        room = record { some = not-zero moved.mils (clear-when (moved.mils == 0) Why.TooSmall second.0); mils_fit = fits.0; cost_fits = fits.1 };
      });
      rows = refl;
      keys = refl;
      is = refl;
    })

-- ---- elections, letters that begin, and all orders

letter-turns : (book : Book) (sheet : Sheet) (day : Day) (row : OrderRow) (amount : ℕ) → row.order.body ≡ Body.Letter (class_of row.order.body) amount → OrderTurns book sheet day row (day_after_letter book sheet day row.order amount)
letter-turns book sheet day row amount body =
    let x = position_asked day.register row in
    unfilled-turns book sheet day row TradeKind.Letter (ap kind_of body) (when (is_some x.letter) Why.LetterOpen ∷ [])
    (day_after_trade day (with_letter_begun book sheet day.register row amount) (record (order_trade sheet row.order TradeKind.Letter) { cash = amount }))
    (λ e. record {
      turn = Turn.Begun row amount (record {
        body = body;
        none_open = not_open x.letter (clear-when (is_some x.letter) Why.LetterOpen (clear-first (when (is_some x.letter) Why.LetterOpen) [] e).0);
      });
      rows = refl;
      keys = refl;
      is = refl;
    })
  where
    not_open : (letter : Option Letter) → is_some letter ≡ false → letter ≡ None
    not_open None e = refl
    not_open (Some letter) e = absurd (true≢false e)

-- an order that leaves its class goes to another one
pub goes-elsewhere : (body : Body) (to : ℕ) → stays_in_class body ≡ false → target_of body ≡ Some to → to ≡ class_of body → ⊥
goes-elsewhere body to away target same =
    true≢false (sym (eq-yes to (class_of body) same) ∙ (ap (λ o. option_map_or (λ other. other == class_of body) o false) (sym target) ∙ away))

body-turns : (book : Book) (sheet : Sheet) (day : Day) (row : OrderRow) (body : Body) → row.order.body ≡ body → OrderTurns book sheet day row (day_after_body book sheet day row.order body)
body-turns book sheet day row (Body.Buy class gross) e =
    let x = position_asked day.register row in
    split-turns book sheet day row gross (e ∙ ap (λ b. Body.Buy (class_of b) gross) (sym e))
    (split_of gross (nav_of sheet x.class) (purchase_rate book sheet day.register x gross)) refl
body-turns book sheet day row (Body.Sell class asked) e = redemption-turns book sheet day row asked (ap kind_of e)
body-turns book sheet day row (Body.SellCash class amount) e = amount-turns book sheet day row amount (ap kind_of e)
body-turns book sheet day row (Body.SellAll class) e =
    redemption-turns book sheet day row (loose_of day row.order) (ap kind_of e)
body-turns book sheet day row (Body.Exchange from to asked) e =
    exchange-turns book sheet day row to asked (ap kind_of e) (ap target_of e)
body-turns book sheet day row (Body.ExchangeAll from to) e =
    exchange-turns book sheet day row to (loose_of day row.order) (ap kind_of e) (ap target_of e)
body-turns book sheet day row (Body.Letter class amount) e =
    letter-turns book sheet day row amount (e ∙ ap (λ b. Body.Letter (class_of b) amount) (sym e))
body-turns book sheet day row (Body.Elect class in_cash) e =
    record { turn = Turn.Elected row in_cash (e ∙ ap (λ b. Body.Elect (class_of b) in_cash) (sym e)); rows = refl; keys = refl; is = refl }

pub order-turns : (book : Book) (sheet : Sheet) (day : Day) (row : OrderRow) → OrderTurns book sheet day row (day_after_order book sheet day row)
order-turns book sheet day row = body-turns book sheet day row row.order.body refl

-- ---- dividends and letters that end by date

-- a payment in shares has some and keeps its room
FitsRoom : ℕ → ℕ → Payment → Type 0
FitsRoom room cost_room pays.Nothing = Unit {0}
FitsRoom room cost_room (pays.Cash cash) = Unit {0}
FitsRoom room cost_room (pays.Shares cash quantity) = (1 ≤ cash) × (1 ≤ quantity) × (quantity ≤ room) × (cash ≤ cost_room)

fits-room : (quantity rate nav : ℕ) (in_cash : Bool) (room cost_room : ℕ) → FitsRoom room cost_room (payment quantity rate nav in_cash room cost_room)
unfolding FitsRoom
fits-room quantity rate nav in_cash room cost_room =
    let cash = cents_paid quantity rate in
    let bought_mils = mils_paid cash nav in
    elim (cash == 0) as (λ b. (cash == 0) ≡ b → FitsRoom room cost_room (cond b pays.Nothing (payment_of_cash in_cash cash bought_mils room cost_room))) [
      | true ↦ λ t. tt
      | false ↦ λ t. elim (in_cash || bought_mils == 0 || passes_ceiling bought_mils cash room cost_room) as (λ b. (in_cash || bought_mils == 0 || passes_ceiling bought_mils cash room cost_room) ≡ b → FitsRoom room cost_room (cond b (pays.Cash cash) (pays.Shares cash bought_mils))) [
        | true ↦ λ e. tt
        | false ↦ λ e.
            let parts = or_parts (in_cash || bought_mils == 0) (passes_ceiling bought_mils cash room cost_room) e in
            let small = or_parts in_cash (bought_mils == 0) parts.0 in
            let ceilings = or_parts (nat_lt room bought_mils) (nat_lt cost_room cash) parts.1 in
            (not-zero cash t, not-zero bought_mils small.1, ltb-false room bought_mils ceilings.0, ltb-false cost_room cash ceilings.1)
      ] refl
    ] refl

nothing-turns : (book : Book) (sheet : Sheet) (day : Day) (key : PositionKey) → KeyTurns book sheet day key day
nothing-turns book sheet day key = record {
  turn = Turn.Nothing;
  rows = refl;
  keys = All-nil (λ other. other ≡ key);
  is = ap (λ (trades : List Trade). let after : Day = record { register = day.register; trades = trades } in after) (append-nil day.trades);
}

payment-turns : (book : Book) (sheet : Sheet) (day : Day) (key : PositionKey) (payment : Payment) → FitsRoom (most_mils - mils_of (position_at day.register key).holding) (most_cost - cost_total (position_at day.register key).holding) payment → KeyTurns book sheet day key (day_after_payment sheet day (position_at day.register key) payment)
unfolding FitsRoom
payment-turns book sheet day key pays.Nothing fits = nothing-turns book sheet day key
payment-turns book sheet day key (pays.Cash cash) fits =
    record { turn = Turn.Paid key cash; rows = refl; keys = All-cons (λ other. other ≡ key) key [] refl (All-nil (λ other. other ≡ key)); is = refl }
payment-turns book sheet day key (pays.Shares cash quantity) fits = record {
  turn = Turn.Reinvested key cash quantity (record { some = fits.1; mils_fit = omega (arith, fits.1, fits.2); cost_fits = omega (arith, fits.0, fits.3) });
  rows = refl;
  keys = All-cons (λ other. other ≡ key) key [] refl (All-nil (λ other. other ≡ key));
  is = refl;
}

pub dividend-turns : (book : Book) (sheet : Sheet) (rate nav : ℕ) (day : Day) (key : PositionKey) → KeyTurns book sheet day key (day_after_dividend sheet rate nav day key)
dividend-turns book sheet rate nav day key =
    let x = position_at day.register key in
    payment-turns book sheet day key (payment_on rate nav x)
    (fits-room (mils_of x.holding) rate nav x.in_cash (most_mils - mils_of x.holding) (most_cost - cost_total x.holding))

end-turns : (book : Book) (sheet : Sheet) (day : Day) (key : PositionKey) (letter : Option Letter) → (position_at day.register key).letter ≡ letter → KeyTurns book sheet day key (day_after_end_of book sheet day (position_at day.register key) letter)
end-turns book sheet day key None is = nothing-turns book sheet day key
end-turns book sheet day key (Some letter) is =
    record { turn = Turn.Ended key letter is; rows = refl; keys = All-cons (λ other. other ≡ key) key [] refl (All-nil (λ other. other ≡ key)); is = refl }

pub letter_end-turns : (book : Book) (sheet : Sheet) (day : Day) (key : PositionKey) → KeyTurns book sheet day key (day_after_letter_end book sheet day key)
letter_end-turns book sheet day key = end-turns book sheet day key (position_at day.register key).letter refl
