-- What each order does to the register: positions of its account are put with no lower lot number, one after another. So what
-- holds over each such put holds over the order.
use Rattle.agent_events.specs.declared.order.Body.{Body}
use Rattle.agent_events.specs.declared.order.Order.{Order}
use Rattle.agent_events.specs.declared.trade.Trade.{Trade}
use Rattle.agent_events.specs.declared.trade.TradeKind.{TradeKind}
use Rattle.agent_events.specs.declared.trade.Why.{Why}
use Rattle.forward_price.specs.declared.price_sheet.Sheet.{Sheet}
use Rattle.fund_exchange.specs.Exchange.{transfer_of}
use Rattle.household_fold.proofs.ExchangeFacts.{next-pieces}
use Rattle.household_fold.proofs.LotNumbers.{Grows, grows-on, grows-put, grows-same, next-put, next_of}
use Rattle.household_fold.specs.Facts.{Known, book_of_facts, sheet_at_hand}
use Rattle.household_fold.specs.Households.{AreOwned, IsOwnPlace, order_known, orders_known}
use Rattle.household_positions.proofs.PlaceFacts.{put-register}
use Rattle.household_positions.specs.Register.{IsRegister}
use Rattle.letter_of_intent.specs.Letters.{new_letter, note_of_purchase}
use Rattle.letter_of_intent.specs.declared.letter.Letter.{Letter}
use Rattle.money_units.specs.Rounding.{half}
use Rattle.offering_price.specs.Purchase.{split_of}
use Rattle.offering_price.specs.declared.purchase.Split.{Split}
use Rattle.register_machine.proofs.FoundFacts.{found-elsewhere, own-account, own-class, put-all, same-place}
use Rattle.register_machine.specs.journal.Choices.{first_some, when}
use Rattle.register_machine.specs.pricing.CorrectedBook.{Book, front_of}
use Rattle.register_machine.specs.pricing.OrderClasses.{class_of, classes_in}
use Rattle.register_machine.specs.replay.DayStep.{day_after_body, day_after_election}
use Rattle.register_machine.specs.replay.Exchange.{day_after_exchange, exchange_reasons, exchange_trade, position_with_pieces}
use Rattle.register_machine.specs.replay.Letter.{day_after_letter}
use Rattle.register_machine.specs.replay.Positions.{Position, Register, has_room, is_position, position_of, put, with_holding}
use Rattle.register_machine.specs.replay.Purchase.{credit_of, day_after_purchase, day_at_split, day_if_reached, day_with_lot, position_after_note, purchase_rate, purchase_trade}
use Rattle.register_machine.specs.replay.Redemption.{day_after_redemption, day_after_redemption_for, day_after_sale, loose_of, position_less, short_of}
use Rattle.register_machine.specs.replay.Trades.{Day, day_after_trade, day_unless, day_unless_any, nav_of, order_trade, with_position}
use Rattle.share_lots.proofs.AddedLemmas.{next_kept}
use Rattle.share_lots.specs.Lots.{shares_added, release_all}
use Rattle.share_lots.specs.Taking.{pieces}
use Rattle.share_lots.specs.declared.lot.Piece.{Piece}
use Rattle.std.proofs.Common.{Bool, List, None, Option, Some, [], ap, arith, false, inl, inr, is_some, not, refl, subst, sym, true, ℕ, ◌*◌, ◌==◌, ◌∙◌, ◌∷◌, ◌≡◌, ◌≤◌}
use Rattle.std.proofs.lemmas.Bool.{cases_Bool}
use Rattle.std.proofs.lemmas.List.Elements.{All-head, All-tail}
use Rattle.std.specs.Prelude.{All}

-- what holds over nothing, over one step after another, and over a position put with no lower lot number in one of some places
pub record IsKept (R : Register → Register → Type 0) (IsPlace : ℕ → ℕ → Type 0) : Type 0 where
  pub same : (r : Register) → R r r
  pub next : (r s t : Register) → R r s → R s t → R r t
  pub over : (p : Position) (r : Register) → IsPlace p.account p.class → next_of r p.account p.class ≤ p.holding.next_lot → R r (put p r)

-- an order that is unfilled leaves the register
unless-kept : (R : Register → Register → Type 0) (IsPlace : ℕ → ℕ → Type 0) → IsKept R IsPlace → (reasons : List (Option Why)) (day : Day) (trade : Trade) (done : Day) → R day.register done.register → R day.register (day_unless_any reasons day trade done).register
unless-kept R IsPlace kept reasons day trade done here =
    elim (first_some reasons) as (λ o. R day.register (day_unless o day trade done).register) [
      | None ↦ here
      | Some why ↦ kept.same day.register
    ]

-- the position found in a place, changed and put
pub put-found : (R : Register → Register → Type 0) (IsPlace : ℕ → ℕ → Type 0) → IsKept R IsPlace → (r : Register) (a c : ℕ) (p : Position) → p.account ≡ (position_of r a c).account → p.class ≡ (position_of r a c).class → (position_of r a c).holding.next_lot ≤ p.holding.next_lot → IsPlace a c → R r (put p r)
put-found R IsPlace kept r a c p account class more place =
    let at = account ∙ own-account r a c in
    let of = class ∙ own-class r a c in
    let own : IsPlace p.account p.class = rw (at, of) place in
    let low : next_of r p.account p.class ≤ p.holding.next_lot = rw (at, of) more in
    kept.over p r own low

-- ---- the numbers of lots

-- ---- each kind of order

sold-kept : (R : Register → Register → Type 0) (IsPlace : ℕ → ℕ → Type 0) → IsKept R IsPlace → (book : Book) (sheet : Sheet) (day : Day) (order : Order) (asked : ℕ) → IsPlace order.account (class_of order.body) → R day.register (day_after_redemption book sheet day order asked).register
sold-kept R IsPlace kept book sheet day order asked place =
    let position = position_of day.register order.account (class_of order.body) in
    let trade = order_trade sheet order TradeKind.Sell in
    unless-kept R IsPlace kept (short_of position.holding asked ∷ []) day trade (day_after_sale book sheet day position asked trade)
    (put-found R IsPlace kept day.register order.account (class_of order.body) (position_less position asked) refl refl (omega arith) place)

sold-for-kept : (R : Register → Register → Type 0) (IsPlace : ℕ → ℕ → Type 0) → IsKept R IsPlace → (book : Book) (sheet : Sheet) (day : Day) (order : Order) (amount : ℕ) → IsPlace order.account (class_of order.body) → R day.register (day_after_redemption_for book sheet day order amount).register
sold-for-kept R IsPlace kept book sheet day order amount place =
    let position = position_of day.register order.account (class_of order.body) in
    let asked = half (1000 * amount) (nav_of sheet position.class) in
    let trade = order_trade sheet order TradeKind.Sell in
    unless-kept R IsPlace kept (when (asked == 0) Why.TooSmall ∷ short_of position.holding asked ∷ []) day trade (day_after_sale book sheet day position asked trade)
    (put-found R IsPlace kept day.register order.account (class_of order.body) (position_less position asked) refl refl (omega arith) place)

letter-kept : (R : Register → Register → Type 0) (IsPlace : ℕ → ℕ → Type 0) → IsKept R IsPlace → (book : Book) (sheet : Sheet) (day : Day) (order : Order) (amount : ℕ) → IsPlace order.account (class_of order.body) → R day.register (day_after_letter book sheet day order amount).register
letter-kept R IsPlace kept book sheet day order amount place =
    let position = position_of day.register order.account (class_of order.body) in
    let trade = order_trade sheet order TradeKind.Letter in
    let with_letter = record position { letter = Some (new_letter amount sheet.day (credit_of book sheet day.register order.account) (front_of book position.class)) } in
    unless-kept R IsPlace kept (when (is_some position.letter) Why.LetterOpen ∷ []) day trade
    (day_after_trade day with_letter (record trade { cash = amount }))
    (put-found R IsPlace kept day.register order.account (class_of order.body) with_letter refl refl (omega arith) place)

-- the number of a target stays while the position is put that gives to it
target-next : (p : Position) (r : Register) (a c to : ℕ) → p.account ≡ (position_of r a c).account → p.class ≡ (position_of r a c).class → p.holding.next_lot ≡ (position_of r a c).holding.next_lot → next_of (put p r) a to ≤ next_of r a to
target-next p r a c to account class same = elim (cases_Bool (is_position a to p)) [
  | inl here ↦
      let at = same-place a to p here in
      let one : c ≡ to = sym (own-class r a c) ∙ sym class ∙ at.1 in
      let found : next_of (put p r) a to ≡ p.holding.next_lot = ap (λ x. next_of (put p r) x to) (sym at.0) ∙ (ap (λ x. next_of (put p r) p.account x) (sym at.1) ∙ next-put p r) in
      omega (arith, found, same, ap (λ x. next_of r a x) one)
  | inr away ↦ omega (arith, ap (λ (x : Position). x.holding.next_lot) (found-elsewhere p r a to away))
]

two-put : (R : Register → Register → Type 0) (IsPlace : ℕ → ℕ → Type 0) → IsKept R IsPlace → (r : Register) (a c to asked : ℕ) (given : List Piece) → IsPlace a c → IsPlace a to → R r (put (position_with_pieces (position_of r a to) given) (put (position_less (position_of r a c) asked) r))
two-put R IsPlace kept r a c to asked given place target_place =
    let p = position_less (position_of r a c) asked in
    let q = position_with_pieces (position_of r a to) given in
    let at = own-account r a to in
    let of = own-class r a to in
    let own : IsPlace q.account q.class = rw (at, of) target_place in
    let more = next-pieces given (position_of r a to).holding in
    let low : next_of (put p r) q.account q.class ≤ q.holding.next_lot = rw (at, of) (omega (arith, target-next p r a c to refl refl refl, more)) in
    kept.next r (put p r) (put q (put p r)) (put-found R IsPlace kept r a c p refl refl (omega arith) place) (kept.over q (put p r) own low)

exchange-kept : (R : Register → Register → Type 0) (IsPlace : ℕ → ℕ → Type 0) → IsKept R IsPlace → (sheet : Sheet) (day : Day) (order : Order) (to asked : ℕ) → IsPlace order.account (class_of order.body) → IsPlace order.account to → R day.register (day_after_exchange sheet day order to asked).register
exchange-kept R IsPlace kept sheet day order to asked place target_place =
    let position = position_of day.register order.account (class_of order.body) in
    let target = position_of day.register order.account to in
    let nav = nav_of sheet position.class in
    let moved = transfer_of nav (nav_of sheet to) (pieces asked position.holding.lots) in
    let trade = order_trade sheet order TradeKind.Exchange in
    unless-kept R IsPlace kept (exchange_reasons position target asked moved) day trade
    (day_after_trade (with_position day (position_less position asked)) (position_with_pieces target moved.pieces) (exchange_trade trade nav asked moved))
    (two-put R IsPlace kept day.register order.account (class_of order.body) to asked moved.pieces place target_place)

-- a purchase: the position with its lot, and once more where its letter is reached
reached-kept : (R : Register → Register → Type 0) (IsPlace : ℕ → ℕ → Type 0) → IsKept R IsPlace → (sheet : Sheet) (day : Day) (trade : Trade) (k : Position) (a c : ℕ) → k.account ≡ (position_of day.register a c).account → k.class ≡ (position_of day.register a c).class → (position_of day.register a c).holding.next_lot ≤ k.holding.next_lot → IsPlace a c → (reached : Bool) → R day.register (day_if_reached reached sheet k (day_after_trade day k trade)).register
reached-kept R IsPlace kept sheet day trade k a c account class more place false =
    put-found R IsPlace kept day.register a c k account class more place
reached-kept R IsPlace kept sheet day trade k a c account class more place true =
    let r = day.register in
    let ended = record k { holding = release_all k.holding; letter = None } in
    let own : IsPlace k.account k.class = rw (account ∙ own-account r a c, class ∙ own-class r a c) place in
    let low : next_of (put k r) k.account k.class ≤ k.holding.next_lot = omega (arith, next-put k r) in
    kept.next r (put k r) (put ended (put k r)) (put-found R IsPlace kept r a c k account class more place) (kept.over ended (put k r) own low)

lot-kept : (R : Register → Register → Type 0) (IsPlace : ℕ → ℕ → Type 0) → IsKept R IsPlace → (sheet : Sheet) (day : Day) (a c gross : ℕ) (split : Split) (trade : Trade) → IsPlace a c → (letter : Option Letter) → R day.register (day_with_lot sheet day (position_of day.register a c) (shares_added (position_of day.register a c).holding sheet.day split.mils gross false) letter gross split trade).register
lot-kept R IsPlace kept sheet day a c gross split trade place None =
    let position = position_of day.register a c in
    put-found R IsPlace kept day.register a c (with_holding position (shares_added position.holding sheet.day split.mils gross false).holding) refl refl
    (next_kept position.holding sheet.day split.mils gross false) place
lot-kept R IsPlace kept sheet day a c gross split trade place (Some letter) =
    let position = position_of day.register a c in
    let lot = shares_added position.holding sheet.day split.mils gross false in
    reached-kept R IsPlace kept sheet day trade (position_after_note position lot letter gross split) a c refl refl
    (next_kept position.holding sheet.day split.mils gross false) place (note_of_purchase letter gross split.price split.mils).reached

split-kept : (R : Register → Register → Type 0) (IsPlace : ℕ → ℕ → Type 0) → IsKept R IsPlace → (sheet : Sheet) (day : Day) (a c gross : ℕ) (trade : Trade) → IsPlace a c → (split : Option Split) → R day.register (day_at_split sheet day (position_of day.register a c) gross split trade).register
split-kept R IsPlace kept sheet day a c gross trade place None = kept.same day.register
split-kept R IsPlace kept sheet day a c gross trade place (Some split) =
    let position = position_of day.register a c in
    unless-kept R IsPlace kept (when (not (has_room position.holding split.mils gross)) Why.Ceiling ∷ []) day trade
    (day_with_lot sheet day position (shares_added position.holding sheet.day split.mils gross false) position.letter gross split (purchase_trade trade gross split))
    (lot-kept R IsPlace kept sheet day a c gross split (purchase_trade trade gross split) place position.letter)

bought-kept : (R : Register → Register → Type 0) (IsPlace : ℕ → ℕ → Type 0) → IsKept R IsPlace → (book : Book) (sheet : Sheet) (day : Day) (order : Order) (gross : ℕ) → IsPlace order.account (class_of order.body) → R day.register (day_after_purchase book sheet day order gross).register
bought-kept R IsPlace kept book sheet day order gross place =
    let position = position_of day.register order.account (class_of order.body) in
    split-kept R IsPlace kept sheet day order.account (class_of order.body) gross (order_trade sheet order TradeKind.Buy) place
    (split_of gross (nav_of sheet position.class) (purchase_rate book sheet day.register position gross))

elected-kept : (R : Register → Register → Type 0) (IsPlace : ℕ → ℕ → Type 0) → IsKept R IsPlace → (sheet : Sheet) (day : Day) (order : Order) (in_cash : Bool) → IsPlace order.account (class_of order.body) → R day.register (day_after_election sheet day order in_cash).register
elected-kept R IsPlace kept sheet day order in_cash place =
    let position = position_of day.register order.account (class_of order.body) in
    put-found R IsPlace kept day.register order.account (class_of order.body) (record position { in_cash = in_cash }) refl refl (omega arith) place

-- ---- all of them

target-place : (P : ℕ → Type 0) (order : Order) (class to : ℕ) → classes_in order.body ≡ class ∷ to ∷ [] → All P (classes_in order.body) → P to
target-place P order class to is all =
    let Q : List ℕ → Type 0 = λ cs. All P cs in
    (subst Q is all) 1 0 (omega arith)

pub body-kept : (R : Register → Register → Type 0) (IsPlace : ℕ → ℕ → Type 0) → IsKept R IsPlace → (book : Book) (sheet : Sheet) (day : Day) (order : Order) (body : Body) → order.body ≡ body → All (IsPlace order.account) (classes_in order.body) → R day.register (day_after_body book sheet day order body).register
body-kept R IsPlace kept book sheet day order (Body.Buy class gross) is places = bought-kept R IsPlace kept book sheet day order gross (All-head (IsPlace order.account) (class_of order.body) _ places)
body-kept R IsPlace kept book sheet day order (Body.Sell class mils) is places = sold-kept R IsPlace kept book sheet day order mils (All-head (IsPlace order.account) (class_of order.body) _ places)
body-kept R IsPlace kept book sheet day order (Body.SellCash class amount) is places = sold-for-kept R IsPlace kept book sheet day order amount (All-head (IsPlace order.account) (class_of order.body) _ places)
body-kept R IsPlace kept book sheet day order (Body.SellAll class) is places = sold-kept R IsPlace kept book sheet day order (loose_of day order) (All-head (IsPlace order.account) (class_of order.body) _ places)
body-kept R IsPlace kept book sheet day order (Body.Exchange class to mils) is places =
    exchange-kept R IsPlace kept sheet day order to mils (All-head (IsPlace order.account) (class_of order.body) _ places)
    (target-place (IsPlace order.account) order class to (ap classes_in is) places)
body-kept R IsPlace kept book sheet day order (Body.ExchangeAll class to) is places =
    exchange-kept R IsPlace kept sheet day order to (loose_of day order) (All-head (IsPlace order.account) (class_of order.body) _ places)
    (target-place (IsPlace order.account) order class to (ap classes_in is) places)
body-kept R IsPlace kept book sheet day order (Body.Letter class amount) is places = letter-kept R IsPlace kept book sheet day order amount (All-head (IsPlace order.account) (class_of order.body) _ places)
body-kept R IsPlace kept book sheet day order (Body.Elect class in_cash) is places = elected-kept R IsPlace kept sheet day order in_cash (All-head (IsPlace order.account) (class_of order.body) _ places)

-- orders one after another
pub orders-kept : (R : Register → Register → Type 0) (IsPlace : ℕ → ℕ → Type 0) → IsKept R IsPlace → (known : Known) (orders : List Order) (day : Day) → All (λ order. All (IsPlace order.account) (classes_in order.body)) orders → R day.register (orders_known known orders day).register
orders-kept R IsPlace kept known [] day places = kept.same day.register
orders-kept R IsPlace kept known (order ∷ orders) day places =
    let P = λ (o : Order). All (IsPlace o.account) (classes_in o.body) in
    let after = order_known known day order in
    kept.next day.register after.register (orders_known known orders after).register
    (body-kept R IsPlace kept (book_of_facts known) (sheet_at_hand known) day order order.body refl (All-head P order orders places))
    (orders-kept R IsPlace kept known orders after (All-tail P order orders places))

-- ---- what is kept

abbrev pub Anywhere : ℕ → ℕ → Type 0
Anywhere account class = Unit {0}

pub lots-grow : IsKept Grows Anywhere
lots-grow = record { same = grows-same; next = grows-on; over = λ p r place low. grows-put p r low }

abbrev pub StaysRegister : Register → Register → Type 0
StaysRegister r s = IsRegister r → IsRegister s

pub registers-stay : IsKept StaysRegister Anywhere
registers-stay = record { same = λ r is. is; next = λ r s t f g is. g (f is); over = λ p r place low is. put-register p r is }

abbrev pub StaysOwned : Known → ℕ → Register → Register → Type 0
StaysOwned known household r s = AreOwned known household r → AreOwned known household s

pub owned-stay : (known : Known) (household : ℕ) → IsKept (StaysOwned known household) (IsOwnPlace known household)
owned-stay known household = record {
  same = λ r is. is;
  next = λ r s t f g is. g (f is);
  over = λ p r place low all. put-all (λ x. IsOwnPlace known household x.account x.class) p r place all;
}
