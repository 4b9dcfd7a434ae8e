-- Two days in a relation that a trade of an account and a position of it keep: so does each of its orders, a dividend on a
-- position of it, and the end of its letter. The one record of what that takes serves the part of a household, a household
-- that is left alone, two books that agree, and a price that is corrected.
use Rattle.std.proofs.Common.{Bool, List, None, Option, Some, [], ap, cond, false, is_some, not, refl, subst, sym, true, ℕ, ◌*◌, ◌+◌, ◌==◌, ◌∙◌, ◌∷◌, ◌≡◌}
use Rattle.agent_events.specs.declared.order.Body.{Body}
use Rattle.agent_events.specs.declared.order.Order.{Order}
use Rattle.agent_events.specs.declared.order.OrderRow.{OrderRow}
use Rattle.agent_events.specs.declared.trade.Outcome.{Outcome}
use Rattle.agent_events.specs.declared.trade.Trade.{Trade}
use Rattle.agent_events.specs.declared.trade.TradeKind.{TradeKind}
use Rattle.agent_events.specs.declared.trade.Why.{Why}
use Rattle.class_terms.specs.declared.lists.Bracket.{Bracket}
use Rattle.contingent_charge.specs.DeferredCharge.{charge_of_pieces}
use Rattle.dividend_reinvest.specs.declared.payment.Payment.{Payment}
use Rattle.forward_price.specs.PriceTables.{with_prices}
use Rattle.forward_price.specs.declared.price_sheet.Sheet.{Sheet}
use Rattle.fund_exchange.specs.Exchange.{transfer_of}
use Rattle.fund_exchange.specs.declared.carrying.Carried.{Carried}
use Rattle.letter_of_intent.specs.Letters.{new_letter, note_of_purchase, settlement}
use Rattle.letter_of_intent.specs.declared.letter.Letter.{Letter}
use Rattle.money_units.specs.Rounding.{half}
use Rattle.offering_price.specs.Accumulation.{bracket}
use Rattle.offering_price.specs.Purchase.{split_of}
use Rattle.offering_price.specs.declared.purchase.Split.{Split}
use Rattle.register_machine.proofs.FoundFacts.{own-account, own-class}
use Rattle.register_machine.specs.journal.Choices.{first_some, when}
use Rattle.register_machine.specs.pricing.CorrectedBook.{Book, front_of, schedule_of}
use Rattle.register_machine.specs.pricing.OrderClasses.{class_of, target_of}
use Rattle.register_machine.specs.replay.DayStep.{day_after_body, day_after_election, day_after_order}
use Rattle.register_machine.specs.replay.Dividend.{cash_dividend_trade, day_after_dividend, day_after_payment, dividend_trade, payment_on}
use Rattle.register_machine.specs.replay.Exchange.{day_after_exchange, exchange_reasons, exchange_trade, position_with_pieces}
use Rattle.register_machine.specs.replay.Letter.{day_after_end_of, day_after_letter, day_after_letter_end, letter_end_trade}
use Rattle.register_machine.specs.replay.Positions.{Position, PositionKey, has_room, position_of, with_holding}
use Rattle.register_machine.specs.replay.Purchase.{amount_rated, credit_of, day_after_purchase, day_at_split, day_if_reached, day_with_lot, position_after_note, purchase_rate, purchase_trade}
use Rattle.register_machine.specs.replay.Redemption.{day_after_redemption, day_after_redemption_for, day_after_sale, loose_of, position_less, redemption_trade, short_of}
use Rattle.register_machine.specs.replay.Trades.{Day, day_after_trade, day_unless, day_unless_any, nav_of, order_trade, plain_trade, with_position, with_trade}
use Rattle.share_lots.specs.Lots.{Added, shares_added, held_total, loose_total, release_all}
use Rattle.share_lots.specs.Taking.{after_paying, pieces}
use Rattle.dividend_reinvest.specs.declared.payment.Payment.TheVariants as pays

-- Of an account, two books, and a sheet under the prices that it has in each: what the classes that count have in common, what
-- two days in the relation have in common, and that a trade and a position of the account keep it.
pub record Alike (book other : Book) (sheet : Sheet) (prices : List (ℕ × ℕ)) (account : ℕ) (C : ℕ → Type 0) (R : Day → Day → Type 0) : Type 0 where
  pub nav : (class : ℕ) → C class → nav_of sheet class ≡ nav_of (with_prices sheet prices) class
  pub front : (class : ℕ) → C class → front_of book class ≡ front_of other class
  pub schedule : (class : ℕ) → C class → schedule_of book class ≡ schedule_of other class
  pub found : (d e : Day) (class : ℕ) → C class → R d e → position_of d.register account class ≡ position_of e.register account class
  pub credit : (d e : Day) → R d e → credit_of book sheet d.register account ≡ credit_of other (with_prices sheet prices) e.register account
  pub traded : (d e : Day) (trade : Trade) → trade.account ≡ account → R d e → R (with_trade d trade) (with_trade e trade)
  pub placed : (d e : Day) (p : Position) → p.account ≡ account → C p.class → R d e → R (with_position d p) (with_position e p)

-- the classes of an order count
pub record BodyCounts (C : ℕ → Type 0) (body : Body) : Type 0 where
  pub own : C (class_of body)
  pub target : (to : ℕ) → target_of body ≡ Some to → C to

-- an exchange between two positions
abbrev exchanged_on : Day → Position → Position → ℕ → Trade → ℕ → Carried → Day
exchanged_on day p t asked trade nav moved =
    day_unless_any (exchange_reasons p t asked moved) day trade
    (day_after_trade (with_position day (position_less p asked)) (position_with_pieces t moved.pieces) (exchange_trade trade nav asked moved))

module _ (book other : Book) (sheet : Sheet) (prices : List (ℕ × ℕ)) (account : ℕ) (C : ℕ → Type 0) (R : Day → Day → Type 0) (alike : Alike book other sheet prices account C R) where
  found-as : (d e : Day) (number class : ℕ) → number ≡ account → C class → R d e → position_of d.register number class ≡ position_of e.register number class
  found-as d e number class by counts is =
      subst (λ n. position_of d.register n class ≡ position_of e.register n class) (sym by) (alike.found d e class counts is)

  credit-as : (d e : Day) (number : ℕ) → number ≡ account → R d e → credit_of book sheet d.register number ≡ credit_of other (with_prices sheet prices) e.register number
  credit-as d e number by is =
      subst (λ n. credit_of book sheet d.register n ≡ credit_of other (with_prices sheet prices) e.register n) (sym by) (alike.credit d e is)

  found-account : (d : Day) (number class : ℕ) → number ≡ account → (position_of d.register number class).account ≡ account
  found-account d number class by = own-account d.register number class ∙ by

  found-counts : (d : Day) (number class : ℕ) → C class → C (position_of d.register number class).class
  found-counts d number class counts = subst C (sym (own-class d.register number class)) counts

  after-trade : (d e : Day) (p : Position) (trade : Trade) → p.account ≡ account → C p.class → trade.account ≡ account → R d e → R (day_after_trade d p trade) (day_after_trade e p trade)
  after-trade d e p trade mine counts by is =
      alike.traded (with_position d p) (with_position e p) trade by (alike.placed d e p mine counts is)

  unless-why : (why : Option Why) (d e done done_too : Day) (trade : Trade) → trade.account ≡ account → R d e → R done done_too → R (day_unless why d trade done) (day_unless why e trade done_too)
  unless-why None d e done done_too trade by is filled = filled
  unless-why (Some why) d e done done_too trade by is filled =
      alike.traded d e (record trade { outcome = Outcome.Unfilled why }) by is

  -- ---- purchases

  after-lot : (d e : Day) (p : Position) (lot : Added) (letter : Option Letter) (gross : ℕ) (split : Split) (trade : Trade) → p.account ≡ account → C p.class → trade.account ≡ account → R d e → R (day_with_lot sheet d p lot letter gross split trade) (day_with_lot (with_prices sheet prices) e p lot letter gross split trade)
  after-lot d e p lot None gross split trade mine counts by is =
      after-trade d e (with_holding p lot.holding) trade mine counts by is
  after-lot d e p lot (Some letter) gross split trade mine counts by is =
      let kept = position_after_note p lot letter gross split in
      let noted_is = after-trade d e kept trade mine counts by is in
      elim (note_of_purchase letter gross split.price split.mils).reached as (λ b. R (day_if_reached b sheet kept (day_after_trade d kept trade)) (day_if_reached b (with_prices sheet prices) kept (day_after_trade e kept trade))) [
        | true ↦ after-trade (day_after_trade d kept trade) (day_after_trade e kept trade) (record kept { holding = release_all kept.holding; letter = None }) (plain_trade sheet kept.account kept.class TradeKind.LetterReached) mine counts mine noted_is
        | false ↦ noted_is
      ]

  after-split : (d e : Day) (p : Position) (gross : ℕ) (split : Option Split) (trade : Trade) → p.account ≡ account → C p.class → trade.account ≡ account → R d e → R (day_at_split sheet d p gross split trade) (day_at_split (with_prices sheet prices) e p gross split trade)
  after-split d e p gross None trade mine counts by is =
      unless-why (Some Why.TooSmall) d e d e trade by is is
  after-split d e p gross (Some split) trade mine counts by is =
      unless-why (first_some (when (not (has_room p.holding split.mils gross)) Why.Ceiling ∷ [])) d e
      (day_with_lot sheet d p (shares_added p.holding sheet.day split.mils gross false) p.letter gross split (purchase_trade trade gross split))
      (day_with_lot (with_prices sheet prices) e p (shares_added p.holding sheet.day split.mils gross false) p.letter gross split (purchase_trade trade gross split))
      trade by is
      (after-lot d e p (shares_added p.holding sheet.day split.mils gross false) p.letter gross split (purchase_trade trade gross split) mine counts by is)

  rates-alike : (d e : Day) (p : Position) (gross : ℕ) → p.account ≡ account → C p.class → R d e → purchase_rate book sheet d.register p gross ≡ purchase_rate other (with_prices sheet prices) e.register p gross
  rates-alike d e p gross mine counts is =
      ap (λ front. bracket front (amount_rated p.letter (gross + credit_of book sheet d.register p.account))) (alike.front p.class counts)
      ∙ ap (λ credit. bracket (front_of other p.class) (amount_rated p.letter (gross + credit))) (credit-as d e p.account mine is)

  after-purchase : (d e : Day) (order : Order) (gross : ℕ) → order.account ≡ account → C (class_of order.body) → R d e → R (day_after_purchase book sheet d order gross) (day_after_purchase other (with_prices sheet prices) e order gross)
  after-purchase d e order gross by counts is =
      let p = position_of d.register order.account (class_of order.body) in
      let mine = found-account d order.account (class_of order.body) by in
      let fine = found-counts d order.account (class_of order.body) counts in
      let trade = order_trade sheet order TradeKind.Buy in
      let left = day_after_purchase book sheet d order gross in
      let base = after-split d e p gross (split_of gross (nav_of sheet p.class) (purchase_rate book sheet d.register p gross)) trade mine fine by is in
      let at_nav = subst (λ nav. R left (day_at_split (with_prices sheet prices) e p gross (split_of gross nav (purchase_rate book sheet d.register p gross)) trade)) (alike.nav p.class fine) base in
      let at_rate = subst (λ rate. R left (day_at_split (with_prices sheet prices) e p gross (split_of gross (nav_of (with_prices sheet prices) p.class) rate) trade)) (rates-alike d e p gross mine fine is) at_nav in
      subst (λ (q : Position). R left (day_at_split (with_prices sheet prices) e q gross (split_of gross (nav_of (with_prices sheet prices) q.class) (purchase_rate other (with_prices sheet prices) e.register q gross)) trade))
      (found-as d e order.account (class_of order.body) by counts is) at_rate

  -- ---- redemptions

  after-sale : (d e : Day) (p : Position) (asked : ℕ) (trade : Trade) → p.account ≡ account → C p.class → trade.account ≡ account → R d e → R (day_after_sale book sheet d p asked trade) (day_after_sale other (with_prices sheet prices) e p asked trade)
  after-sale d e p asked trade mine counts by is =
      let left = day_after_sale book sheet d p asked trade in
      let base = after-trade d e (position_less p asked) (redemption_trade trade (nav_of sheet p.class) asked (charge_of_pieces (pieces asked p.holding.lots) (nav_of sheet p.class) sheet.day (schedule_of book p.class))) mine counts by is in
      let at_nav = subst (λ nav. R left (day_after_trade e (position_less p asked) (redemption_trade trade nav asked (charge_of_pieces (pieces asked p.holding.lots) nav sheet.day (schedule_of book p.class))))) (alike.nav p.class counts) base in
      subst (λ schedule. R left (day_after_trade e (position_less p asked) (redemption_trade trade (nav_of (with_prices sheet prices) p.class) asked (charge_of_pieces (pieces asked p.holding.lots) (nav_of (with_prices sheet prices) p.class) sheet.day schedule))))
      (alike.schedule p.class counts) at_nav

  after-redemption : (d e : Day) (order : Order) (asked : ℕ) → order.account ≡ account → C (class_of order.body) → R d e → R (day_after_redemption book sheet d order asked) (day_after_redemption other (with_prices sheet prices) e order asked)
  after-redemption d e order asked by counts is =
      let p = position_of d.register order.account (class_of order.body) in
      let mine = found-account d order.account (class_of order.body) by in
      let fine = found-counts d order.account (class_of order.body) counts in
      let trade = order_trade sheet order TradeKind.Sell in
      subst (λ (q : Position). R (day_after_redemption book sheet d order asked) (day_unless_any (short_of q.holding asked ∷ []) e trade (day_after_sale other (with_prices sheet prices) e q asked trade)))
      (found-as d e order.account (class_of order.body) by counts is)
      (unless-why (first_some (short_of p.holding asked ∷ [])) d e (day_after_sale book sheet d p asked trade) (day_after_sale other (with_prices sheet prices) e p asked trade) trade by is
      (after-sale d e p asked trade mine fine by is))

  after-redemption_for : (d e : Day) (order : Order) (amount : ℕ) → order.account ≡ account → C (class_of order.body) → R d e → R (day_after_redemption_for book sheet d order amount) (day_after_redemption_for other (with_prices sheet prices) e order amount)
  after-redemption_for d e order amount by counts is =
      let p = position_of d.register order.account (class_of order.body) in
      let mine = found-account d order.account (class_of order.body) by in
      let fine = found-counts d order.account (class_of order.body) counts in
      let trade = order_trade sheet order TradeKind.Sell in
      let left = day_after_redemption_for book sheet d order amount in
      let asked = half (1000 * amount) (nav_of sheet p.class) in
      let base = unless-why (first_some (when (asked == 0) Why.TooSmall ∷ short_of p.holding asked ∷ [])) d e (day_after_sale book sheet d p asked trade) (day_after_sale other (with_prices sheet prices) e p asked trade) trade by is (after-sale d e p asked trade mine fine by is) in
      let at_nav = subst (λ nav. R left (day_unless_any (when (half (1000 * amount) nav == 0) Why.TooSmall ∷ short_of p.holding (half (1000 * amount) nav) ∷ []) e trade (day_after_sale other (with_prices sheet prices) e p (half (1000 * amount) nav) trade))) (alike.nav p.class fine) base in
      subst (λ (q : Position). R left (day_unless_any (when (half (1000 * amount) (nav_of (with_prices sheet prices) q.class) == 0) Why.TooSmall ∷ short_of q.holding (half (1000 * amount) (nav_of (with_prices sheet prices) q.class)) ∷ []) e trade (day_after_sale other (with_prices sheet prices) e q (half (1000 * amount) (nav_of (with_prices sheet prices) q.class)) trade)))
      (found-as d e order.account (class_of order.body) by counts is) at_nav

  -- ---- exchanges, letters and elections

  after-moved : (d e : Day) (p t : Position) (asked : ℕ) (trade : Trade) (nav : ℕ) (moved : Carried) → p.account ≡ account → C p.class → t.account ≡ account → C t.class → trade.account ≡ account → R d e → R (exchanged_on d p t asked trade nav moved) (exchanged_on e p t asked trade nav moved)
  after-moved d e p t asked trade nav moved mine counts target fine by is =
      unless-why (first_some (exchange_reasons p t asked moved)) d e
      (day_after_trade (with_position d (position_less p asked)) (position_with_pieces t moved.pieces) (exchange_trade trade nav asked moved))
      (day_after_trade (with_position e (position_less p asked)) (position_with_pieces t moved.pieces) (exchange_trade trade nav asked moved))
      trade by is
      (after-trade (with_position d (position_less p asked)) (with_position e (position_less p asked)) (position_with_pieces t moved.pieces) (exchange_trade trade nav asked moved) target fine by
      (alike.placed d e (position_less p asked) mine counts is))

  after-exchange : (d e : Day) (order : Order) (to asked : ℕ) → order.account ≡ account → C (class_of order.body) → C to → R d e → R (day_after_exchange sheet d order to asked) (day_after_exchange (with_prices sheet prices) e order to asked)
  after-exchange d e order to asked by counts target is =
      let shown = with_prices sheet prices in
      let p = position_of d.register order.account (class_of order.body) in
      let t = position_of d.register order.account to in
      let fine = found-counts d order.account (class_of order.body) counts in
      let trade = order_trade sheet order TradeKind.Exchange in
      let left = day_after_exchange sheet d order to asked in
      let base = after-moved d e p t asked trade (nav_of sheet p.class) (transfer_of (nav_of sheet p.class) (nav_of sheet to) (pieces asked p.holding.lots)) (found-account d order.account (class_of order.body) by) fine (found-account d order.account to by) (found-counts d order.account to target) by is in
      let at_nav = subst (λ nav. R left (exchanged_on e p t asked trade nav (transfer_of nav (nav_of sheet to) (pieces asked p.holding.lots)))) (alike.nav p.class fine) base in
      let at_both = subst (λ nav. R left (exchanged_on e p t asked trade (nav_of shown p.class) (transfer_of (nav_of shown p.class) nav (pieces asked p.holding.lots)))) (alike.nav to target) at_nav in
      let from = subst (λ (q : Position). R left (exchanged_on e q t asked trade (nav_of shown q.class) (transfer_of (nav_of shown q.class) (nav_of shown to) (pieces asked q.holding.lots)))) (found-as d e order.account (class_of order.body) by counts is) at_both in
      let last = position_of e.register order.account (class_of order.body) in
      subst (λ (u : Position). R left (exchanged_on e last u asked trade (nav_of shown last.class) (transfer_of (nav_of shown last.class) (nav_of shown to) (pieces asked last.holding.lots))))
      (found-as d e order.account to by target is) from

  after-letter : (d e : Day) (order : Order) (amount : ℕ) → order.account ≡ account → C (class_of order.body) → R d e → R (day_after_letter book sheet d order amount) (day_after_letter other (with_prices sheet prices) e order amount)
  after-letter d e order amount by counts is =
      let shown = with_prices sheet prices in
      let p = position_of d.register order.account (class_of order.body) in
      let fine = found-counts d order.account (class_of order.body) counts in
      let trade = order_trade sheet order TradeKind.Letter in
      let left = day_after_letter book sheet d order amount in
      let start = credit_of book sheet d.register order.account in
      let begins = λ (q : Position) (credit : ℕ) (front : List Bracket). record q { letter = Some (new_letter amount sheet.day credit front) } in
      let base = unless-why (first_some (when (is_some p.letter) Why.LetterOpen ∷ [])) d e (day_after_trade d (begins p start (front_of book p.class)) (record trade { cash = amount })) (day_after_trade e (begins p start (front_of book p.class)) (record trade { cash = amount })) trade by is
      (after-trade d e (begins p start (front_of book p.class)) (record trade { cash = amount }) (found-account d order.account (class_of order.body) by) fine by is) in
      let at_front = subst (λ front. R left (day_unless_any (when (is_some p.letter) Why.LetterOpen ∷ []) e trade (day_after_trade e (begins p start front) (record trade { cash = amount })))) (alike.front p.class fine) base in
      let at_credit = subst (λ credit. R left (day_unless_any (when (is_some p.letter) Why.LetterOpen ∷ []) e trade (day_after_trade e (begins p credit (front_of other p.class)) (record trade { cash = amount })))) (credit-as d e order.account by is) at_front in
      subst (λ (q : Position). R left (day_unless_any (when (is_some q.letter) Why.LetterOpen ∷ []) e trade (day_after_trade e (begins q (credit_of other shown e.register order.account) (front_of other q.class)) (record trade { cash = amount }))))
      (found-as d e order.account (class_of order.body) by counts is) at_credit

  after-election : (d e : Day) (order : Order) (in_cash : Bool) → order.account ≡ account → C (class_of order.body) → R d e → R (day_after_election sheet d order in_cash) (day_after_election (with_prices sheet prices) e order in_cash)
  after-election d e order in_cash by counts is =
      let p = position_of d.register order.account (class_of order.body) in
      let trade = order_trade sheet order (cond in_cash TradeKind.ElectCash TradeKind.ElectShares) in
      subst (λ (q : Position). R (day_after_election sheet d order in_cash) (day_after_trade e (record q { in_cash = in_cash }) trade))
      (found-as d e order.account (class_of order.body) by counts is)
      (after-trade d e (record p { in_cash = in_cash }) trade (found-account d order.account (class_of order.body) by) (found-counts d order.account (class_of order.body) counts) by is)

  -- ---- each order, each dividend and each letter's end

  loose-alike : (d e : Day) (order : Order) → order.account ≡ account → C (class_of order.body) → R d e → loose_of d order ≡ loose_of e order
  loose-alike d e order by counts is =
      ap (λ (p : Position). loose_total p.holding) (found-as d e order.account (class_of order.body) by counts is)

  after-body : (d e : Day) (order : Order) (body : Body) → order.body ≡ body → order.account ≡ account → BodyCounts C order.body → R d e → R (day_after_body book sheet d order body) (day_after_body other (with_prices sheet prices) e order body)
  after-body d e order (Body.Buy class gross) body by counts is = after-purchase d e order gross by counts.own is
  after-body d e order (Body.Sell class mils) body by counts is = after-redemption d e order mils by counts.own is
  after-body d e order (Body.SellCash class amount) body by counts is = after-redemption_for d e order amount by counts.own is
  after-body d e order (Body.SellAll class) body by counts is =
      subst (λ asked. R (day_after_redemption book sheet d order (loose_of d order)) (day_after_redemption other (with_prices sheet prices) e order asked))
      (loose-alike d e order by counts.own is) (after-redemption d e order (loose_of d order) by counts.own is)
  after-body d e order (Body.Exchange class to mils) body by counts is =
      after-exchange d e order to mils by counts.own (counts.target to (ap target_of body)) is
  after-body d e order (Body.ExchangeAll class to) body by counts is =
      subst (λ asked. R (day_after_exchange sheet d order to (loose_of d order)) (day_after_exchange (with_prices sheet prices) e order to asked))
      (loose-alike d e order by counts.own is) (after-exchange d e order to (loose_of d order) by counts.own (counts.target to (ap target_of body)) is)
  after-body d e order (Body.Letter class amount) body by counts is = after-letter d e order amount by counts.own is
  after-body d e order (Body.Elect class in_cash) body by counts is = after-election d e order in_cash by counts.own is

  pub orders-alike : (d e : Day) (row : OrderRow) → row.order.account ≡ account → BodyCounts C row.order.body → R d e → R (day_after_order book sheet d row) (day_after_order other (with_prices sheet prices) e row)
  orders-alike d e row by counts is = after-body d e row.order row.order.body refl by counts is

  after-payment : (d e : Day) (p : Position) (payment : Payment) → p.account ≡ account → C p.class → R d e → R (day_after_payment sheet d p payment) (day_after_payment (with_prices sheet prices) e p payment)
  after-payment d e p pays.Nothing mine counts is = is
  after-payment d e p (pays.Cash cash) mine counts is = alike.traded d e (cash_dividend_trade sheet p cash) mine is
  after-payment d e p (pays.Shares cash mils) mine counts is =
      let paid = with_holding p (shares_added p.holding sheet.day mils cash true).holding in
      subst (λ nav. R (day_after_payment sheet d p (pays.Shares cash mils)) (day_after_trade e paid (record (dividend_trade sheet p cash mils) { price = nav })))
      (alike.nav p.class counts) (after-trade d e paid (dividend_trade sheet p cash mils) mine counts mine is)

  pub dividends-alike : (rate nav : ℕ) (d e : Day) (key : PositionKey) → key.account ≡ account → C key.class → R d e → R (day_after_dividend sheet rate nav d key) (day_after_dividend (with_prices sheet prices) rate nav e key)
  dividends-alike rate nav d e key by counts is =
      let p = position_of d.register key.account key.class in
      subst (λ (q : Position). R (day_after_dividend sheet rate nav d key) (day_after_payment (with_prices sheet prices) e q (payment_on rate nav q)))
      (found-as d e key.account key.class by counts is)
      (after-payment d e p (payment_on rate nav p) (found-account d key.account key.class by) (found-counts d key.account key.class counts) is)

  after-end : (d e : Day) (p : Position) (letter : Option Letter) → p.account ≡ account → C p.class → R d e → R (day_after_end_of book sheet d p letter) (day_after_end_of other (with_prices sheet prices) e p letter)
  after-end d e p None mine counts is = is
  after-end d e p (Some letter) mine counts is =
      let shown = with_prices sheet prices in
      let left = day_after_end_of book sheet d p (Some letter) in
      let ended = λ (front : List Bracket) (nav : ℕ). record p { holding = release_all (after_paying p.holding (settlement front letter nav (held_total p.holding)).paid); letter = None } in
      let trade = λ (front : List Bracket) (nav : ℕ). record (letter_end_trade sheet p (settlement front letter nav (held_total p.holding))) { price = nav } in
      let base = after-trade d e (ended (front_of book p.class) (nav_of sheet p.class)) (trade (front_of book p.class) (nav_of sheet p.class)) mine counts mine is in
      let at_front = subst (λ front. R left (day_after_trade e (ended front (nav_of sheet p.class)) (trade front (nav_of sheet p.class)))) (alike.front p.class counts) base in
      subst (λ nav. R left (day_after_trade e (ended (front_of other p.class) nav) (trade (front_of other p.class) nav))) (alike.nav p.class counts) at_front

  pub letter_ends-alike : (d e : Day) (key : PositionKey) → key.account ≡ account → C key.class → R d e → R (day_after_letter_end book sheet d key) (day_after_letter_end other (with_prices sheet prices) e key)
  letter_ends-alike d e key by counts is =
      let p = position_of d.register key.account key.class in
      subst (λ (q : Position). R (day_after_letter_end book sheet d key) (day_after_end_of other (with_prices sheet prices) e q q.letter))
      (found-as d e key.account key.class by counts is)
      (after-end d e p p.letter (found-account d key.account key.class by) (found-counts d key.account key.class counts) is)
