-- What the dividends of a sheet and the letters that end on it leave as it was: whose the positions are, that open letters
-- stay within their limits, and that no lot number falls.
use Rattle.std.proofs.Common.{All, List, None, Option, Some, [], arith, cond, filter, fold, map, refl, ℕ, ◌==◌, ◌∷◌, ◌≡◌, true, false}
use Rattle.std.proofs.lemmas.List.Elements.{All-filter, All-head, All-map, All-tail}
use Rattle.agent_events.specs.declared.order.Order.{Order}
use Rattle.dividend_reinvest.specs.declared.payment.Payment.{Payment}
use Rattle.dividend_reinvest.specs.declared.payment.Payment.TheVariants as pays
use Rattle.forward_price.specs.declared.price_sheet.Sheet.{Sheet}
use Rattle.household_fold.proofs.LotNumbers.{Grows, grows-on, numbers-before}
use Rattle.household_fold.proofs.OrderSteps.{Anywhere, IsKept, StaysOwned, lots-grow, orders-kept, owned-stay, put-found}
use Rattle.household_fold.proofs.PutFacts.{letter-found, letters-put}
use Rattle.household_fold.specs.Facts.{Known, book_of_facts, sheet_at_hand}
use Rattle.household_fold.specs.Households.{AreOwned, IsOwnPlace, first_of, order_known, orders_known, row_of, step_known}
use Rattle.household_fold.specs.Limits.{AreLettersWithin}
use Rattle.household_fold.specs.Numbers.{AreNumbersWithin}
use Rattle.letter_of_intent.specs.Letters.{settlement}
use Rattle.letter_of_intent.specs.declared.letter.Letter.{Letter}
use Rattle.register_machine.specs.pricing.CorrectedBook.{Book, front_of}
use Rattle.register_machine.specs.pricing.DividendRates.{Rates, rate_at}
use Rattle.register_machine.specs.replay.DayStep.{day_after_orders, day_step}
use Rattle.register_machine.specs.replay.Dividend.{day_after_class, day_after_dividend, day_after_dividends, day_after_payment, day_after_rate, is_of_class, keys_of_class, payment_on}
use Rattle.register_machine.specs.replay.Letter.{day_after_end_of, day_after_letter_end, day_after_letter_ends, has_letter_over, keys_of_letters_over}
use Rattle.register_machine.specs.replay.Positions.{PositionKey, Register, key_of, position_of, with_holding}
use Rattle.register_machine.specs.replay.Trades.{Day, nav_of}
use Rattle.share_lots.proofs.AddedLemmas.{next_kept}
use Rattle.share_lots.specs.Lots.{shares_added, held_total, release_all}
use Rattle.share_lots.specs.Taking.{after_paying}

-- ---- folds

-- what holds over each step from a day on that keeps it holds over all
fold-kept : {E : Type 0} (P : Day → Type 0) (step : Day → E → Day) → ((d : Day) (e : E) → P d → P (step d e)) → (day : Day) (es : List E) → P day → P (fold step day es)
fold-kept P step kept day [] here = here
fold-kept P step kept day (e ∷ es) here = fold-kept P step kept (step day e) es (kept day e here)

-- ---- dividends

paid-kept : (R : Register → Register → Type 0) (IsPlace : ℕ → ℕ → Type 0) → IsKept R IsPlace → (sheet : Sheet) (day : Day) (a c : ℕ) → IsPlace a c → (payment : Payment) → R day.register (day_after_payment sheet day (position_of day.register a c) payment).register
paid-kept R IsPlace kept sheet day a c place pays.Nothing = kept.same day.register
paid-kept R IsPlace kept sheet day a c place (pays.Cash cash) = kept.same day.register
paid-kept R IsPlace kept sheet day a c place (pays.Shares cash mils) =
    let position = position_of day.register a c in
    put-found R IsPlace kept day.register a c (with_holding position (shares_added position.holding sheet.day mils cash true).holding) refl refl
    (next_kept position.holding sheet.day mils cash true) place

keys-kept : (R : Register → Register → Type 0) (IsPlace : ℕ → ℕ → Type 0) → IsKept R IsPlace → (sheet : Sheet) (rate nav : ℕ) (day : Day) (keys : List PositionKey) → All (λ key. IsPlace key.account key.class) keys → R day.register (fold (day_after_dividend sheet rate nav) day keys).register
keys-kept R IsPlace kept sheet rate nav day [] places = kept.same day.register
keys-kept R IsPlace kept sheet rate nav day (key ∷ keys) places =
    let P = λ (k : PositionKey). IsPlace k.account k.class in
    let after = day_after_dividend sheet rate nav day key in
    kept.next day.register after.register (fold (day_after_dividend sheet rate nav) after keys).register
    (paid-kept R IsPlace kept sheet day key.account key.class (All-head P key keys places) (payment_on rate nav (position_of day.register key.account key.class)))
    (keys-kept R IsPlace kept sheet rate nav after keys (All-tail P key keys places))

own-keys : (known : Known) (household class : ℕ) (register : Register) → AreOwned known household register → All (λ key. IsOwnPlace known household key.account key.class) (keys_of_class class register)
own-keys known household class register owned =
    All-map (λ key. IsOwnPlace known household key.account key.class) key_of (filter (is_of_class class) register)
    (All-filter (is_of_class class) (λ position. IsOwnPlace known household position.account position.class) register owned)

class-owned : (known : Known) (household : ℕ) (rates : Rates) (sheet : Sheet) (day : Day) (price : ℕ × ℕ) → AreOwned known household day.register → AreOwned known household (day_after_class rates sheet day price).register
class-owned known household rates sheet day price owned =
    let rate = rate_at rates price.0 sheet.moment in
    elim (rate == 0) as (λ b. AreOwned known household (cond b day (day_after_rate sheet rate price day)).register) [
      | true ↦ owned
      | false ↦ keys-kept (StaysOwned known household) (IsOwnPlace known household) (owned-stay known household) sheet rate price.1 day (keys_of_class price.0 day.register)
          (own-keys known household price.0 day.register owned) owned
    ]

pub dividends-owned : (known : Known) (household : ℕ) (book : Book) (sheet : Sheet) (day : Day) → AreOwned known household day.register → AreOwned known household (day_after_dividends book sheet day).register
dividends-owned known household book sheet day owned =
    fold-kept (λ d. AreOwned known household d.register) (day_after_class book.rates sheet) (λ d price here. class-owned known household book.rates sheet d price here) day sheet.prices owned

paid-letters : (sheet : Sheet) (day : Day) (a c : ℕ) → AreLettersWithin day.register → (payment : Payment) → AreLettersWithin (day_after_payment sheet day (position_of day.register a c) payment).register
paid-letters sheet day a c all pays.Nothing = all
paid-letters sheet day a c all (pays.Cash cash) = all
paid-letters sheet day a c all (pays.Shares cash mils) =
    let position = position_of day.register a c in
    letters-put (with_holding position (shares_added position.holding sheet.day mils cash true).holding) day.register all (letter-found day.register a c all)

class-letters : (rates : Rates) (sheet : Sheet) (day : Day) (price : ℕ × ℕ) → AreLettersWithin day.register → AreLettersWithin (day_after_class rates sheet day price).register
class-letters rates sheet day price all =
    let rate = rate_at rates price.0 sheet.moment in
    elim (rate == 0) as (λ b. AreLettersWithin (cond b day (day_after_rate sheet rate price day)).register) [
      | true ↦ all
      | false ↦ fold-kept (λ d. AreLettersWithin d.register) (day_after_dividend sheet rate price.1)
          (λ d key here. paid-letters sheet d key.account key.class here (payment_on rate price.1 (position_of d.register key.account key.class))) day
          (keys_of_class price.0 day.register) all
    ]

pub dividends-letters : (book : Book) (sheet : Sheet) (day : Day) → AreLettersWithin day.register → AreLettersWithin (day_after_dividends book sheet day).register
dividends-letters book sheet day all =
    fold-kept (λ d. AreLettersWithin d.register) (day_after_class book.rates sheet) (λ d price here. class-letters book.rates sheet d price here) day sheet.prices all

-- ---- letters that end

ended-kept : (R : Register → Register → Type 0) (IsPlace : ℕ → ℕ → Type 0) → IsKept R IsPlace → (book : Book) (sheet : Sheet) (day : Day) (a c : ℕ) → IsPlace a c → (letter : Option Letter) → R day.register (day_after_end_of book sheet day (position_of day.register a c) letter).register
ended-kept R IsPlace kept book sheet day a c place None = kept.same day.register
ended-kept R IsPlace kept book sheet day a c place (Some letter) =
    let position = position_of day.register a c in
    let settled = settlement (front_of book position.class) letter (nav_of sheet position.class) (held_total position.holding) in
    put-found R IsPlace kept day.register a c (record position { holding = release_all (after_paying position.holding settled.paid); letter = None }) refl refl (omega arith) place

ends-kept : (R : Register → Register → Type 0) (IsPlace : ℕ → ℕ → Type 0) → IsKept R IsPlace → (book : Book) (sheet : Sheet) (day : Day) (keys : List PositionKey) → All (λ key. IsPlace key.account key.class) keys → R day.register (fold (day_after_letter_end book sheet) day keys).register
ends-kept R IsPlace kept book sheet day [] places = kept.same day.register
ends-kept R IsPlace kept book sheet day (key ∷ keys) places =
    let P = λ (k : PositionKey). IsPlace k.account k.class in
    let after = day_after_letter_end book sheet day key in
    kept.next day.register after.register (fold (day_after_letter_end book sheet) after keys).register
    (ended-kept R IsPlace kept book sheet day key.account key.class (All-head P key keys places) (position_of day.register key.account key.class).letter)
    (ends-kept R IsPlace kept book sheet after keys (All-tail P key keys places))

pub ends-owned : (known : Known) (household : ℕ) (book : Book) (sheet : Sheet) (day : Day) → AreOwned known household day.register → AreOwned known household (day_after_letter_ends book sheet day).register
ends-owned known household book sheet day owned =
    ends-kept (StaysOwned known household) (IsOwnPlace known household) (owned-stay known household) book sheet day (keys_of_letters_over sheet day.register)
    (All-map (λ key. IsOwnPlace known household key.account key.class) key_of (filter (has_letter_over sheet) day.register)
    (All-filter (has_letter_over sheet) (λ position. IsOwnPlace known household position.account position.class) day.register owned)) owned

-- so a bound on lot numbers at the end of a sheet is one behind its dividends
pub numbers-after_dividends : (known : Known) (orders : List Order) (day : Day) → AreNumbersWithin (orders_known known orders (day_after_letter_ends (book_of_facts known) (sheet_at_hand known) day)).register → AreNumbersWithin day.register
numbers-after_dividends known orders day within =
    let ended = day_after_letter_ends (book_of_facts known) (sheet_at_hand known) day in
    let grows = ends-kept Grows Anywhere lots-grow (book_of_facts known) (sheet_at_hand known) day (keys_of_letters_over (sheet_at_hand known) day.register) (λ k d short. tt) in
    let more = orders-kept Grows Anywhere lots-grow known orders ended (λ k d short i e in'. tt) in
    numbers-before day.register (orders_known known orders ended).register (grows-on day.register ended.register (orders_known known orders ended).register grows more) within

-- ---- a whole sheet, phase by phase

pub step-parts : (known : Known) (orders : List Order) (register : Register) → step_known known orders register ≡ orders_known known orders (day_after_letter_ends (book_of_facts known) (sheet_at_hand known) (day_after_dividends (book_of_facts known) (sheet_at_hand known) (first_of register)))
unfolding day_step
step-parts known orders register =
    rows-as (day_after_letter_ends (book_of_facts known) (sheet_at_hand known) (day_after_dividends (book_of_facts known) (sheet_at_hand known) (first_of register))) orders
  where
    rows-as : (day : Day) (os : List Order) → day_after_orders (book_of_facts known) (sheet_at_hand known) (map row_of os) day ≡ orders_known known os day
    rows-as day [] = refl
    rows-as day (o ∷ os) = rows-as (order_known known day o) os
