-- Each kind of event is exact: its fields in their order, and the value that is made of them.
use Rattle.std.proofs.Common.{◌≡◌, ℕ, ◌<◌, Bool, true, false, eqb, List, ◌∷◌, ◌++◌, Option, Some, refl, sym, ap, subst, ◌∙◌, arith}
use Rattle.std.proofs.lemmas.Bool.{eqb-true}
use Rattle.agent_events.specs.declared.event.EventKind.{EventKind}
use Rattle.agent_events.specs.declared.event.Source.{Source}
use Rattle.agent_events.specs.declared.order.Body.{Body}
use Rattle.agent_events.specs.Fields.{are_floors, is_rising, are_holidays}
use Rattle.event_rows.specs.Exact.{IsBytes, IsField}
use Rattle.event_rows.specs.Ranges.{IsIdentifier, IsAmount, IsQuantity}
use Rattle.event_rows.specs.FieldReading.{◌&◌, map_read}
use Rattle.event_rows.specs.Readers.{identifier_at, amount_at, quantity_at, flag_at}
use Rattle.event_rows.specs.Spelling.{two_bytes, four_bytes, eight_bytes, flag, list_bytes}
use Rattle.event_rows.proofs.Fields.{both, shaped, tested, tagged, chosen, map_some}
use Rattle.event_rows.proofs.EachField.{respelled, four_field, eight_field, flag_field, identifier_field, identifier_or_none_field, reference_field, moment_field, day_field, amount_field, minimum_field, nav_field, quantity_field, dividend_rate_field, corrected_rate_field, time_of_day_field, window_field, rate_field, name_field, zone_field, household_key_field, dealer_key_field, bearer_field, listed_field}
use Rattle.event_rows.specs.InForm.{IsBody, AreHolidays, IsBracket, has_front_rows, has_deferred_rates, AreBrackets, AreRates, IsListedPrice, ArePrices, IsCalendar, IsClose, IsClass, IsDealer, IsHousehold, IsAccount, IsPlaced, IsCancel, IsSheet, IsDividend, IsFixPrice, IsFixRate, IsEntry, IsVoid, IsKind}
use Rattle.event_rows.specs.Rows.{body, is_dealers, bracket, price, calendar, close, class_loads, class, dealer, household, account, accepted_order, cancel, sheet, dividend, fix_price, fix_rate, entry, void, kind_number, fields}
use Rattle.event_rows.specs.Reading.{buy_of, sell_of, sell_cash_of, exchange_of, exchange_all_of, letter_of, elect_of, body_behind, body_at, source_of, source_at, holidays_at, bracket_of, bracket_at, front_at, deferred_at, price_at, prices_at, calendar_of, calendar_at, close_of, close_at, class_of, class_at, dealer_of, dealer_at, household_of, household_at, account_of, account_at, placed_of, placed_at, cancel_of, cancel_at, sheet_of, sheet_at, dividend_of, dividend_at, fix_price_of, fix_price_at, fix_rate_of, fix_rate_at, entry_of, entry_at, void_of, void_at, fields_at}

-- ---- the lists

holidays_field : IsField (list_bytes four_bytes) AreHolidays holidays_at
unfolding holidays_at
holidays_field = tested are_holidays (listed_field day_field)

bracket_field : IsField bracket IsBracket bracket_at
unfolding bracket_at
bracket_field = shaped bracket_of (λ row. (row.floor, row.rate)) (λ row fits. refl) (λ x fits. refl) (both eight_field rate_field)

front_field : IsField (list_bytes bracket) AreBrackets front_at
unfolding front_at
front_field = tested are_floors (tested has_front_rows (listed_field bracket_field))

deferred_field : IsField (list_bytes two_bytes) AreRates deferred_at
unfolding deferred_at
deferred_field = tested has_deferred_rates (listed_field rate_field)

price_field : IsField price IsListedPrice price_at
unfolding price_at
price_field = both four_field nav_field

prices_field : IsField (list_bytes price) ArePrices prices_at
unfolding prices_at
prices_field = tested is_rising (listed_field price_field)

-- ---- where a receipt comes from

source_back : (source : Source) → source_of (is_dealers source) ≡ source
source_back Source.Direct = refl
source_back Source.Dealer = refl

source_forth : (answer : Bool) → is_dealers (source_of answer) ≡ answer
source_forth true = refl
source_forth false = refl

source_field : IsField (λ source. flag (is_dealers source)) (λ source. Unit {0}) source_at
unfolding source_at
source_field = shaped source_of is_dealers (λ source fits. source_back source) (λ answer fits. source_forth answer) flag_field

-- ---- what an order does

body_tag : Body → ℕ
body_tag (Body.Buy class gross) = 1
body_tag (Body.Sell class mils) = 2
body_tag (Body.SellCash class amount) = 3
body_tag (Body.SellAll class) = 4
body_tag (Body.Exchange class to mils) = 5
body_tag (Body.ExchangeAll class to) = 6
body_tag (Body.Letter class amount) = 7
body_tag (Body.Elect class in_cash) = 8

body_rest : Body → List ℕ
body_rest (Body.Buy class gross) = four_bytes class ++ eight_bytes gross
body_rest (Body.Sell class mils) = four_bytes class ++ eight_bytes mils
body_rest (Body.SellCash class amount) = four_bytes class ++ eight_bytes amount
body_rest (Body.SellAll class) = four_bytes class
body_rest (Body.Exchange class to mils) = four_bytes class ++ (four_bytes to ++ eight_bytes mils)
body_rest (Body.ExchangeAll class to) = four_bytes class ++ four_bytes to
body_rest (Body.Letter class amount) = four_bytes class ++ eight_bytes amount
body_rest (Body.Elect class in_cash) = four_bytes class ++ flag in_cash

body_words : (x : Body) → body_tag x ∷ body_rest x ≡ body x
unfolding body body_tag body_rest
body_words (Body.Buy class gross) = refl
body_words (Body.Sell class mils) = refl
body_words (Body.SellCash class amount) = refl
body_words (Body.SellAll class) = refl
body_words (Body.Exchange class to mils) = refl
body_words (Body.ExchangeAll class to) = refl
body_words (Body.Letter class amount) = refl
body_words (Body.Elect class in_cash) = refl

body_small : (x : Body) → IsBody x → body_tag x < 256
unfolding body_tag
body_small (Body.Buy class gross) fits = omega arith
body_small (Body.Sell class mils) fits = omega arith
body_small (Body.SellCash class amount) fits = omega arith
body_small (Body.SellAll class) fits = omega arith
body_small (Body.Exchange class to mils) fits = omega arith
body_small (Body.ExchangeAll class to) fits = omega arith
body_small (Body.Letter class amount) fits = omega arith
body_small (Body.Elect class in_cash) fits = omega arith

-- the fields of each body
class_amount : IsField (λ (x : ℕ × ℕ). four_bytes x.0 ++ eight_bytes x.1) (λ (x : ℕ × ℕ). IsIdentifier x.0 × IsAmount x.1) (identifier_at & amount_at)
class_amount = both identifier_field amount_field

class_quantity : IsField (λ (x : ℕ × ℕ). four_bytes x.0 ++ eight_bytes x.1) (λ (x : ℕ × ℕ). IsIdentifier x.0 × IsQuantity x.1) (identifier_at & quantity_at)
class_quantity = both identifier_field quantity_field

two_classes : IsField (λ (x : ℕ × ℕ). four_bytes x.0 ++ four_bytes x.1) (λ (x : ℕ × ℕ). IsIdentifier x.0 × IsIdentifier x.1) (identifier_at & identifier_at)
two_classes = both identifier_field identifier_field

classes_quantity : IsField (λ (x : ℕ × (ℕ × ℕ)). four_bytes x.0 ++ (four_bytes x.1.0 ++ eight_bytes x.1.1)) (λ (x : ℕ × (ℕ × ℕ)). IsIdentifier x.0 × (IsIdentifier x.1.0 × IsQuantity x.1.1)) (identifier_at & identifier_at & quantity_at)
classes_quantity = both identifier_field (both identifier_field quantity_field)

class_flag : IsField (λ (x : ℕ × Bool). four_bytes x.0 ++ flag x.1) (λ (x : ℕ × Bool). IsIdentifier x.0 × Unit {0}) (identifier_at & flag_at)
class_flag = both identifier_field flag_field

-- what a reader gives, by a tag
abbrev pub From : {A : Type 0} → (A → List ℕ) → (A → Type 0) → (A → ℕ) → ℕ → List ℕ → A → List ℕ → Type 0
From rest_of fits tag n bytes x rest = (bytes ≡ rest_of x ++ rest) × fits x × (tag x ≡ n)

-- one line of a table of readers
line : {A B : Type 0} {s : A → List ℕ} {f : A → Type 0} {r : List ℕ → Option (A × List ℕ)} (rest_of : B → List ℕ) (fits_of : B → Type 0) (tag : B → ℕ) (n k : ℕ) (make : A → B)
    → IsField s f r → ((a : A) → rest_of (make a) ≡ s a) → ((a : A) → f a → fits_of (make a)) → ((a : A) → tag (make a) ≡ k)
    → (bytes : List ℕ) (x : B) (rest : List ℕ) → IsBytes bytes → eqb n k ≡ true → map_read make r bytes ≡ Some (x, rest) → From rest_of fits_of tag n bytes x rest
line {A = A} {B = B} {s = s} {r = r} rest_of fits_of tag n k make field spells suits tags bytes x rest fits is found =
    let a = map_some (r bytes) (λ (y : A × List ℕ). (make y.0, y.1)) (x, rest) found in
    let one = field.takes bytes a.0.0 a.0.1 fits a.1 in
    subst (λ (y : B × List ℕ). (bytes ≡ rest_of y.0 ++ y.1) × fits_of y.0 × (tag y.0 ≡ n)) a.2
    (one.0 ∙ ap (λ (y : List ℕ). y ++ a.0.1) (sym (spells a.0.0)), suits a.0.0 one.1, tags a.0.0 ∙ sym (eqb-true n k is))

body_takes : (n : ℕ) (bytes : List ℕ) (x : Body) (rest : List ℕ) → IsBytes bytes → body_behind n bytes ≡ Some (x, rest) → From body_rest IsBody body_tag n bytes x rest
unfolding body_tag body_rest
body_takes n bytes x rest fits e =
    chosen (eqb n 1) _ _ (x, rest) (From body_rest IsBody body_tag n bytes x rest) e (line body_rest IsBody body_tag n 1 buy_of class_amount (λ a. refl) (λ a h. h) (λ a. refl) bytes x rest fits) (λ e.
    chosen (eqb n 2) _ _ (x, rest) (From body_rest IsBody body_tag n bytes x rest) e (line body_rest IsBody body_tag n 2 sell_of class_quantity (λ a. refl) (λ a h. h) (λ a. refl) bytes x rest fits) (λ e.
    chosen (eqb n 3) _ _ (x, rest) (From body_rest IsBody body_tag n bytes x rest) e (line body_rest IsBody body_tag n 3 sell_cash_of class_amount (λ a. refl) (λ a h. h) (λ a. refl) bytes x rest fits) (λ e.
    chosen (eqb n 4) _ _ (x, rest) (From body_rest IsBody body_tag n bytes x rest) e (line body_rest IsBody body_tag n 4 (λ class. Body.SellAll class) identifier_field (λ a. refl) (λ a h. h) (λ a. refl) bytes x rest fits) (λ e.
    chosen (eqb n 5) _ _ (x, rest) (From body_rest IsBody body_tag n bytes x rest) e (line body_rest IsBody body_tag n 5 exchange_of classes_quantity (λ a. refl) (λ a h. h) (λ a. refl) bytes x rest fits) (λ e.
    chosen (eqb n 6) _ _ (x, rest) (From body_rest IsBody body_tag n bytes x rest) e (line body_rest IsBody body_tag n 6 exchange_all_of two_classes (λ a. refl) (λ a h. h) (λ a. refl) bytes x rest fits) (λ e.
    chosen (eqb n 7) _ _ (x, rest) (From body_rest IsBody body_tag n bytes x rest) e (line body_rest IsBody body_tag n 7 letter_of class_amount (λ a. refl) (λ a h. h) (λ a. refl) bytes x rest fits) (λ e.
    chosen (eqb n 8) _ _ (x, rest) (From body_rest IsBody body_tag n bytes x rest) e (line body_rest IsBody body_tag n 8 elect_of class_flag (λ a. refl) (λ a h. h) (λ a. refl) bytes x rest fits) (λ e.
    absurd cc))))))))

body_again : (x : Body) (rest : List ℕ) → IsBody x → body_behind (body_tag x) (body_rest x ++ rest) ≡ Some (x, rest)
unfolding body_tag body_rest
body_again (Body.Buy class gross) rest fits = rw (class_amount.again (class, gross) rest fits) refl
body_again (Body.Sell class mils) rest fits = rw (class_quantity.again (class, mils) rest fits) refl
body_again (Body.SellCash class amount) rest fits = rw (class_amount.again (class, amount) rest fits) refl
body_again (Body.SellAll class) rest fits = rw (identifier_field.again class rest fits) refl
body_again (Body.Exchange class to mils) rest fits = rw (classes_quantity.again (class, (to, mils)) rest fits) refl
body_again (Body.ExchangeAll class to) rest fits = rw (two_classes.again (class, to) rest fits) refl
body_again (Body.Letter class amount) rest fits = rw (class_amount.again (class, amount) rest fits) refl
body_again (Body.Elect class in_cash) rest fits = rw (class_flag.again (class, in_cash) rest fits) refl

body_field : IsField body IsBody body_at
unfolding body_at
body_field = respelled body_words (tagged body_tag body_rest IsBody body_behind body_small body_takes body_again)

-- ---- the kinds

calendar_field : IsField calendar IsCalendar calendar_at
unfolding calendar calendar_at
calendar_field = shaped calendar_of (λ form. (form.calendar, (form.zone, (form.minute, (form.first, (form.last, form.holidays)))))) (λ form fits. refl) (λ x fits. refl) (both identifier_field (both zone_field (both time_of_day_field (both day_field (both day_field holidays_field)))))

close_field : IsField close IsClose close_at
unfolding close close_at
close_field = shaped close_of (λ form. (form.calendar, form.day)) (λ form fits. refl) (λ x fits. refl) (both identifier_field day_field)

class_field : IsField class IsClass class_at
unfolding class class_at class_loads
class_field = shaped class_of (λ form. (form.class, (form.calendar, (form.fund, (form.name, (form.family, (form.counts, (form.first_min, (form.later_min, (form.front, form.deferred)))))))))) (λ form fits. refl) (λ x fits. refl) (both identifier_field (both identifier_field (both identifier_field (both name_field (both identifier_or_none_field (both flag_field (both minimum_field (both minimum_field (both front_field deferred_field)))))))))

dealer_field : IsField dealer IsDealer dealer_at
unfolding dealer dealer_at
dealer_field = shaped dealer_of (λ form. (form.dealer, (form.key, form.window))) (λ form fits. refl) (λ x fits. refl) (both identifier_field (both dealer_key_field window_field))

household_field : IsField household IsHousehold household_at
unfolding household household_at
household_field = shaped household_of (λ form. (form.household, form.key)) (λ form fits. refl) (λ x fits. refl) (both identifier_field household_key_field)

account_field : IsField account IsAccount account_at
unfolding account account_at
account_field = shaped account_of (λ form. (form.account, (form.household, (form.dealer, form.name)))) (λ form fits. refl) (λ x fits. refl) (both identifier_field (both identifier_field (both identifier_or_none_field name_field)))

placed_field : IsField accepted_order IsPlaced placed_at
unfolding accepted_order placed_at
placed_field = shaped placed_of (λ form. (form.order.account, (form.order.ref_no, (form.source, (form.receipt, (form.due, form.order.body)))))) (λ form fits. refl) (λ x fits. refl) (both identifier_field (both reference_field (both source_field (both moment_field (both moment_field body_field)))))

cancel_field : IsField cancel IsCancel cancel_at
unfolding cancel cancel_at
cancel_field = shaped cancel_of (λ form. (form.account, (form.ref_no, form.target))) (λ form fits. refl) (λ x fits. refl) (both identifier_field (both reference_field reference_field))

sheet_field : IsField sheet IsSheet sheet_at
unfolding sheet sheet_at
sheet_field = shaped sheet_of (λ form. (form.calendar, (form.moment, form.prices))) (λ form fits. refl) (λ x fits. refl) (both identifier_field (both moment_field prices_field))

dividend_field : IsField dividend IsDividend dividend_at
unfolding dividend dividend_at
dividend_field = shaped dividend_of (λ form. (form.class, (form.moment, form.rate))) (λ form fits. refl) (λ x fits. refl) (both identifier_field (both moment_field dividend_rate_field))

fix_price_field : IsField fix_price IsFixPrice fix_price_at
unfolding fix_price fix_price_at
fix_price_field = shaped fix_price_of (λ form. (form.fix, (form.bearer, (form.class, (form.moment, form.nav))))) (λ form fits. refl) (λ x fits. refl) (both reference_field (both bearer_field (both identifier_field (both moment_field nav_field))))

fix_rate_field : IsField fix_rate IsFixRate fix_rate_at
unfolding fix_rate fix_rate_at
fix_rate_field = shaped fix_rate_of (λ form. (form.fix, (form.bearer, (form.class, (form.moment, form.rate))))) (λ form fits. refl) (λ x fits. refl) (both reference_field (both bearer_field (both identifier_field (both moment_field corrected_rate_field))))

entry_field : IsField entry IsEntry entry_at
unfolding entry entry_at
entry_field = shaped entry_of (λ form. (form.fix, (form.bearer, (form.order.account, (form.order.ref_no, (form.receipt, form.order.body)))))) (λ form fits. refl) (λ x fits. refl) (both reference_field (both bearer_field (both identifier_field (both reference_field (both moment_field body_field)))))

void_field : IsField void IsVoid void_at
unfolding void void_at
void_field = shaped void_of (λ form. (form.fix, (form.bearer, (form.account, form.ref_no)))) (λ form fits. refl) (λ x fits. refl) (both reference_field (both bearer_field (both identifier_field reference_field)))

pub kind_small : (x : EventKind) → IsKind x → kind_number x < 256
kind_small (EventKind.Calendar form) fits = omega arith
kind_small (EventKind.Close form) fits = omega arith
kind_small (EventKind.Class form) fits = omega arith
kind_small (EventKind.Dealer form) fits = omega arith
kind_small (EventKind.Household form) fits = omega arith
kind_small (EventKind.Account form) fits = omega arith
kind_small (EventKind.Order form) fits = omega arith
kind_small (EventKind.Cancel form) fits = omega arith
kind_small (EventKind.Sheet form) fits = omega arith
kind_small (EventKind.Dividend form) fits = omega arith
kind_small (EventKind.FixPrice form) fits = omega arith
kind_small (EventKind.FixRate form) fits = omega arith
kind_small (EventKind.Enter form) fits = omega arith
kind_small (EventKind.Replace form) fits = omega arith
kind_small (EventKind.Void form) fits = omega arith

pub kind_takes : (n : ℕ) (bytes : List ℕ) (x : EventKind) (rest : List ℕ) → IsBytes bytes → fields_at n bytes ≡ Some (x, rest) → From fields IsKind kind_number n bytes x rest
unfolding fields_at
kind_takes n bytes x rest fits e =
    chosen (eqb n 1) _ _ (x, rest) (From fields IsKind kind_number n bytes x rest) e (line fields IsKind kind_number n 1 (λ form. EventKind.Calendar form) calendar_field (λ a. refl) (λ a h. h) (λ a. refl) bytes x rest fits) (λ e.
    chosen (eqb n 2) _ _ (x, rest) (From fields IsKind kind_number n bytes x rest) e (line fields IsKind kind_number n 2 (λ form. EventKind.Close form) close_field (λ a. refl) (λ a h. h) (λ a. refl) bytes x rest fits) (λ e.
    chosen (eqb n 3) _ _ (x, rest) (From fields IsKind kind_number n bytes x rest) e (line fields IsKind kind_number n 3 (λ form. EventKind.Class form) class_field (λ a. refl) (λ a h. h) (λ a. refl) bytes x rest fits) (λ e.
    chosen (eqb n 4) _ _ (x, rest) (From fields IsKind kind_number n bytes x rest) e (line fields IsKind kind_number n 4 (λ form. EventKind.Dealer form) dealer_field (λ a. refl) (λ a h. h) (λ a. refl) bytes x rest fits) (λ e.
    chosen (eqb n 5) _ _ (x, rest) (From fields IsKind kind_number n bytes x rest) e (line fields IsKind kind_number n 5 (λ form. EventKind.Household form) household_field (λ a. refl) (λ a h. h) (λ a. refl) bytes x rest fits) (λ e.
    chosen (eqb n 6) _ _ (x, rest) (From fields IsKind kind_number n bytes x rest) e (line fields IsKind kind_number n 6 (λ form. EventKind.Account form) account_field (λ a. refl) (λ a h. h) (λ a. refl) bytes x rest fits) (λ e.
    chosen (eqb n 7) _ _ (x, rest) (From fields IsKind kind_number n bytes x rest) e (line fields IsKind kind_number n 7 (λ form. EventKind.Order form) placed_field (λ a. refl) (λ a h. h) (λ a. refl) bytes x rest fits) (λ e.
    chosen (eqb n 8) _ _ (x, rest) (From fields IsKind kind_number n bytes x rest) e (line fields IsKind kind_number n 8 (λ form. EventKind.Cancel form) cancel_field (λ a. refl) (λ a h. h) (λ a. refl) bytes x rest fits) (λ e.
    chosen (eqb n 9) _ _ (x, rest) (From fields IsKind kind_number n bytes x rest) e (line fields IsKind kind_number n 9 (λ form. EventKind.Sheet form) sheet_field (λ a. refl) (λ a h. h) (λ a. refl) bytes x rest fits) (λ e.
    chosen (eqb n 10) _ _ (x, rest) (From fields IsKind kind_number n bytes x rest) e (line fields IsKind kind_number n 10 (λ form. EventKind.Dividend form) dividend_field (λ a. refl) (λ a h. h) (λ a. refl) bytes x rest fits) (λ e.
    chosen (eqb n 11) _ _ (x, rest) (From fields IsKind kind_number n bytes x rest) e (line fields IsKind kind_number n 11 (λ form. EventKind.FixPrice form) fix_price_field (λ a. refl) (λ a h. h) (λ a. refl) bytes x rest fits) (λ e.
    chosen (eqb n 12) _ _ (x, rest) (From fields IsKind kind_number n bytes x rest) e (line fields IsKind kind_number n 12 (λ form. EventKind.FixRate form) fix_rate_field (λ a. refl) (λ a h. h) (λ a. refl) bytes x rest fits) (λ e.
    chosen (eqb n 13) _ _ (x, rest) (From fields IsKind kind_number n bytes x rest) e (line fields IsKind kind_number n 13 (λ form. EventKind.Enter form) entry_field (λ a. refl) (λ a h. h) (λ a. refl) bytes x rest fits) (λ e.
    chosen (eqb n 14) _ _ (x, rest) (From fields IsKind kind_number n bytes x rest) e (line fields IsKind kind_number n 14 (λ form. EventKind.Replace form) entry_field (λ a. refl) (λ a h. h) (λ a. refl) bytes x rest fits) (λ e.
    chosen (eqb n 15) _ _ (x, rest) (From fields IsKind kind_number n bytes x rest) e (line fields IsKind kind_number n 15 (λ form. EventKind.Void form) void_field (λ a. refl) (λ a h. h) (λ a. refl) bytes x rest fits) (λ e.
    absurd cc)))))))))))))))

pub kind_again : (x : EventKind) (rest : List ℕ) → IsKind x → fields_at (kind_number x) (fields x ++ rest) ≡ Some (x, rest)
unfolding fields_at
kind_again (EventKind.Calendar form) rest fits = rw (calendar_field.again form rest fits) refl
kind_again (EventKind.Close form) rest fits = rw (close_field.again form rest fits) refl
kind_again (EventKind.Class form) rest fits = rw (class_field.again form rest fits) refl
kind_again (EventKind.Dealer form) rest fits = rw (dealer_field.again form rest fits) refl
kind_again (EventKind.Household form) rest fits = rw (household_field.again form rest fits) refl
kind_again (EventKind.Account form) rest fits = rw (account_field.again form rest fits) refl
kind_again (EventKind.Order form) rest fits = rw (placed_field.again form rest fits) refl
kind_again (EventKind.Cancel form) rest fits = rw (cancel_field.again form rest fits) refl
kind_again (EventKind.Sheet form) rest fits = rw (sheet_field.again form rest fits) refl
kind_again (EventKind.Dividend form) rest fits = rw (dividend_field.again form rest fits) refl
kind_again (EventKind.FixPrice form) rest fits = rw (fix_price_field.again form rest fits) refl
kind_again (EventKind.FixRate form) rest fits = rw (fix_rate_field.again form rest fits) refl
kind_again (EventKind.Enter form) rest fits = rw (entry_field.again form rest fits) refl
kind_again (EventKind.Replace form) rest fits = rw (entry_field.again form rest fits) refl
kind_again (EventKind.Void form) rest fits = rw (void_field.again form rest fits) refl
