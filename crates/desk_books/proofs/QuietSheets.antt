-- A sheet that is quiet for a household by the book is quiet by facts that serve the book: whom a step takes, the sheet reaches.
use Rattle.std.proofs.Common.{Bool, List, Some, [], ap, arith, cond, eqb-true, false, find, length, not, option_map, refl, subst, sym, true, true≢false, unwrap_or, ℕ, ◌&&◌, ◌*◌, ◌-◌, ◌==◌, ◌||◌, ◌∙◌, ◌∷◌, ◌≡◌}
use Rattle.std.proofs.lemmas.Bool.{and_from, and_parts, or_parts}
use Rattle.std.specs.List.{list_any}
use Rattle.agent_events.specs.declared.order.Order.{Order}
use Rattle.agent_events.specs.declared.order.OrderRow.{OrderRow}
use Rattle.dividend_reinvest.specs.Dividend.{cash_of, mils_of as mils_bought, payment_of_cash}
use Rattle.dividend_reinvest.specs.declared.payment.Payment.{Payment}
use Rattle.dividend_reinvest.specs.declared.payment.Payment.TheVariants as pays
use Rattle.forward_price.specs.Sheets.{lists_class, nav_on}
use Rattle.forward_price.specs.declared.price_sheet.Sheet.{Sheet}
use Rattle.household_fold.specs.Facts.{Known, book_of_facts, sheet_at_hand}
use Rattle.household_fold.specs.Households.{orders_of}
use Rattle.household_fold.specs.Quiet.{is_paid, is_payment, is_quiet_for, payment_of}
use Rattle.money_units.proofs.RoundingFacts.{half-zero}
use Rattle.money_units.specs.Rounding.{half}
use Rattle.register_laws.proofs.Comparisons.{eq-yes}
use Rattle.register_laws.proofs.Tests.{is-false, late-true}
use Rattle.register_laws.specs.AlikeBooks.{BooksAlike}
use Rattle.register_laws.specs.HouseholdSheets.{IsQuiet, is_paid_in, is_paid_on, pays_something}
use Rattle.register_machine.specs.pricing.CorrectedBook.{Book}
use Rattle.register_machine.specs.pricing.DividendRates.{rate_at}
use Rattle.register_machine.specs.replay.Dividend.{payment_on}
use Rattle.register_machine.specs.replay.Letter.{has_letter_over}
use Rattle.register_machine.specs.replay.Positions.{Position, Register, mils_of}
use Rattle.register_machine.specs.replay.Trades.{nav_of}
use Rattle.share_lots.specs.Lots.{cost_total, most_cost, most_mils}

-- ---- a payment by the facts is one by the book

payments-alike : (payment : Payment) → pays_something payment ≡ is_payment payment
payments-alike pays.Nothing = refl
payments-alike (pays.Cash cash) = refl
payments-alike (pays.Shares cash mils) = refl

-- no rate pays nothing
no-rate : (nav : ℕ) (position : Position) → is_payment (payment_on 0 nav position) ≡ false
no-rate nav position =
    let mils = mils_of position.holding in
    let zeros : mils * 0 ≡ 0 = omega arith in
    let none : cash_of mils 0 ≡ 0 = ap (λ n. half n 10000000) zeros ∙ half-zero 10000000 (omega arith) in
    ap (λ cash. is_payment (cond (cash == 0) pays.Nothing (payment_of_cash position.in_cash cash (mils_bought cash nav) (most_mils - mils) (most_cost - cost_total position.holding)))) none

has-rate : (rate nav : ℕ) (position : Position) → is_payment (payment_on rate nav position) ≡ true → not (rate == 0) ≡ true
has-rate rate nav position pays = by (rate == 0) refl
  where
    by : (b : Bool) → (rate == 0) ≡ b → not b ≡ true
    by false is = refl
    by true is = absurd (true≢false (sym pays ∙ (ap (λ r. is_payment (payment_on r nav position)) (eqb-true rate 0 is) ∙ no-rate nav position)))

-- a class that is listed is so with its net asset value
listed-at : (prices : List (ℕ × ℕ)) (class : ℕ) (test : ℕ × ℕ → Bool) → lists_class prices class ≡ true → ((price : ℕ × ℕ) → price.0 ≡ class → price.1 ≡ unwrap_or (nav_on prices class) 0 → test price ≡ true) → list_any test prices ≡ true
listed-at [] class test lists passes = absurd (true≢false (sym lists))
listed-at (price ∷ prices) class test lists passes = by (price.0 == class) refl lists passes (listed-at prices class test)
  where
    by : (b : Bool) → (price.0 == class) ≡ b → (b || lists_class prices class) ≡ true → ((other : ℕ × ℕ) → other.0 ≡ class → other.1 ≡ unwrap_or (option_map (λ (p : ℕ × ℕ). p.1) (cond b (Some price) (find (λ (p : ℕ × ℕ). p.0 == class) prices))) 0 → test other ≡ true) → (lists_class prices class ≡ true → ((other : ℕ × ℕ) → other.0 ≡ class → other.1 ≡ unwrap_or (nav_on prices class) 0 → test other ≡ true) → list_any test prices ≡ true) → (test price || list_any test prices) ≡ true
    by true is lists passes later = ap (λ b. b || list_any test prices) (passes price (eqb-true price.0 class is) refl)
    by false is lists passes later = ap (λ b. test price || b) (later lists passes) ∙ late-true (test price)

paid-by-book : (known : Known) (book : Book) → BooksAlike (book_of_facts known) book → (position : Position) → is_paid known position ≡ true → is_paid_on book (sheet_at_hand known) position ≡ true
paid-by-book known book alike position payment_of_cash =
    listed-at sheet.prices position.class (is_paid_in book sheet position) both.0
    (λ price class nav. and_from (position.class == price.0) (not (rate_at book.rates price.0 sheet.moment == 0) && pays_something (payment_on (rate_at book.rates price.0 sheet.moment) price.1 position))
    (eq-yes position.class price.0 (sym class))
    (subst (λ c. (not (rate_at book.rates c sheet.moment == 0) && pays_something (payment_on (rate_at book.rates c sheet.moment) price.1 position)) ≡ true) (sym class)
    (subst (λ n. (not (rate_at book.rates position.class sheet.moment == 0) && pays_something (payment_on (rate_at book.rates position.class sheet.moment) n position)) ≡ true) (sym nav)
    (subst (λ r. (not (r == 0) && pays_something (payment_on r (nav_of sheet position.class) position)) ≡ true) (alike.rate position.class sheet.moment)
    (and_from (not (rate == 0)) (pays_something (payment_on rate (nav_of sheet position.class) position))
    (has-rate rate (nav_of sheet position.class) position both.1)
    (payments-alike (payment_on rate (nav_of sheet position.class) position) ∙ both.1))))))
  where
    sheet : Sheet
    sheet = sheet_at_hand known

    rate : ℕ
    rate = rate_at (book_of_facts known).rates position.class sheet.moment

    both : (lists_class sheet.prices position.class ≡ true) × (is_payment (payment_of known position.class position) ≡ true)
    both = and_parts (lists_class sheet.prices position.class) (is_payment (payment_of known position.class position)) payment_of_cash

-- ---- quiet by the book, quiet by the facts

none-weaker : (test other : Position → Bool) (register : Register) → ((position : Position) → test position ≡ true → other position ≡ true) → list_any other register ≡ false → list_any test register ≡ false
none-weaker test other [] weaker none = refl
none-weaker test other (position ∷ register) weaker none =
    let parts = or_parts (other position) (list_any other register) none in
    ap (λ b. b || list_any test register) (is-false (test position) (λ passes. true≢false (sym (weaker position passes) ∙ parts.0)))
    ∙ none-weaker test other register weaker parts.1

quiet-by-facts : (known : Known) (book : Book) (rows : List OrderRow) (register : Register) → BooksAlike (book_of_facts known) book → IsQuiet book (sheet_at_hand known) rows register → is_quiet_for known (orders_of rows) register ≡ true
quiet-by-facts known book rows register alike quiet =
    and_from (length (orders_of rows) == 0) (not (list_any (is_paid known) register) && not (list_any (has_letter_over (sheet_at_hand known)) register))
    (ap (λ (orders : List OrderRow). length (orders_of orders) == 0) quiet.0)
    (and_from (not (list_any (is_paid known) register)) (not (list_any (has_letter_over (sheet_at_hand known)) register))
    (ap not (none-weaker (is_paid known) (is_paid_on book (sheet_at_hand known)) register (paid-by-book known book alike) quiet.1))
    (ap not quiet.2))

-- a household that isn't left alone by the facts isn't by the book
pub reached-by-book : (known : Known) (book : Book) (sheet : Sheet) (rows : List OrderRow) (orders : List Order) (register : Register) → BooksAlike (book_of_facts known) book → sheet_at_hand known ≡ sheet → orders ≡ orders_of rows → is_quiet_for known orders register ≡ false → IsQuiet book sheet rows register → ⊥
reached-by-book known book sheet rows orders register alike at_hand same fails quiet =
    true≢false
    (sym (quiet-by-facts known book rows register alike (subst (λ (s : Sheet). IsQuiet book s rows register) (sym at_hand) quiet))
    ∙ (ap (λ (os : List Order). is_quiet_for known os register) (sym same) ∙ fails))
