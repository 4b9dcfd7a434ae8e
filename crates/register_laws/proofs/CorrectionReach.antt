-- How far a correction reaches.
use Rattle.std.proofs.Common.{Bool, List, None, Option, Some, [], ap, cond, false, filter, find, arith, fold, get_or, length, map, not, option_and_then, option_map, option_to_list, refl, sym, take, true, ℕ, ◌&&◌, ◌<◌, ◌≤◌, ◌==◌, ◌∙◌, ◌∷◌, ◌≡◌}
use Rattle.std.proofs.lemmas.Bool.{and_from, and_parts, and_right, eqb-true, ltb-true, ne_eqb, or_parts, true≢false}
use Rattle.std.proofs.lemmas.List.{map-id, take-map}
use Rattle.std.proofs.lemmas.List.Elements.{All-weaker}
use Rattle.std.proofs.lemmas.List.Folds.{list_any_at, map_fixed}
use Rattle.std.specs.List.{list_any}
use Rattle.std.specs.Option.{option_map_or}
use Rattle.std.specs.Prelude.{nat_lt}
use Rattle.register_laws.proofs.Choosing.{none_some}
use Rattle.register_laws.proofs.Comparisons.{eq-yes}
use Rattle.agent_events.specs.declared.order.OrderRow.{OrderRow}
use Rattle.agent_events.specs.declared.request.FixPriceForm.{FixPriceForm}
use Rattle.agent_events.specs.declared.request.FixRateForm.{FixRateForm}
use Rattle.forward_price.proofs.PatchFacts.{best-kept}
use Rattle.forward_price.specs.Choices.{best_so_far, found_or_better}
use Rattle.forward_price.specs.PriceTables.{is_before, is_earlier, is_later, price_before, prices_order, sheet_before, with_prices}
use Rattle.forward_price.specs.Sheets.{lists_all, lists_class, nav_on}
use Rattle.forward_price.specs.declared.price_sheet.Sheet.{Sheet}
use Rattle.register_laws.proofs.AlikeDays.{BodyCounts}
use Rattle.register_laws.proofs.ClassesAlike.{SheetReads, TermsAlike, classes-replay, sheet_with}
use Rattle.register_laws.proofs.ListParts.{map-agree}
use Rattle.register_laws.proofs.ReplayedAlone.{replayed_alone}
use Rattle.register_laws.proofs.StepsAlike.{Counts}
use Rattle.register_laws.proofs.TablesAreOrderly.{lists-corrected}
use Rattle.register_laws.proofs.Tests.{last-of-more, not-true}
use Rattle.register_laws.specs.CorrectionReach.{IsBeforePrice, PriceLeavesBefore, RateLeavesBefore, book_with_price, book_with_rate, names_class, LeavesPart}
use Rattle.register_laws.specs.Households.{own_book, part_of}
use Rattle.register_machine.proofs.ListItems.{none-all}
use Rattle.register_machine.specs.journal.Choices.{last_of}
use Rattle.register_machine.specs.pricing.CorrectedBook.{Book, sheet_of}
use Rattle.register_machine.specs.pricing.CorrectedOrders.{stands}
use Rattle.register_machine.specs.pricing.CorrectedPrices.{fixes_price, price_as_corrected, sheet_as_corrected}
use Rattle.register_machine.specs.pricing.DividendRates.{fixes_rate, rate_at, rate_declared}
use Rattle.register_machine.specs.pricing.OrderClasses.{class_of, classes_in, target_of}
use Rattle.register_machine.specs.rules.NamedThings.{lists_at}
use Rattle.register_machine.specs.replay.Replay.{Priced, orders_on, priced_in, priced_orders, replay, replay_over}
use Rattle.agent_events.specs.declared.request.AccountForm.{AccountForm}

-- every class but one
abbrev apart_from : ℕ → ℕ → Bool
apart_from class other = not (other == class)

unless-false : (b : Bool) → b ≡ false → not b ≡ true
unless-false false e = refl
unless-false true e = absurd (true≢false e)

-- an order that doesn't name the class has classes apart from it
body-apart : (class : ℕ) (row : OrderRow) → names_class class row ≡ false → BodyCounts (Counts (apart_from class)) row.order.body
body-apart class row e =
    let parts = or_parts (class_of row.order.body == class) (list_any (λ own. own == class) (option_to_list (target_of row.order.body))) e in
    record { own = unless-false (class_of row.order.body == class) parts.0; target = λ to is. unless-false (to == class) (by_target (target_of row.order.body) to is parts.1) }
  where
    by_target : (found : Option ℕ) (to : ℕ) → found ≡ Some to → list_any (λ own. own == class) (option_to_list found) ≡ false → (to == class) ≡ false
    by_target None to is none = absurd (none_some is)
    by_target (Some other) to is none =
        let same : other ≡ to = cc in
        ap (λ n. n == class) (sym same) ∙ (or_parts (other == class) false none).0

-- ---- the part of a household

-- another book of the same accounts leaves it where the household's own books replay alike, each over its sheets
pub leaves-part : (book other : Book) (household : ℕ) (corrected : List Sheet → List Sheet) → other.accounts ≡ book.accounts → other.table.sheets ≡ corrected book.table.sheets → ((number : ℕ) → take number (corrected book.table.sheets) ≡ corrected (take number book.table.sheets)) → ((sheets : List Sheet) → replay_over (own_book household book) sheets ≡ replay_over (own_book household other) (corrected sheets)) → LeavesPart book other household
unfolding replay
leaves-part book other household corrected accounts listed front alike =
    let over : (sheets : List Sheet) → part_of book.accounts household (replay_over other (corrected sheets)) ≡ part_of book.accounts household (replay_over book sheets) = λ sheets.
    ap (λ (own : List AccountForm). part_of own household (replay_over other (corrected sheets))) (sym accounts)
    ∙ (replayed_alone other household (corrected sheets) ∙ (sym (alike sheets) ∙ sym (replayed_alone book household sheets))) in
    record {
      whole = ap (λ sheets. part_of book.accounts household (replay_over other sheets)) listed ∙ over book.table.sheets;
      up_to = λ number.
          ap (λ sheets. part_of book.accounts household (replay_over other sheets)) (ap (take number) listed ∙ front number)
          ∙ over (take number book.table.sheets);
    }

-- ---- a corrected price

-- the price that a sheet has under the correction
abbrev fixed : FixPriceForm → Sheet → ℕ × ℕ → ℕ × ℕ
fixed form sheet price = price_as_corrected (form ∷ []) sheet.moment price

unfixed : (form : FixPriceForm) (moment : ℕ) (price : ℕ × ℕ) → fixes_price price.0 moment form ≡ false → price_as_corrected (form ∷ []) moment price ≡ price
unfixed form moment price e =
    ap (λ b. (price.0, option_map_or (λ (f : FixPriceForm). f.nav) (cond b (Some form) None) price.1)) e

turned : (class other : ℕ) → not (other == class) ≡ true → (class == other) ≡ false
turned class other e =
    elim (class == other) as (λ b. (class == other) ≡ b → b ≡ false) [
      | true ↦ λ t. absurd (true≢false (sym (eq-yes other class (sym (eqb-true class other t))) ∙ not-true (other == class) e))
      | false ↦ λ t. refl
    ] refl

-- what is found by moment and classes is found under the correction, with its price
found-before : (form : FixPriceForm) (sheets : List Sheet) (class : ℕ) (moment : ℕ) → sheet_before (map (sheet_as_corrected (form ∷ [])) sheets) class moment ≡ option_map (sheet_as_corrected (form ∷ [])) (sheet_before sheets class moment)
found-before form sheets class moment =
    best-kept (sheet_as_corrected (form ∷ [])) (is_before class moment) is_later
    (λ sheet. ap (λ b. nat_lt sheet.moment moment && b) (lists-corrected (form ∷ []) sheet.moment class sheet.prices)) (λ x y. refl) sheets

lists-all-corrected : (form : FixPriceForm) (moment : ℕ) (prices : List (ℕ × ℕ)) (asked : List ℕ) → lists_all (map (price_as_corrected (form ∷ []) moment) prices) asked ≡ lists_all prices asked
lists-all-corrected form moment prices [] = refl
lists-all-corrected form moment prices (class ∷ asked) =
    ap (λ b. b && lists_all (map (price_as_corrected (form ∷ []) moment) prices) asked) (lists-corrected (form ∷ []) moment class prices)
    ∙ ap (λ b. lists_class prices class && b) (lists-all-corrected form moment prices asked)

found-next : (form : FixPriceForm) (sheets : List Sheet) (row : OrderRow) → sheet_of (map (sheet_as_corrected (form ∷ [])) sheets) row ≡ option_map (sheet_as_corrected (form ∷ [])) (sheet_of sheets row)
found-next form sheets row =
    best-kept (sheet_as_corrected (form ∷ [])) (prices_order (classes_in row.order.body) row.receipt) is_earlier
    (λ sheet. ap (λ b. nat_lt row.receipt sheet.moment && b) (lists-all-corrected form sheet.moment sheet.prices (classes_in row.order.body))) (λ x y. refl) sheets

-- so each order has the sheet that it had
pub price-orders : (form : FixPriceForm) (book : Book) → priced_orders (book_with_price form book) ≡ priced_orders book
price-orders form book =
    map-agree (priced_in (map (sheet_as_corrected (form ∷ [])) book.table.sheets)) (priced_in book.table.sheets)
    (λ row. ap (λ n. priced-as row n) (ap (option_map (λ (sheet : Sheet). sheet.number)) (found-next form book.table.sheets row) ∙ numbers (sheet_of book.table.sheets row))) (filter stands book.orders)
  where
    priced-as : OrderRow → Option ℕ → Priced
    priced-as row sheet = record { row = row; sheet = sheet }

    numbers : (found : Option Sheet) → option_map (λ (sheet : Sheet). sheet.number) (option_map (sheet_as_corrected (form ∷ [])) found) ≡ option_map (λ (sheet : Sheet). sheet.number) found
    numbers None = refl
    numbers (Some sheet) = refl

-- the net asset value of another class
nav-apart : (form : FixPriceForm) (moment : ℕ) (class : ℕ) → (form.class == class) ≡ false → (prices : List (ℕ × ℕ)) → nav_on (map (price_as_corrected (form ∷ []) moment) prices) class ≡ nav_on prices class
nav-apart form moment class off [] = refl
nav-apart form moment class off (price ∷ prices) =
    elim (price.0 == class) as (λ b. (price.0 == class) ≡ b → option_map (λ (p : ℕ × ℕ). p.1) (cond b (Some (price_as_corrected (form ∷ []) moment price)) (find (λ (p : ℕ × ℕ). p.0 == class) (map (price_as_corrected (form ∷ []) moment) prices))) ≡ option_map (λ (p : ℕ × ℕ). p.1) (cond b (Some price) (find (λ (p : ℕ × ℕ). p.0 == class) prices))) [
      | true ↦ λ t.
          let apart = ap (λ n. form.class == n) (eqb-true price.0 class t) ∙ off in
          ap (λ (p : ℕ × ℕ). Some p.1) (unfixed form moment price (ap (λ b. b && form.moment == moment) apart))
      | false ↦ λ t. nav-apart form moment class off prices
    ] refl

price-before-apart : (form : FixPriceForm) (sheets : List Sheet) (class : ℕ) (moment : ℕ) → (form.class == class) ≡ false → price_before (map (sheet_as_corrected (form ∷ [])) sheets) class moment ≡ price_before sheets class moment
price-before-apart form sheets class moment off =
    ap (λ found. option_and_then (λ (sheet : Sheet). nav_on sheet.prices class) found) (found-before form sheets class moment) ∙ by (sheet_before sheets class moment)
  where
    by : (found : Option Sheet) → option_and_then (λ (sheet : Sheet). nav_on sheet.prices class) (option_map (sheet_as_corrected (form ∷ [])) found) ≡ option_and_then (λ (sheet : Sheet). nav_on sheet.prices class) found
    by None = refl
    by (Some sheet) = nav-apart form sheet.moment class off sheet.prices

terms-price : (form : FixPriceForm) (book : Book) → TermsAlike book (book_with_price form book)
terms-price form book = record { front = λ class. refl; schedule = λ class. refl; counted = λ class. refl; household = λ account. refl }

-- a book that names the class nowhere
pub price-replay : (form : FixPriceForm) (book : Book) → list_any (names_class form.class) (filter stands book.orders) ≡ false → (sheets : List Sheet) → replay_over book sheets ≡ replay_over (book_with_price form book) (map (sheet_as_corrected (form ∷ [])) sheets)
price-replay form book nowhere sheets =
    classes-replay book (book_with_price form book) (apart_from form.class) (terms-price form book) (fixed form) (λ sheet price. refl)
    (All-weaker (λ (row : OrderRow). names_class form.class row ≡ false) (λ (row : OrderRow). BodyCounts (Counts (apart_from form.class)) row.order.body) (body-apart form.class) (filter stands book.orders) (none-all (names_class form.class) (filter stands book.orders) nowhere))
    sheets (λ k d short. reads (get_or sheets k d))
  where
    reads : (sheet : Sheet) → SheetReads book (book_with_price form book) (apart_from form.class) (fixed form) sheet
    reads sheet = record {
      before = λ class on. sym (price-before-apart form book.table.sheets class sheet.moment (turned form.class class on));
      prices = λ k d short. record {
        same = λ on. unfixed form sheet.moment (get_or sheet.prices k d) (ap (λ b. b && form.moment == sheet.moment) (turned form.class (get_or sheet.prices k d).0 on));
        rate = λ on. refl;
      };
      orders = ap (λ priced. orders_on priced sheet) (price-orders form book);
    }

-- ---- a corrected rate

rate-apart : (form : FixRateForm) (book : Book) (class moment : ℕ) → (form.class == class) ≡ false → rate_at book.rates class moment ≡ rate_at (book_with_rate form book).rates class moment
rate-apart form book class moment off =
    sym
    (ap (λ found. option_map_or (λ (f : FixRateForm). f.rate) found (rate_declared book.rates class moment))
    (last-of-more (fixes_rate class moment) book.rates.fixed form ∙ ap (λ b. cond (b && form.moment == moment) (Some form) (last_of (fixes_rate class moment) book.rates.fixed)) off))

pub rate-replay : (form : FixRateForm) (book : Book) → list_any (names_class form.class) (filter stands book.orders) ≡ false → (sheets : List Sheet) → replay_over book sheets ≡ replay_over (book_with_rate form book) sheets
rate-replay form book nowhere sheets =
    classes-replay book (book_with_rate form book) (apart_from form.class) (record { front = λ class. refl; schedule = λ class. refl; counted = λ class. refl; household = λ account. refl }) (λ sheet price. price) (λ sheet price. refl)
    (All-weaker (λ (row : OrderRow). names_class form.class row ≡ false) (λ (row : OrderRow). BodyCounts (Counts (apart_from form.class)) row.order.body) (body-apart form.class) (filter stands book.orders) (none-all (names_class form.class) (filter stands book.orders) nowhere))
    sheets
    (λ k d short. record {
      before = λ class on. refl;
      prices = λ i e within. record {
        same = λ on. refl;
        rate = λ on. rate-apart form book (get_or (get_or sheets k d).prices i e).0 (get_or sheets k d).moment (turned form.class (get_or (get_or sheets k d).prices i e).0 on);
      };
      orders = refl;
    })
    ∙ ap (replay_over (book_with_rate form book)) (unchanged sheets)
  where
    unchanged : (sheets : List Sheet) → map (sheet_with (λ sheet price. price)) sheets ≡ sheets
    unchanged [] = refl
    unchanged (sheet ∷ sheets) =
        ap (λ prices. with_prices sheet prices ∷ map (sheet_with (λ sheet price. price)) sheets) (map-id sheet.prices)
        ∙ ap (λ rest. sheet ∷ rest) (unchanged sheets)

-- ---- before the corrected price, and before the corrected rate

-- the best one is one of those that pass
abbrev PassesThere : {X : Type 0} → (X → Bool) → Option X → Type 0
PassesThere p None = Unit {0}
PassesThere p (Some x) = p x ≡ true

best-passes : {X : Type 0} (p : X → Bool) (better : X → X → Bool) (found : Option X) (xs : List X) → PassesThere p found → PassesThere p (fold (best_so_far p better) found xs)
best-passes p better found [] fine = fine
best-passes {X = X} p better found (x ∷ xs) fine =
    best-passes p better (best_so_far p better found x) xs (by (p x) refl found fine)
  where
    prefer : p x ≡ true → (b : Bool) (y : X) → p y ≡ true → PassesThere p (cond b (Some x) (Some y))
    prefer is true y fine = is
    prefer is false y fine = fine

    by : (b : Bool) → p x ≡ b → (found : Option X) → PassesThere p found → PassesThere p (cond b (found_or_better better found x) found)
    by true is None fine = is
    by true is (Some y) fine = prefer is (better x y) y fine
    by false is found fine = fine

sheets-unfixed : (form : FixPriceForm) (sheet : Sheet) → (form.moment == sheet.moment) ≡ false → sheet_as_corrected (form ∷ []) sheet ≡ sheet
sheets-unfixed form sheet off =
    ap (with_prices sheet)
    (map_fixed (price_as_corrected (form ∷ []) sheet.moment) sheet.prices
    (λ k d short. unfixed form sheet.moment (get_or sheet.prices k d) (and_right (form.class == (get_or sheet.prices k d).0) (form.moment == sheet.moment) off)))

-- a price that is read before a moment isn't later than it
price-before-fixed : (form : FixPriceForm) (sheets : List Sheet) (class : ℕ) (sheet : Sheet) → sheet.moment ≤ form.moment → price_before (map (sheet_as_corrected (form ∷ [])) sheets) class sheet.moment ≡ price_before sheets class sheet.moment
price-before-fixed form sheets class sheet early =
    ap (λ found. option_and_then (λ (s : Sheet). nav_on s.prices class) found) (found-before form sheets class sheet.moment)
    ∙ by (sheet_before sheets class sheet.moment) (best-passes (is_before class sheet.moment) is_later None sheets tt)
  where
    by : (found : Option Sheet) → PassesThere (is_before class sheet.moment) found → option_and_then (λ (s : Sheet). nav_on s.prices class) (option_map (sheet_as_corrected (form ∷ [])) found) ≡ option_and_then (λ (s : Sheet). nav_on s.prices class) found
    by None fine = refl
    by (Some s) fine =
        let less = ltb-true s.moment sheet.moment (and_parts (nat_lt s.moment sheet.moment) (lists_class s.prices class) fine).0 in
        ap (λ (x : Sheet). nav_on x.prices class) (sheets-unfixed form s (ne_eqb form.moment s.moment (λ same. omega (arith, same, less, early))))

any-row : (row : OrderRow) → BodyCounts (Counts (λ class. true)) row.order.body
any-row row = record { own = refl; target = λ to _. refl }

-- a sheet that doesn't list the class at that moment has no price that is fixed
none-fixed : (class moment : ℕ) (sheet : Sheet) → lists_at class moment sheet ≡ false → (price : ℕ × ℕ) → list_any (λ (p : ℕ × ℕ). p.0 == price.0) sheet.prices ≡ true → (class == price.0 && moment == sheet.moment) ≡ false
none-fixed class moment sheet off price listed =
    elim (class == price.0) as (λ b. (class == price.0) ≡ b → (b && moment == sheet.moment) ≡ false) [
      | true ↦ λ t. elim (moment == sheet.moment) as (λ b. (moment == sheet.moment) ≡ b → b ≡ false) [
        | true ↦ λ u. absurd (true≢false (sym (and_from (sheet.moment == moment) (lists_class sheet.prices class) (eq-yes sheet.moment moment (sym (eqb-true moment sheet.moment u))) (ap (λ n. lists_class sheet.prices n) (eqb-true class price.0 t) ∙ listed)) ∙ off))
        | false ↦ λ u. refl
      ] refl
      | false ↦ λ t. refl
    ] refl

listed-there : (prices : List (ℕ × ℕ)) (k : ℕ) (d : ℕ × ℕ) → k < length prices → list_any (λ (p : ℕ × ℕ). p.0 == (get_or prices k d).0) prices ≡ true
listed-there prices k d short =
    list_any_at (λ (p : ℕ × ℕ). p.0 == (get_or prices k d).0) prices k d short (eq-yes (get_or prices k d).0 (get_or prices k d).0 refl)

pub price_leaves_before : (book : Book) (form : FixPriceForm) (number : ℕ) → PriceLeavesBefore book form number
price_leaves_before book form number before =
    ap (replay_over (book_with_price form book)) (take-map (sheet_as_corrected (form ∷ [])) number book.table.sheets)
    ∙ sym
    (classes-replay book (book_with_price form book) (λ class. true) (terms-price form book) (fixed form) (λ sheet price. refl)
    (λ k d short. any-row (get_or (filter stands book.orders) k d)) (take number book.table.sheets)
    (λ k d short. reads (get_or (take number book.table.sheets) k d) (before k d short)))
  where
    reads : (sheet : Sheet) → IsBeforePrice form sheet → SheetReads book (book_with_price form book) (λ class. true) (fixed form) sheet
    reads sheet early = record {
      before = λ class on. sym (price-before-fixed form book.table.sheets class sheet early.1);
      prices = λ k d short. record {
        same = λ on. unfixed form sheet.moment (get_or sheet.prices k d) (none-fixed form.class form.moment sheet early.0 (get_or sheet.prices k d) (listed-there sheet.prices k d short));
        rate = λ on. refl;
      };
      orders = ap (λ priced. orders_on priced sheet) (price-orders form book);
    }

pub rate_leaves_before : (book : Book) (form : FixRateForm) (number : ℕ) → RateLeavesBefore book form number
rate_leaves_before book form number before =
    sym
    (classes-replay book (book_with_rate form book) (λ class. true) (record { front = λ class. refl; schedule = λ class. refl; counted = λ class. refl; household = λ account. refl }) (λ sheet price. price) (λ sheet price. refl)
    (λ k d short. any-row (get_or (filter stands book.orders) k d)) (take number book.table.sheets)
    (λ k d short. reads (get_or (take number book.table.sheets) k d) (before k d short))
    ∙ ap (replay_over (book_with_rate form book)) (same-sheets (take number book.table.sheets)))
  where
    rate-unfixed : (class moment : ℕ) → (form.class == class && form.moment == moment) ≡ false → rate_at book.rates class moment ≡ rate_at (book_with_rate form book).rates class moment
    rate-unfixed class moment off =
        sym
        (ap (λ found. option_map_or (λ (f : FixRateForm). f.rate) found (rate_declared book.rates class moment))
        (last-of-more (fixes_rate class moment) book.rates.fixed form ∙ ap (λ b. cond b (Some form) (last_of (fixes_rate class moment) book.rates.fixed)) off))

    reads : (sheet : Sheet) → lists_at form.class form.moment sheet ≡ false → SheetReads book (book_with_rate form book) (λ class. true) (λ sheet price. price) sheet
    reads sheet off = record {
      before = λ class on. refl;
      prices = λ i e within. record {
        same = λ on. refl;
        rate = λ on. rate-unfixed (get_or sheet.prices i e).0 sheet.moment (none-fixed form.class form.moment sheet off (get_or sheet.prices i e) (listed-there sheet.prices i e within));
      };
      orders = refl;
    }

    same-sheets : (sheets : List Sheet) → map (sheet_with (λ sheet price. price)) sheets ≡ sheets
    same-sheets [] = refl
    same-sheets (sheet ∷ sheets) =
        ap (λ prices. with_prices sheet prices ∷ map (sheet_with (λ sheet price. price)) sheets) (map-id sheet.prices)
        ∙ ap (λ rest. sheet ∷ rest) (same-sheets sheets)
