-- Every class of a position is one of the journal's, and these come by rising number.
use Rattle.std.proofs.Common.{All, Bool, List, [], ap, arith, cond, false, filter, fold, inl, inr, map, nat_eq, nat_lt, refl, sym, true, ℕ, ◌++◌, ◌<◌, ◌==◌, ◌||◌, ◌∙◌, ◌∷◌, ◌≡◌}
use Rattle.std.proofs.lemmas.Bool.{and_parts, true≢false}
use Rattle.std.proofs.lemmas.Bool.Decides.{eqb_tells, nat_tests}
use Rattle.std.proofs.lemmas.List.{map-id}
use Rattle.std.proofs.lemmas.List.Elements.{All-append, All-cons, All-filter, All-head, All-nil, All-tail, All-weaker, filter_passes}
use Rattle.std.proofs.lemmas.List.Kept.{AllPairs-cons, AllPairs-filter}
use Rattle.std.specs.List.{list_all, list_any}
use Rattle.agent_events.specs.declared.order.Body.{Body}
use Rattle.agent_events.specs.declared.order.OrderRow.{OrderRow}
use Rattle.agent_events.specs.declared.request.ClassForm.{ClassForm}
use Rattle.holder_statements.specs.HouseholdLooks.{LawfulListsHoldings, part_in}
use Rattle.holder_statements.specs.AccountPositions.{AreRising}
use Rattle.forward_price.specs.PriceTables.{with_prices}
use Rattle.forward_price.specs.declared.price_sheet.Sheet.{Sheet}
use Rattle.register_laws.proofs.AlikeDays.{BodyCounts}
use Rattle.register_laws.proofs.NamesStand.{names_stand}
use Rattle.register_laws.proofs.OrdersInTurn.{rows-standing}
use Rattle.register_laws.proofs.StepsAlike.{Counts, PositionCounts, RowCounts, SheetAlike, step-after}
use Rattle.register_laws.specs.Households.{is_of_household, is_own_position}
use Rattle.register_laws.specs.Identities.{has_number, is_class}
use Rattle.register_laws.specs.Lawful.{book_behind}
use Rattle.register_laws.specs.NamesStand.{is_placed_in}
use Rattle.register_machine.proofs.FoundFacts.{put-all}
use Rattle.register_machine.proofs.ListItems.{all-of}
use Rattle.register_machine.specs.corrections.Gains.{class_numbers_of, in_its_place, rising_numbers}
use Rattle.register_machine.specs.journal.Journals.{Journal}
use Rattle.register_machine.specs.journal.Kinds.{accounts_of, classes_of}
use Rattle.register_machine.specs.journal.Lawful.{IsLawful}
use Rattle.register_machine.specs.pricing.CorrectedBook.{Book}
use Rattle.register_machine.specs.pricing.CorrectedOrders.{orders_of, stands}
use Rattle.register_machine.specs.pricing.OrderClasses.{class_of, classes_in, target_of}
use Rattle.register_machine.specs.replay.Positions.{Position, position_of}
use Rattle.register_machine.specs.replay.Purchase.{credit_of}
use Rattle.register_machine.specs.replay.Replay.{day_after_sheet, first_day, orders_on, priced_orders, replay}
use Rattle.register_machine.specs.replay.Trades.{Day, nav_of, with_position, with_trade}
use Rattle.share_lots.proofs.LotLemmas.{AllPairs-head, AllPairs-tail}
use Rattle.std.specs.Prelude.{option_to_list}

-- ---- positions have the classes of orders

abbrev Named : (ℕ → Bool) → Day → Type 0
Named named day = All (λ (p : Position). named p.class ≡ true) day.register

record NamedSame (named : ℕ → Bool) (day after : Day) : Type 0 where
  same : day ≡ after
  classes : Named named day

named-sheet : (book : Book) (sheet : Sheet) (named : ℕ → Bool) → SheetAlike book book sheet (λ account. true) named (λ price. price) (NamedSame named)
named-sheet book sheet named = record {
  same = λ d e is. is.same;
  counts = λ d e is. All-weaker (λ (p : Position). named p.class ≡ true) (PositionCounts (λ account. true) named) (λ p own. record { account = refl; class = own }) d.register is.classes;
  alike = λ account own. record {
    nav = λ class _. ap (λ prices. nav_of (with_prices sheet prices) class) (sym (map-id sheet.prices));
    front = λ class _. refl;
    schedule = λ class _. refl;
    found = λ d e class _ is. ap (λ (x : Day). position_of x.register account class) is.same;
    credit = λ d e is. ap (λ (x : Day). credit_of book sheet x.register account) is.same;
    traded = λ d e trade by is. record { same = ap (λ x. with_trade x trade) is.same; classes = is.classes };
    placed = λ d e p by of_class is. record {
      same = ap (λ x. with_position x p) is.same;
      classes = put-all (λ (q : Position). named q.class ≡ true) p d.register of_class is.classes;
    };
  };
  class = λ price. refl;
  prices = λ k d short. record { same = λ _. refl; rate = λ _. refl };
}

abbrev AreOrdersNamed : (ℕ → Bool) → List OrderRow → Type 0
AreOrdersNamed named rows = All (λ (row : OrderRow). BodyCounts (Counts named) row.order.body) rows

sheets-named : (book : Book) (named : ℕ → Bool) → AreOrdersNamed named (filter stands book.orders) → (sheets : List Sheet) (day : Day) → Named named day → Named named (fold (day_after_sheet book (priced_orders book)) day sheets)
sheets-named book named all [] day is = is
sheets-named book named all (sheet ∷ sheets) day is =
    let rows = orders_on (priced_orders book) sheet in
    sheets-named book named all sheets (day_after_sheet book (priced_orders book) day sheet)
    (step-after book book sheet (λ account. true) named (λ price. price) (NamedSame named) (named-sheet book sheet named) rows day day
    (All-weaker (λ (row : OrderRow). BodyCounts (Counts named) row.order.body) (RowCounts (λ account. true) named) (λ row counts. record { account = refl; body = counts }) rows
    (rows-standing (λ (row : OrderRow). BodyCounts (Counts named) row.order.body) book sheet all))
    (record { same = refl; classes = is })).classes

replay-named : (book : Book) (named : ℕ → Bool) → AreOrdersNamed named (filter stands book.orders) → Named named (replay book)
unfolding replay
replay-named book named all =
    sheets-named book named all book.table.sheets first_day (All-nil (λ (p : Position). named p.class ≡ true))

-- ---- orders have the classes of the journal

abbrev has_class : Journal → ℕ → Bool
has_class journal class = list_any (is_class class) (classes_of journal)

body-named : (named : ℕ → Bool) (body : Body) → list_all named (classes_in body) ≡ true → BodyCounts (Counts named) body
body-named named body all = record {
  own = (and_parts (named (class_of body)) (list_all named (option_to_list (target_of body))) all).0;
  target = λ to is.
      let rest = (and_parts (named (class_of body)) (list_all named (option_to_list (target_of body))) all).1 in
      (and_parts (named to) true (sym (ap (λ o. list_all named (option_to_list o)) is) ∙ rest)).0;
}

orders-named : (journal : Journal) → IsLawful journal → AreOrdersNamed (has_class journal) (filter stands (orders_of journal))
orders-named journal lawful =
    All-filter stands (λ (row : OrderRow). BodyCounts (Counts (has_class journal)) row.order.body) (orders_of journal)
    (All-weaker (λ (row : OrderRow). is_placed_in journal row.order ≡ true) (λ (row : OrderRow). BodyCounts (Counts (has_class journal)) row.order.body)
    (λ row placed. body-named (has_class journal) row.order.body (and_parts (list_any (has_number row.order.account) (accounts_of journal)) (list_all (has_class journal) (classes_in row.order.body)) placed).1)
    (orders_of journal) (all-of (λ (row : OrderRow). is_placed_in journal row.order) (orders_of journal) (names_stand journal lawful).orders))

-- ---- rising numbers

or-cases : (a b : Bool) → (a || b) ≡ true → (a ≡ false → b ≡ true)
or-cases true b e is = absurd (true≢false is)
or-cases false b e is = e

or-left : (a b : Bool) → a ≡ true → (a || b) ≡ true
or-left true b e = refl
or-left false b e = absurd (true≢false (sym e))

or-right : (a b : Bool) → b ≡ true → (a || b) ≡ true
or-right true b e = refl
or-right false b e = e

any-left : (q : ℕ) (xs ys : List ℕ) → list_any (nat_eq q) xs ≡ true → list_any (nat_eq q) (xs ++ ys) ≡ true
any-left q [] ys is = absurd (true≢false (sym is))
any-left q (x ∷ xs) ys is = elim (eqb_tells q x) [
  | inl (here, same) ↦ or-left (nat_eq q x) (list_any (nat_eq q) (xs ++ ys)) here
  | inr (away, differs) ↦ or-right (nat_eq q x) (list_any (nat_eq q) (xs ++ ys)) (any-left q xs ys (or-cases (nat_eq q x) (list_any (nat_eq q) xs) is away))
]

any-right : (q : ℕ) (xs ys : List ℕ) → list_any (nat_eq q) ys ≡ true → list_any (nat_eq q) (xs ++ ys) ≡ true
any-right q [] ys is = is
any-right q (x ∷ xs) ys is = or-right (nat_eq q x) (list_any (nat_eq q) (xs ++ ys)) (any-right q xs ys is)

any-filter : (t : ℕ → Bool) (q : ℕ) (xs : List ℕ) → t q ≡ true → list_any (nat_eq q) xs ≡ true → list_any (nat_eq q) (filter t xs) ≡ true
any-filter t q [] passes is = absurd (true≢false (sym is))
any-filter t q (x ∷ xs) passes is = elim (eqb_tells q x) [
  | inl (here, same) ↦
      ap (λ b. list_any (nat_eq q) (cond b (x ∷ filter t xs) (filter t xs))) (ap t (sym same) ∙ passes)
      ∙ or-left (nat_eq q x) (list_any (nat_eq q) (filter t xs)) here
  | inr (away, differs) ↦
      (let rest = any-filter t q xs passes (or-cases (nat_eq q x) (list_any (nat_eq q) xs) is away) in
      elim (t x) as (λ b. list_any (nat_eq q) (cond b (x ∷ filter t xs) (filter t xs)) ≡ true) [
        | true ↦ or-right (nat_eq q x) (list_any (nat_eq q) (filter t xs)) rest
        | false ↦ rest
      ])
]

lower-or_greater : (a b : ℕ) → (a == b) ≡ false → nat_lt a b ≡ false → nat_lt b a ≡ true
lower-or_greater a b = grind (arith, nat_tests)

-- a number and those before it are among them when it has its place
any-placed : (q n : ℕ) (ns : List ℕ) → (nat_eq q n || list_any (nat_eq q) ns) ≡ true → list_any (nat_eq q) (in_its_place n ns) ≡ true
any-placed q n ns is = elim (eqb_tells q n) [
  | inl (here, same) ↦
      any-right q (filter (λ other. nat_lt other n) ns) (n ∷ filter (λ other. nat_lt n other) ns)
      (or-left (nat_eq q n) (list_any (nat_eq q) (filter (λ other. nat_lt n other) ns)) here)
  | inr (away, differs) ↦
      (let there = or-cases (nat_eq q n) (list_any (nat_eq q) ns) is away in
      elim (nat_lt q n) as (λ b. nat_lt q n ≡ b → list_any (nat_eq q) (in_its_place n ns) ≡ true) [
        | true ↦ λ low. any-left q (filter (λ other. nat_lt other n) ns) (n ∷ filter (λ other. nat_lt n other) ns) (any-filter (λ other. nat_lt other n) q ns low there)
        | false ↦ λ high.
            any-right q (filter (λ other. nat_lt other n) ns) (n ∷ filter (λ other. nat_lt n other) ns)
            (or-right (nat_eq q n) (list_any (nat_eq q) (filter (λ other. nat_lt n other) ns)) (any-filter (λ other. nat_lt n other) q ns (lower-or_greater q n away high) there))
      ] refl)
]

pub any-rising : (q : ℕ) (ordered ns : List ℕ) → (list_any (nat_eq q) ordered || list_any (nat_eq q) ns) ≡ true → list_any (nat_eq q) (fold (λ placed n. in_its_place n placed) ordered ns) ≡ true
any-rising q ordered [] is = or-none (list_any (nat_eq q) ordered) is
  where
    or-none : (b : Bool) → (b || false) ≡ true → b ≡ true
    or-none true e = refl
    or-none false e = e
any-rising q ordered (n ∷ ns) is =
    any-rising q (in_its_place n ordered) ns (by (list_any (nat_eq q) ordered) refl)
  where
    by : (b : Bool) → list_any (nat_eq q) ordered ≡ b → (list_any (nat_eq q) (in_its_place n ordered) || list_any (nat_eq q) ns) ≡ true
    by true there =
        or-left (list_any (nat_eq q) (in_its_place n ordered)) (list_any (nat_eq q) ns) (any-placed q n ordered (or-right (nat_eq q n) (list_any (nat_eq q) ordered) there))
    by false none = by_first (nat_eq q n) refl (or-cases (list_any (nat_eq q) ordered) (nat_eq q n || list_any (nat_eq q) ns) is none)
      where
        by_first : (b : Bool) → nat_eq q n ≡ b → (b || list_any (nat_eq q) ns) ≡ true → (list_any (nat_eq q) (in_its_place n ordered) || list_any (nat_eq q) ns) ≡ true
        by_first true here rest =
            or-left (list_any (nat_eq q) (in_its_place n ordered)) (list_any (nat_eq q) ns) (any-placed q n ordered (or-left (nat_eq q n) (list_any (nat_eq q) ordered) here))
        by_first false away rest = or-right (list_any (nat_eq q) (in_its_place n ordered)) (list_any (nat_eq q) ns) rest

-- they rise
lower-is : (a b : ℕ) → nat_lt a b ≡ true → a < b
lower-is a b = grind (arith, nat_tests)

rising-behind : (n : ℕ) (xs ys : List ℕ) → AreRising xs → All (λ x. x < n) xs → AreRising ys → All (λ y. n < y) ys → AreRising (xs ++ n ∷ ys)
rising-behind n [] ys up low over high = AllPairs-cons (λ a b. a < b) n ys high over
rising-behind n (x ∷ xs) ys up low over high =
    let first = All-head (λ m. m < n) x xs low in
    AllPairs-cons (λ a b. a < b) x (xs ++ n ∷ ys)
    (All-append (λ m. x < m) xs (n ∷ ys) (AllPairs-head (λ a b. a < b) x xs up)
    (All-cons (λ m. x < m) n ys first (All-weaker (λ m. n < m) (λ m. x < m) (λ m greater. omega (arith, first, greater)) ys high)))
    (rising-behind n xs ys (AllPairs-tail (λ a b. a < b) x xs up) (All-tail (λ m. m < n) x xs low) over high)

pub rising-placed : (n : ℕ) (ns : List ℕ) → AreRising ns → AreRising (in_its_place n ns)
rising-placed n ns up =
    rising-behind n (filter (λ other. nat_lt other n) ns) (filter (λ other. nat_lt n other) ns)
    (AllPairs-filter (λ a b. a < b) (λ other. nat_lt other n) ns up)
    (All-weaker (λ m. nat_lt m n ≡ true) (λ m. m < n) (λ m lt. lower-is m n lt) (filter (λ other. nat_lt other n) ns) (filter_passes (λ other. nat_lt other n) ns))
    (AllPairs-filter (λ a b. a < b) (λ other. nat_lt n other) ns up)
    (All-weaker (λ m. nat_lt n m ≡ true) (λ m. n < m) (λ m lt. lower-is n m lt) (filter (λ other. nat_lt n other) ns) (filter_passes (λ other. nat_lt n other) ns))

rising-all : (ordered ns : List ℕ) → AreRising ordered → AreRising (fold (λ placed n. in_its_place n placed) ordered ns)
rising-all ordered [] up = up
rising-all ordered (n ∷ ns) up = rising-all (in_its_place n ordered) ns (rising-placed n ordered up)

pub numbers-rise : (ns : List ℕ) → AreRising (rising_numbers ns)
numbers-rise ns = rising-all [] ns (λ i j d lt short. absurd (omega (arith, short)))

-- ---- so a household's positions are listed

turned-apart : (a b : ℕ) → nat_eq b a ≡ false → (a == b) ≡ false
turned-apart a b = grind (arith, nat_tests)

class-number : (q : ℕ) (forms : List ClassForm) → list_any (is_class q) forms ≡ true → list_any (nat_eq q) (map (λ form. form.class) forms) ≡ true
class-number q [] is = absurd (true≢false (sym is))
class-number q (form ∷ forms) is = elim (eqb_tells q form.class) [
  | inl (here, same) ↦ or-left (nat_eq q form.class) (list_any (nat_eq q) (map (λ (f : ClassForm). f.class) forms)) here
  | inr (away, differs) ↦
      or-right (nat_eq q form.class) (list_any (nat_eq q) (map (λ (f : ClassForm). f.class) forms))
      (class-number q forms (or-cases (is_class q form) (list_any (is_class q) forms) is (turned-apart form.class q away)))
]

pub lists_holdings : (journal : Journal) (household : ℕ) → LawfulListsHoldings journal household
lists_holdings journal household lawful =
    let book = book_behind journal in
    let named = replay-named book (has_class journal) (orders-named journal lawful) in
    record {
      rise = numbers-rise (map (λ form. form.class) (classes_of journal));
      listed = λ account.
          All-weaker (λ (p : Position). has_class journal p.class ≡ true) (λ (p : Position). p.account ≡ account → list_any (nat_eq p.class) (class_numbers_of journal) ≡ true)
          (λ p is own. any-rising p.class [] (map (λ (form : ClassForm). form.class) (classes_of journal)) (class-number p.class (classes_of journal) is))
          (part_in book household).register
          (All-filter (is_own_position (is_of_household book.accounts household)) (λ (p : Position). has_class journal p.class ≡ true) (replay book).register named);
    }
