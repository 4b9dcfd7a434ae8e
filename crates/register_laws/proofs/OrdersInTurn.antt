-- The orders of a sheet in turn: each of them is a standing order priced on that sheet, and no order is executed twice.
use Rattle.std.proofs.Common.{All, Bool, List, None, Option, Some, [], arith, cond, count_by, false, filter, fold, get_or, length, map, nat_le, nat_lt, refl, suc, sum_by, sym, true, ℕ, ◌+◌, ◌<◌, ◌==◌, ◌∷◌, ◌≡◌, ◌≤◌}
use Rattle.std.proofs.Math.Nat.{mul-le-mul_left}
use Rattle.std.proofs.lemmas.Bool.{eqb-true}
use Rattle.std.proofs.lemmas.List.Elements.{All-append, All-cons, All-filter, All-head, All-map, All-nil, All-tail}
use Rattle.std.proofs.lemmas.List.Sums.{sum_by-append, sum_by-cons, sum_by-le-sum_by}
use Rattle.agent_events.specs.declared.order.OrderRow.{OrderRow}
use Rattle.forward_price.specs.PriceTables.{AreNumbered}
use Rattle.forward_price.specs.declared.price_sheet.Sheet.{Sheet}
use Rattle.register_laws.proofs.Comparisons.{one-side}
use Rattle.register_laws.proofs.Sums.{count-map, passing, sum-filtered, sum-plus, sums-exchange}
use Rattle.register_machine.specs.pricing.CorrectedBook.{Book}
use Rattle.register_machine.specs.pricing.CorrectedOrders.{stands}
use Rattle.register_machine.specs.replay.Replay.{Priced, in_turn, is_priced_on, orders_on, priced_in, priced_orders}

pub in_turn-all : (P : OrderRow → Type 0) (ordered rows : List OrderRow) → All P ordered → All P rows → All P (fold (λ ordered row. in_turn row ordered) ordered rows)
in_turn-all P ordered [] done all = done
in_turn-all P ordered (row ∷ rows) done all =
    in_turn-all P (in_turn row ordered) rows
    (All-append P (filter (λ other. nat_le other.receipt row.receipt) ordered) (row ∷ filter (λ other. nat_lt row.receipt other.receipt) ordered)
    (All-filter (λ other. nat_le other.receipt row.receipt) P ordered done)
    (All-cons P row (filter (λ other. nat_lt row.receipt other.receipt) ordered) (All-head P row rows all) (All-filter (λ other. nat_lt row.receipt other.receipt) P ordered done)))
    (All-tail P row rows all)

-- what holds of the orders of a sheet holds of them in turn
pub rows-on : (P : OrderRow → Type 0) (priced : List Priced) (sheet : Sheet) → All (λ (q : Priced). P q.row) (filter (is_priced_on sheet.number) priced) → All P (orders_on priced sheet)
rows-on P priced sheet all =
    in_turn-all P [] (map (λ order. order.row) (filter (is_priced_on sheet.number) priced)) (All-nil P)
    (All-map P (λ (order : Priced). order.row) (filter (is_priced_on sheet.number) priced) all)

-- what holds of all standing orders holds of those on a sheet
pub rows-standing : (P : OrderRow → Type 0) (book : Book) (sheet : Sheet) → All P (filter stands book.orders) → All P (orders_on (priced_orders book) sheet)
rows-standing P book sheet all =
    rows-on P (priced_orders book) sheet
    (All-filter (is_priced_on sheet.number) (λ (q : Priced). P q.row) (priced_orders book)
    (All-map (λ (q : Priced). P q.row) (priced_in book.table.sheets) (filter stands book.orders) all))

-- ---- how often an order is executed

pub in_turn-count : (q : OrderRow → Bool) (row : OrderRow) (rows : List OrderRow) → count_by q (in_turn row rows) ≡ cond (q row) 1 0 + count_by q rows
in_turn-count q row rows =
    let one = λ (other : OrderRow). cond (q other) 1 0 in
    let before = λ (other : OrderRow). nat_le other.receipt row.receipt in
    let behind = λ (other : OrderRow). nat_lt row.receipt other.receipt in
    let both = sum-plus (λ other. cond (before other) (one other) 0) (λ other. cond (behind other) (one other) 0) one
    (λ other. sym (one-side other.receipt row.receipt (one other))) rows in
    omega (arith, sum_by-append one (filter before rows) (row ∷ filter behind rows), sum_by-cons one row (filter behind rows), sum-filtered one before rows, sum-filtered one behind rows, both)

pub turns-count : (q : OrderRow → Bool) (ordered rows : List OrderRow) → count_by q (fold (λ ordered row. in_turn row ordered) ordered rows) ≡ count_by q ordered + count_by q rows
turns-count q ordered [] = omega arith
turns-count q ordered (row ∷ rows) =
    omega (arith, turns-count q (in_turn row ordered) rows, in_turn-count q row ordered, sum_by-cons (λ (other : OrderRow). cond (q other) 1 0) row rows)

-- an order that passes and has its sheet there
abbrev pub counted_on : (OrderRow → Bool) → Sheet → Priced → ℕ
counted_on q sheet order = cond (is_priced_on sheet.number order) (cond (q order.row) 1 0) 0

pub orders_on-count : (q : OrderRow → Bool) (priced : List Priced) (sheet : Sheet) → count_by q (orders_on priced sheet) ≡ sum_by (counted_on q sheet) priced
orders_on-count q priced sheet =
    let there = filter (is_priced_on sheet.number) priced in
    omega (arith, turns-count q [] (map (λ order. order.row) there), count-map q (λ (order : Priced). order.row) there, sum-filtered (λ (order : Priced). cond (q order.row) 1 0) (is_priced_on sheet.number) priced)

-- ---- the sheets of a number

abbrev pub NumberedFrom : ℕ → List Sheet → Type 0
NumberedFrom first sheets = (place : ℕ) (d : Sheet) → place < length sheets → (get_or sheets place d).number ≡ place + first

pub numbered-rest : (first : ℕ) (x : Sheet) (xs : List Sheet) → NumberedFrom first (x ∷ xs) → NumberedFrom (suc first) xs
numbered-rest first x xs are place d short = omega (arith, are (suc place) d (omega (arith, short)))

pub numbered-first : (first : ℕ) (x : Sheet) (xs : List Sheet) → NumberedFrom first (x ∷ xs) → x.number ≡ first
numbered-first first x xs are = omega (arith, are 0 x (omega arith))

abbrev pub has_number : ℕ → Sheet → Bool
has_number number sheet = number == sheet.number

pub none-before : (number first : ℕ) (sheets : List Sheet) → NumberedFrom first sheets → number < first → count_by (has_number number) sheets ≡ 0
none-before number first [] are less = refl
none-before number first (x ∷ xs) are less =
    omega (arith, none (number == x.number) refl, none-before number (suc first) xs (numbered-rest first x xs are) (omega (arith, less)), sum_by-cons (λ (sheet : Sheet). cond (has_number number sheet) 1 0) x xs)
  where
    none : (b : Bool) → (number == x.number) ≡ b → ◌≡◌ {A = ℕ} (cond b 1 0) 0
    none false e = refl
    none true e = let same = eqb-true number x.number e in absurd (omega (arith, same, less, numbered-first first x xs are))

pub once-numbered : (number first : ℕ) (sheets : List Sheet) → NumberedFrom first sheets → count_by (has_number number) sheets ≤ 1
once-numbered number first [] are = omega arith
once-numbered number first (x ∷ xs) are =
    by_first (once-numbered number (suc first) xs (numbered-rest first x xs are)) (number == x.number) refl (sum_by-cons (λ (sheet : Sheet). cond (has_number number sheet) 1 0) x xs)
  where
    by_first : count_by (has_number number) xs ≤ 1 → (b : Bool) → (number == x.number) ≡ b → count_by (has_number number) (x ∷ xs) ≡ cond b 1 0 + count_by (has_number number) xs → count_by (has_number number) (x ∷ xs) ≤ 1
    by_first few false e s = omega (arith, s, few)
    by_first few true e s =
        let same = eqb-true number x.number e in
        let rest = none-before number (suc first) xs (numbered-rest first x xs are) (omega (arith, same, numbered-first first x xs are)) in
        omega (arith, s, rest)

pub one_sheet : (sheets : List Sheet) (order : Priced) → AreNumbered sheets → count_by (λ (sheet : Sheet). is_priced_on sheet.number order) sheets ≤ 1
one_sheet sheets order are = by_number order.sheet
  where
    nowhere : (xs : List Sheet) → count_by (λ (sheet : Sheet). false) xs ≡ 0
    nowhere [] = refl
    nowhere (x ∷ xs) = omega (arith, nowhere xs, sum_by-cons (λ (sheet : Sheet). cond false 1 0) x xs)

    by_number : (found : Option ℕ) → count_by (λ (sheet : Sheet). is_priced_on sheet.number (record { row = order.row; sheet = found })) sheets ≤ 1
    by_number None = omega (arith, nowhere sheets)
    by_number (Some number) = once-numbered number 1 sheets are.each

pub executed-few : (q : OrderRow → Bool) (priced : List Priced) (sheets : List Sheet) → AreNumbered sheets → sum_by (λ sheet. count_by q (orders_on priced sheet)) sheets ≤ count_by (λ order. q order.row) priced
executed-few q priced sheets are =
    let on_sheets = sum_by-le-sum_by (λ (sheet : Sheet). count_by q (orders_on priced sheet)) (λ (sheet : Sheet). sum_by (counted_on q sheet) priced) sheets (λ sheet. omega (arith, orders_on-count q priced sheet)) in
    let turned = sums-exchange (counted_on q) sheets priced in
    let once = sum_by-le-sum_by (λ (order : Priced). sum_by (λ (sheet : Sheet). counted_on q sheet order) sheets) (λ (order : Priced). cond (q order.row) 1 0) priced one in
    omega (arith, on_sheets, turned, once)
  where
    one : (order : Priced) → sum_by (λ (sheet : Sheet). counted_on q sheet order) sheets ≤ cond (q order.row) 1 0
    one order =
        let all = passing (λ (sheet : Sheet). is_priced_on sheet.number order) (cond (q order.row) 1 0) sheets in
        let few = mul-le-mul_left {m = count_by (λ (sheet : Sheet). is_priced_on sheet.number order) sheets} {n = 1} (cond (q order.row) 1 0) (one_sheet sheets order are) in
        omega (arith, all, few)
