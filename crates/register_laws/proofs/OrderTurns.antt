-- The trades of orders stand in the order of execution.
use Rattle.std.proofs.Common.{All, AllPairs, Bool, Contains, List, Some, [], ap, arith, cond, false, filter, find, flat_map, get_or, inl, inr, length, map, refl, subst, suc, sym, true, zero, ℕ, ◌<◌, ◌==◌, ◌||◌, ◌∙◌, ◌∷◌, ◌≡◌, ◌≤◌, ◌⊎◌}
use Rattle.std.proofs.lemmas.Bool.{and_from, true≢false}
use Rattle.std.proofs.lemmas.List.Elements.{All-append, All-contains_itself, All-filter, All-head, All-map, All-nil, All-tail, All-weaker}
use Rattle.std.proofs.lemmas.List.Kept.{AllPairs-cons}
use Rattle.std.specs.List.{list_any}
use Rattle.agent_events.specs.declared.order.OrderRow.{OrderRow}
use Rattle.agent_events.specs.declared.trade.Trade.{Trade}
use Rattle.register_laws.specs.TradesInTurn.{NamesOnce, TradesAreInTurn}
use Rattle.forward_price.proofs.OrderlyFacts.{any_from}
use Rattle.forward_price.specs.PriceTables.{AreNumbered}
use Rattle.forward_price.specs.declared.price_sheet.Sheet.{Sheet}
use Rattle.fund_calendar.proofs.ListFacts.{All-unmap, AllPairs-head, AllPairs-tail}
use Rattle.register_laws.proofs.Comparisons.{eq-yes}
use Rattle.register_laws.proofs.ExecutedInTurn.{pairs-none}
use Rattle.register_laws.proofs.ListParts.{pairs-append}
use Rattle.register_laws.proofs.OneTradeAnOrder.{trades_follow_orders}
use Rattle.register_laws.proofs.OrdersInTurn.{rows-standing}
use Rattle.register_laws.specs.Priced.{GoesBefore, OrderTraded, is_order_kind, order_traded, row_traded}
use Rattle.register_machine.specs.pricing.CorrectedBook.{Book}
use Rattle.register_machine.specs.pricing.CorrectedOrders.{is_named, order_named, stands}
use Rattle.register_machine.specs.replay.Replay.{orders_on, priced_orders, replay}

-- ---- pairs of a list under a function, and back
pairs-under : {X Y : Type 0} (P : X → Type 0) (R : X → X → Type 0) (S : Y → Y → Type 0) (f : X → Y) → ((x y : X) → P x → P y → R x y → S (f x) (f y)) → (xs : List X) → All P xs → AllPairs R xs → AllPairs S (map f xs)
pairs-under P R S f step [] all pairs = pairs-none S
pairs-under P R S f step (x ∷ xs) all pairs =
    AllPairs-cons S (f x) (map f xs)
    (All-map (S (f x)) f xs (λ k d short. step x (get_or xs k d) (All-head P x xs all) (All-tail P x xs all k d short) (AllPairs-head R x xs pairs k d short)))
    (pairs-under P R S f step xs (All-tail P x xs all) (AllPairs-tail R x xs pairs))

pairs-back : {X Y : Type 0} (S : Y → Y → Type 0) (f : X → Y) (xs : List X) → AllPairs S (map f xs) → AllPairs (λ x y. S (f x) (f y)) xs
pairs-back S f [] pairs = pairs-none (λ x y. S (f x) (f y))
pairs-back S f (x ∷ xs) pairs =
    AllPairs-cons (λ y z. S (f y) (f z)) x xs (All-unmap (S (f x)) f xs (AllPairs-head S (f x) (map f xs) pairs)) (pairs-back S f xs (AllPairs-tail S (f x) (map f xs) pairs))

-- ---- orders by their names

pub few-none : {X : Type 0} (named : X → Bool) (xs : List X) → length (filter named xs) ≤ 0 → list_any named xs ≡ false
few-none named [] few = refl
few-none {X = X} named (x ∷ xs) few = by (named x) few (few-none named xs)
  where
    by : (b : Bool) → length (cond b (x ∷ filter named xs) (filter named xs)) ≤ 0 → (length (filter named xs) ≤ 0 → list_any named xs ≡ false) → (b || list_any named xs) ≡ false
    by true few later = absurd (omega (arith, few))
    by false few later = later few

pub found-itself : {X : Type 0} (named : X → Bool) (xs : List X) (x : X) → Contains xs x → named x ≡ true → length (filter named xs) ≤ 1 → find named xs ≡ Some x
found-itself named [] x (k, short, is) on few = absurd (omega (arith, short))
found-itself {X = X} named (y ∷ ys) x (zero, short, is) on few = ap (λ b. cond b (Some y) (find named ys)) (ap named is ∙ on) ∙ ap Some is
found-itself {X = X} named (y ∷ ys) x (suc k, short, is) on few =
    by (named y) few (found-itself named ys x (k, omega (arith, short), is) on)
  where
    there : list_any named ys ≡ true
    there = any_from named ys x (k, omega (arith, short), is) on

    by : (b : Bool) → length (cond b (y ∷ filter named ys) (filter named ys)) ≤ 1 → (length (filter named ys) ≤ 1 → find named ys ≡ Some x) → cond b (Some y) (find named ys) ≡ Some x
    by true few later = absurd (true≢false (sym there ∙ few-none named ys (omega (arith, few))))
    by false few later = later few

abbrev FindsItself : List OrderRow → OrderRow → Type 0
FindsItself orders row = order_named orders row.order.account row.order.ref_no ≡ Some row

finds-itself : (orders : List OrderRow) → NamesOnce orders → All (FindsItself orders) orders
finds-itself orders once =
    All-weaker (Contains orders) (FindsItself orders)
    (λ row among. found-itself (λ other. is_named row.order.account row.order.ref_no other.order) orders row among
    (and_from (row.order.account == row.order.account) (row.order.ref_no == row.order.ref_no) (eq-yes row.order.account row.order.account refl) (eq-yes row.order.ref_no row.order.ref_no refl))
    (once row.order.account row.order.ref_no))
    orders (All-contains_itself orders)

-- ---- turns

-- what is traded first is executed first
abbrev IsBefore : List OrderRow → OrderTraded → OrderTraded → Type 0
IsBefore orders traded later =
    (row other : OrderRow) → order_named orders traded.account traded.ref_no ≡ Some row → order_named orders later.account later.ref_no ≡ Some other
    → (traded.sheet < later.sheet) ⊎ ((traded.sheet ≡ later.sheet) × GoesBefore row other)

pub some-same : {X : Type 0} (x y : X) → Some x ≡ Some y → x ≡ y
some-same x y e = cc

module _ (book : Book) (once : NamesOnce book.orders) (turns : (sheet : Sheet) → AllPairs GoesBefore (orders_on (priced_orders book) sheet)) where
  traded_on : Sheet → List OrderTraded
  traded_on sheet = map (row_traded sheet) (orders_on (priced_orders book) sheet)

  rows-found : (sheet : Sheet) → All (FindsItself book.orders) (orders_on (priced_orders book) sheet)
  rows-found sheet = rows-standing (FindsItself book.orders) book sheet (All-filter stands (FindsItself book.orders) book.orders (finds-itself book.orders once))

  within : (sheet : Sheet) → AllPairs (IsBefore book.orders) (traded_on sheet)
  unfolding traded_on
  within sheet =
      pairs-under (FindsItself book.orders) GoesBefore (IsBefore book.orders) (row_traded sheet)
      (λ row other here there goes one two is also.
      inr (refl, subst (λ x. GoesBefore x two) (some-same row one (sym here ∙ is)) (subst (GoesBefore row) (some-same other two (sym there ∙ also)) goes)))
      (orders_on (priced_orders book) sheet) (rows-found sheet) (turns sheet)

  of-sheet : (sheet : Sheet) → All (λ (traded : OrderTraded). traded.sheet ≡ sheet.number) (traded_on sheet)
  unfolding traded_on
  of-sheet sheet = All-map (λ (traded : OrderTraded). traded.sheet ≡ sheet.number) (row_traded sheet) (orders_on (priced_orders book) sheet) (λ k d short. refl)

  of-later : (number : ℕ) (sheets : List Sheet) → All (λ (s : Sheet). number < s.number) sheets → All (λ (traded : OrderTraded). number < traded.sheet) (flat_map traded_on sheets)
  of-later number [] all = All-nil (λ (traded : OrderTraded). number < traded.sheet)
  of-later number (sheet ∷ sheets) all =
      All-append (λ (traded : OrderTraded). number < traded.sheet) (traded_on sheet) (flat_map traded_on sheets)
      (All-weaker (λ (traded : OrderTraded). traded.sheet ≡ sheet.number) (λ (traded : OrderTraded). number < traded.sheet)
      (λ traded is. let less = All-head (λ (s : Sheet). number < s.number) sheet sheets all in omega (arith, is, less)) (traded_on sheet) (of-sheet sheet))
      (of-later number sheets (All-tail (λ (s : Sheet). number < s.number) sheet sheets all))

  all-turns : (sheets : List Sheet) → AllPairs (λ (s t : Sheet). s.number < t.number) sheets → AllPairs (IsBefore book.orders) (flat_map traded_on sheets)
  all-turns [] rise = pairs-none (IsBefore book.orders)
  all-turns (sheet ∷ sheets) rise =
      pairs-append (IsBefore book.orders) (traded_on sheet) (flat_map traded_on sheets) (within sheet)
      (all-turns sheets (AllPairs-tail (λ (s t : Sheet). s.number < t.number) sheet sheets rise))
      (All-weaker (λ (traded : OrderTraded). traded.sheet ≡ sheet.number) (λ (traded : OrderTraded). All (IsBefore book.orders traded) (flat_map traded_on sheets))
      (λ traded is. All-weaker (λ (later : OrderTraded). sheet.number < later.sheet) (IsBefore book.orders traded)
      (λ later less row other _ _. inl (omega (arith, is, less)))
      (flat_map traded_on sheets) (of-later sheet.number sheets (AllPairs-head (λ (s t : Sheet). s.number < t.number) sheet sheets rise)))
      (traded_on sheet) (of-sheet sheet))

rising : (sheets : List Sheet) → AreNumbered sheets → AllPairs (λ (s t : Sheet). s.number < t.number) sheets
rising sheets numbers i j d less short =
    let first = numbers.each i d (omega (arith, less, short)) in
    let second = numbers.each j d short in
    omega (arith, first, second, less)

pub trades_in_turn : (book : Book) → TradesAreInTurn book
unfolding traded_on
trades_in_turn book numbers once turns =
    let trades = filter (λ (trade : Trade). is_order_kind trade.kind) (replay book).trades in
    let pairs = pairs-back (IsBefore book.orders) order_traded trades
    (subst (AllPairs (IsBefore book.orders)) (sym (trades_follow_orders book)) (all-turns book once turns book.table.sheets (rising book.table.sheets numbers))) in
    λ i j d less short. record { turn = pairs i j d less short }
