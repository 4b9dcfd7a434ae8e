-- A correction breaks no order of a household that it doesn't reach.
use Rattle.std.proofs.Common.{All, Bool, Contains, List, None, Option, Some, [], ap, cond, false, filter, find, flat_map, get_or, length, map, not, refl, subst, sym, true, ℕ, ◌&&◌, ◌<◌, ◌==◌, ◌||◌, ◌∙◌, ◌∷◌, ◌≡◌, ◌≤◌}
use Rattle.std.proofs.lemmas.Bool.{and_from, and_parts, eq-eqb, eqb-true, true≢false}
use Rattle.std.proofs.lemmas.List.Elements.{All-append, All-cons, All-contains, All-contains_itself, All-filter, All-head, All-map, All-nil, All-tail, All-weaker, Contains-get_or}
use Rattle.std.specs.Option.{option_map_or}
use Rattle.agent_events.specs.declared.order.Order.{Order}
use Rattle.agent_events.specs.declared.order.OrderRow.{OrderRow}
use Rattle.agent_events.specs.declared.trade.Trade.{Trade}
use Rattle.fund_calendar.proofs.ListFacts.{All-unmap}
use Rattle.register_laws.proofs.BrokenByParts.{found-own}
use Rattle.register_laws.proofs.ExecutedInTurn.{unfilled_are_orders}
use Rattle.register_laws.proofs.ListParts.{found-within}
use Rattle.register_laws.proofs.OneTradeAnOrder.{named-once, only-one, trades_follow_orders}
use Rattle.register_laws.proofs.OrdersInTurn.{rows-standing}
use Rattle.register_laws.proofs.SeenAlike.{any-by-find}
use Rattle.register_laws.specs.BrokenByParts.{LawfulUnreachedIsUnbroken, first_broken_in}
use Rattle.register_laws.specs.Households.{is_of_household, is_own_trade, part_of}
use Rattle.register_laws.specs.Lawful.{book_behind}
use Rattle.register_laws.specs.Priced.{OrderTraded, is_order_kind, order_traded, row_traded}
use Rattle.register_machine.specs.journal.Journals.{Journal}
use Rattle.register_machine.specs.journal.Kinds.{accounts_of}
use Rattle.register_machine.specs.journal.Lawful.{IsLawful}
use Rattle.register_machine.specs.pricing.CorrectedBook.{Book}
use Rattle.register_machine.specs.pricing.CorrectedOrders.{orders_of, stands}
use Rattle.register_machine.specs.replay.Replay.{orders_on, priced_orders, replay}
use Rattle.register_machine.specs.replay.Trades.{Day}
use Rattle.register_machine.specs.rules.Breaks.{is_broken, is_filled, is_trade_of, was_filled}

-- ---- each order's trade has its order

all-flat : {X Y : Type 0} (P : Y → Type 0) (f : X → List Y) (xs : List X) → ((x : X) → All P (f x)) → All P (flat_map f xs)
all-flat P f [] each = All-nil P
all-flat P f (x ∷ xs) each = All-append P (f x) (flat_map f xs) (each x) (all-flat P f xs each)

pub all-unfiltered : {X : Type 0} (P : X → Type 0) (p : X → Bool) (xs : List X) → All P (filter p xs) → All (λ x. p x ≡ true → P x) xs
all-unfiltered P p [] all = All-nil (λ x. p x ≡ true → P x)
all-unfiltered {X = X} P p (x ∷ xs) all = by (p x) refl all (all-unfiltered P p xs)
  where
    by : (b : Bool) → p x ≡ b → All P (cond b (x ∷ filter p xs) (filter p xs)) → (All P (filter p xs) → All (λ y. p y ≡ true → P y) xs) → All (λ y. p y ≡ true → P y) (x ∷ xs)
    by true is every rest = All-cons (λ y. p y ≡ true → P y) x xs (λ _. All-head P x (filter p xs) every) (rest (All-tail P x (filter p xs) every))
    by false is every rest = All-cons (λ y. p y ≡ true → P y) x xs (λ t. absurd (true≢false (sym t ∙ is))) (rest every)

-- an order of the book is what is traded
pub record HasItsOrder (book : Book) (traded : OrderTraded) : Type 0 where
  pub row : OrderRow
  pub there : Contains book.orders row
  pub account : row.order.account ≡ traded.account
  pub ref_no : row.order.ref_no ≡ traded.ref_no

orders-traded : (book : Book) → All (λ (trade : Trade). is_order_kind trade.kind ≡ true → HasItsOrder book (order_traded trade)) (replay book).trades
orders-traded book =
    all-unfiltered (λ (trade : Trade). HasItsOrder book (order_traded trade)) (λ trade. is_order_kind trade.kind) (replay book).trades
    (All-unmap (HasItsOrder book) order_traded (filter (λ trade. is_order_kind trade.kind) (replay book).trades)
    (subst (All (HasItsOrder book)) (sym (trades_follow_orders book))
    (all-flat (HasItsOrder book) (λ sheet. map (row_traded sheet) (orders_on (priced_orders book) sheet)) book.table.sheets
    (λ sheet. All-map (HasItsOrder book) (row_traded sheet) (orders_on (priced_orders book) sheet)
    (All-weaker (Contains book.orders) (λ (row : OrderRow). HasItsOrder book (row_traded sheet row)) (λ row there. record { row = row; there = there; account = refl; ref_no = refl }) (orders_on (priced_orders book) sheet)
    (rows-standing (Contains book.orders) book sheet (All-filter stands (Contains book.orders) book.orders (All-contains_itself book.orders))))))))

-- ---- no unfilled order was filled

module _ (journal : Journal) (lawful : IsLawful journal) (numbered : All (λ (row : OrderRow). 0 < row.order.ref_no) (orders_of journal)) where
  never-filled : (trade : Trade) → Contains (replay (book_behind journal)).trades trade → is_filled trade.outcome ≡ false → was_filled (replay (book_behind journal)).trades trade ≡ false
  never-filled trade there unfilled =
      let book = book_behind journal in
      let trades = (replay book).trades in
      let kind = All-contains (λ (t : Trade). is_filled t.outcome ≡ false → is_order_kind t.kind ≡ true) trades trade (unfilled_are_orders book) there unfilled in
      let its = All-contains (λ (t : Trade). is_order_kind t.kind ≡ true → HasItsOrder book (order_traded t)) trades trade (orders-traded book) there kind in
      let some = All-contains (λ (row : OrderRow). 0 < row.order.ref_no) (orders_of journal) its.row numbered its.there in
      let once = subst (λ r. length (filter (is_trade_of trade.account r) trades) ≤ 1) its.ref_no
      (subst (λ a. length (filter (is_trade_of a its.row.order.ref_no) trades) ≤ 1) its.account (named-once journal lawful its.row its.there some)) in
      let named = is_trade_of trade.account trade.ref_no in
      let own : named trade ≡ true = and_from (trade.account == trade.account) (trade.ref_no == trade.ref_no) (eq-eqb trade.account trade.account refl) (eq-eqb trade.ref_no trade.ref_no refl) in
      any-by-find named (λ other. is_filled other.outcome) trades once
      ∙ (ap (λ found. option_map_or (λ (other : Trade). is_filled other.outcome) found false)
      (sym (found-within named named (λ x e. e) trades) ∙ (ap (find named) (only-one named trades trade once there own) ∙ ap (λ b. cond b (Some trade) None) own))
      ∙ unfilled)

  unbroken : (household : ℕ) (order : Option Order) → option_map_or (λ own. is_of_household (accounts_of journal) household own.account) order false ≡ false → (trade : Trade) → Contains (replay (book_behind journal)).trades trade → is_of_household (accounts_of journal) household trade.account ≡ true → is_broken order (replay (book_behind journal)).trades trade ≡ false
  unbroken household order other trade there mine = by (is_filled trade.outcome) refl
    where
      corrected : (found : Option Order) → option_map_or (λ own. is_of_household (accounts_of journal) household own.account) found false ≡ false → option_map_or (λ own. is_trade_of own.account own.ref_no trade) found false ≡ false
      corrected None off = refl
      corrected (Some own) off = elim (is_trade_of own.account own.ref_no trade) as (λ b. is_trade_of own.account own.ref_no trade ≡ b → b ≡ false) [
        | true ↦ λ t. absurd (true≢false (sym mine ∙ (ap (is_of_household (accounts_of journal) household) (eqb-true trade.account own.account (and_parts (trade.account == own.account) (trade.ref_no == own.ref_no) t).0) ∙ off)))
        | false ↦ λ t. refl
      ] refl

      by : (filled : Bool) → is_filled trade.outcome ≡ filled → (not (is_filled trade.outcome) && (was_filled (replay (book_behind journal)).trades trade || option_map_or (λ own. is_trade_of own.account own.ref_no trade) order false)) ≡ false
      by true is = ap (λ b. not b && (was_filled (replay (book_behind journal)).trades trade || option_map_or (λ own. is_trade_of own.account own.ref_no trade) order false)) is
      by false is =
          ap (λ b. not b && (was_filled (replay (book_behind journal)).trades trade || option_map_or (λ own. is_trade_of own.account own.ref_no trade) order false)) is
          ∙ (ap (λ b. b || option_map_or (λ own. is_trade_of own.account own.ref_no trade) order false) (never-filled trade there is) ∙ corrected order other)

none-found : {X : Type 0} (p own : X → Bool) (xs : List X) → All (λ x. own x ≡ true → p x ≡ false) xs → find p (filter own xs) ≡ None
none-found p own [] all = refl
none-found {X = X} p own (x ∷ xs) all = by (own x) refl (All-head (λ y. own y ≡ true → p y ≡ false) x xs all) (none-found p own xs (All-tail (λ y. own y ≡ true → p y ≡ false) x xs all))
  where
    by : (b : Bool) → own x ≡ b → (own x ≡ true → p x ≡ false) → find p (filter own xs) ≡ None → find p (cond b (x ∷ filter own xs) (filter own xs)) ≡ None
    by true is here rest = ap (λ b. cond b (Some x) (find p (filter own xs))) (here is) ∙ rest
    by false is here rest = rest

-- a part that stays has no broken order
pub stays-unbroken : (journal : Journal) → IsLawful journal → All (λ (row : OrderRow). 0 < row.order.ref_no) (orders_of journal) → (household : ℕ) (order : Option Order) → option_map_or (λ own. is_of_household (accounts_of journal) household own.account) order false ≡ false → first_broken_in order (part_of (accounts_of journal) household (replay (book_behind journal))) (part_of (accounts_of journal) household (replay (book_behind journal))) ≡ None
stays-unbroken journal lawful numbered household order other =
    let accounts = accounts_of journal in
    let before = replay (book_behind journal) in
    sym (found-own accounts household order before before)
    ∙ none-found (is_broken order before.trades) (is_own_trade (is_of_household accounts household)) before.trades
    (λ k d short mine. unbroken journal lawful numbered household order other (get_or before.trades k d) (Contains-get_or before.trades k d short) mine)

pub unreached_is_unbroken : (journal : Journal) → LawfulUnreachedIsUnbroken journal
unreached_is_unbroken journal lawful numbered household order after other same =
    ap (λ (part : Day). first_broken_in order (part_of (accounts_of journal) household (replay (book_behind journal))) part) same
    ∙ stays-unbroken journal lawful numbered household order other
