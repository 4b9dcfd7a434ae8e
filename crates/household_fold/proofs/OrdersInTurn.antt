-- Orders one after another: what holds before each of them, and behind it.
use Rattle.std.proofs.Common.{All, List, None, Option, Some, [], ap, drop, get_or, length, refl, subst, sym, take, ℕ, ◌+◌, ◌<◌, ◌∙◌, ◌∷◌, ◌≡◌}
use Rattle.std.proofs.lemmas.List.{take-append-drop, take_more}
use Rattle.std.proofs.lemmas.List.Elements.{All-cons, All-head, All-nil, All-tail}
use Rattle.std.proofs.lemmas.List.Sums.{fold-append}
use Rattle.std.specs.Prelude.{IfSome, option_to_list}
use Rattle.agent_events.specs.declared.order.Order.{Order}
use Rattle.household_fold.proofs.LotNumbers.{Grows, numbers-before, numbers-lots}
use Rattle.household_fold.proofs.OrderSteps.{Anywhere, StaysOwned, StaysRegister, body-kept, lots-grow, orders-kept, owned-stay, registers-stay}
use Rattle.household_fold.specs.Facts.{FactsFit, IsListed, Known, book_of_facts, sheet_at_hand}
use Rattle.household_fold.specs.Households.{AreOrdersOf, AreOwned, IsOrderOf, IsOwnPlace, order_known, orders_known}
use Rattle.household_fold.specs.Limits.{AreLotsWithin}
use Rattle.household_fold.specs.Numbers.{AreNumbersWithin}
use Rattle.household_positions.specs.Register.{IsRegister}
use Rattle.register_machine.specs.pricing.OrderClasses.{class_of, classes_in, target_of}
use Rattle.register_machine.specs.replay.Trades.{Day}

-- the places of an order are the household's
own-places : (known : Known) (household : ℕ) (order : Order) → FactsFit known → IsOrderOf known household order → All (IsOwnPlace known household order.account) (classes_in order.body)
own-places known household order fit is =
    All-cons (IsOwnPlace known household order.account) (class_of order.body) (option_to_list (target_of order.body)) (own (class_of order.body) is.listed)
    (by (target_of order.body) is.target)
  where
    own : (class : ℕ) → IsListed known class → IsOwnPlace known household order.account class
    own class listed = record { owner = is.owner; terms = fit.terms_there class listed }

    by : (o : Option ℕ) → IfSome o (IsListed known) → All (IsOwnPlace known household order.account) (option_to_list o)
    by None target = All-nil (IsOwnPlace known household order.account)
    by (Some to) target = All-cons (IsOwnPlace known household order.account) to [] (own to target) (All-nil (IsOwnPlace known household order.account))

-- one order more
pub orders-more : (known : Known) (orders : List Order) (i : ℕ) (d : Order) (start : Day) → i < length orders → orders_known known (take (i + 1) orders) start ≡ order_known known (orders_known known (take i orders) start) (get_or orders i d)
orders-more known orders i d start short =
    ap (λ os. orders_known known os start) (take_more orders i d short)
    ∙ fold-append (order_known known) start (take i orders) (get_or orders i d ∷ [])

-- all orders are those up to one, and those behind it
orders-split : (known : Known) (orders : List Order) (i : ℕ) (d : Order) (start : Day) → i < length orders → orders_known known orders start ≡ orders_known known (drop (i + 1) orders) (order_known known (orders_known known (take i orders) start) (get_or orders i d))
orders-split known orders i d start short =
    ap (λ os. orders_known known os start) (sym (take-append-drop (i + 1) orders))
    ∙ (fold-append (order_known known) start (take (i + 1) orders) (drop (i + 1) orders)
    ∙ ap (orders_known known (drop (i + 1) orders)) (orders-more known orders i d start short))

pub register-after : (known : Known) (day : Day) (order : Order) → IsRegister day.register → IsRegister (order_known known day order).register
register-after known day order is =
    body-kept StaysRegister Anywhere registers-stay (book_of_facts known) (sheet_at_hand known) day order order.body refl (λ k d short. tt) is

pub owned-after : (known : Known) (household : ℕ) (day : Day) (order : Order) → FactsFit known → IsOrderOf known household order → AreOwned known household day.register → AreOwned known household (order_known known day order).register
owned-after known household day order fit is owned =
    body-kept (StaysOwned known household) (IsOwnPlace known household) (owned-stay known household) (book_of_facts known) (sheet_at_hand known) day order order.body refl (own-places known household order fit is) owned

-- a bound on lot numbers at the end is one behind each order
pub lots-after : (known : Known) (orders : List Order) (i : ℕ) (d : Order) (start day : Day) → i < length orders → day ≡ orders_known known (take i orders) start → IsRegister day.register → AreNumbersWithin (orders_known known orders start).register → AreLotsWithin (order_known known day (get_or orders i d)).register
lots-after known orders i d start day short so_far is within =
    let after = order_known known day (get_or orders i d) in
    let rest = drop (i + 1) orders in
    let end : orders_known known orders start ≡ orders_known known rest after =
    orders-split known orders i d start short ∙ ap (λ (x : Day). orders_known known rest (order_known known x (get_or orders i d))) (sym so_far) in
    let grows = orders-kept Grows Anywhere lots-grow known rest after (λ k d short j e within. tt) in
    let P : Day → Type 0 = λ x. AreNumbersWithin x.register in
    numbers-lots after.register (register-after known day (get_or orders i d) is)
    (numbers-before after.register (orders_known known rest after).register grows (subst P end within))

-- and whose the positions are stays
pub orders-owned : (known : Known) (household : ℕ) (orders : List Order) (day : Day) → FactsFit known → AreOrdersOf known household orders → AreOwned known household day.register → AreOwned known household (orders_known known orders day).register
orders-owned known household [] day fit are owned = owned
orders-owned known household (order ∷ orders) day fit are owned =
    orders-owned known household orders (order_known known day order) fit (All-tail (IsOrderOf known household) order orders are)
    (owned-after known household day order fit (All-head (IsOrderOf known household) order orders are) owned)
