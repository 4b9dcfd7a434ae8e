-- A household's trades break among themselves no order, so those that stay aren't looked at where a correction names no order.
use Rattle.std.proofs.Common.{All, Bool, List, None, Option, Some, [], cond, false, find, refl, subst, suc, sym, take, true, zero, ℕ, ◌++◌, ◌<◌, ◌∷◌, ◌≡◌}
use Rattle.std.specs.Option.{option_map_or}
use Rattle.agent_events.specs.Events.{Event}
use Rattle.agent_events.specs.declared.order.Order.{Order}
use Rattle.agent_events.specs.declared.trade.Trade.{Trade}
use Rattle.checkpoint_replay.specs.Parts.{part_in}
use Rattle.desk_books.specs.Reopened.{AreUnbroken, IsTriedOver}
use Rattle.desk_books.specs.declared.books.DeskBooks.{DeskBooks}
use Rattle.household_fold.specs.Facts.{Known}
use Rattle.register_laws.proofs.Unreached.{unreached_is_unbroken}
use Rattle.register_laws.specs.Lawful.{book_behind}
use Rattle.register_machine.specs.pricing.CorrectedOrders.{orders_of}
use Rattle.register_machine.specs.replay.Replay.{replay}
use Rattle.register_machine.specs.replay.Trades.{Day}
use Rattle.register_machine.specs.rules.Breaks.{is_broken}

some-none : {X : Type 0} {x : X} → Some x ≡ None → ⊥
some-none e = cc

-- what passes in no item of a list passes in none of its first ones
found-behind : {X : Type 0} (p : X → Bool) (k : ℕ) (xs ys : List X) → find p xs ≡ None → find p (take k xs ++ ys) ≡ find p ys
found-behind p zero xs ys none = refl
found-behind p (suc k) [] ys none = refl
found-behind {X = X} p (suc k) (x ∷ xs) ys none = by (p x) none (found-behind p k xs ys)
  where
    by : (b : Bool) → cond b (Some x) (find p xs) ≡ None → (find p xs ≡ None → find p (take k xs ++ ys) ≡ find p ys) → cond b (Some x) (find p (take k xs ++ ys)) ≡ find p ys
    by true here rest = absurd (some-none here)
    by false none rest = rest none

-- the trades that stay are left out where no order is named
pub seen_behind : (order : Option Order) (kept : ℕ) (trades back : List Trade) → AreUnbroken trades → find (is_broken order trades) (option_map_or (λ own. take kept trades) order [] ++ back) ≡ find (is_broken order trades) (take kept trades ++ back)
seen_behind (Some own) kept trades back unbroken = refl
seen_behind None kept trades back unbroken = sym (found-behind (is_broken None trades) kept trades back unbroken)

pub unbroken_before : (books : DeskBooks) (event : Event) (known : Known) (household : ℕ) → IsTriedOver books event known → All (λ row. 0 < row.order.ref_no) (orders_of books.book.journal) → AreUnbroken (part_in books.ledger.parts household).trades
unbroken_before books event known household is numbered =
    subst (λ (day : Day). AreUnbroken day.trades) (sym (is.books_are.ledger.part household))
    (unreached_is_unbroken books.book.journal is.books_are.lawful numbered household None (replay (book_behind books.book.journal)) refl refl)
