-- The outstanding mils of a class are the net of what the trades brought and took, over all and in each part.
use Rattle.std.proofs.Common.{All, List, [], ap, arith, cond, filter, fold, pos, subst, sum_by, sym, ℕ, ℤ, ◌+◌, ◌∙◌, ◌∷◌, ◌≡◌}
use Rattle.std.proofs.Math.IntN.{+ℤ-neg_ℤ_cancel}
use Rattle.std.proofs.lemmas.List.Elements.{All-filter}
use Rattle.std.proofs.lemmas.List.Sums.{sum_by-cons}
use Rattle.std.specs.Prelude.{◌+ℤ◌, ◌-ℤ◌}
use Rattle.agent_events.specs.declared.order.OrderRow.{OrderRow}
use Rattle.ledger_laws.specs.ClassTotals.{IsNetOfTrades, OrderlyTotalsByDifferences}
use Rattle.register_laws.proofs.ListParts.{filter-swap}
use Rattle.register_laws.proofs.ReplayedAlone.{replayed_alone}
use Rattle.register_laws.proofs.SharesByTrades.{shares_go_by_trades}
use Rattle.register_laws.specs.Households.{is_of_household, is_own_row, own_book, part_of}
use Rattle.register_laws.specs.Trades.{IsOrderly, IsOutstandingByTrades, LeavesItsClass, is_order_of}
use Rattle.register_machine.specs.corrections.Cash.{outstanding}
use Rattle.register_machine.specs.pricing.CorrectedBook.{Book}
use Rattle.register_machine.specs.pricing.CorrectedOrders.{stands}
use Rattle.register_machine.specs.replay.Movements.{mils_brought, mils_taken}
use Rattle.register_machine.specs.replay.Replay.{replay}
use Rattle.register_machine.specs.replay.Trades.{Day}
use Rattle.share_lots.proofs.LotLemmas.{sum_by-filter-le}

-- ---- differences

less : (left out brought : ℕ) → left + out ≡ brought → pos left ≡ pos brought -ℤ pos out
less left out brought whole =
    sym (ap (λ n. pos n -ℤ pos out) (sym whole) ∙ +ℤ-neg_ℤ_cancel (pos left) (pos out))

net-of : (class : ℕ) (day : Day) → IsOutstandingByTrades class day → IsNetOfTrades class day
net-of class day is =
    less (outstanding day.register class) (sum_by (mils_taken class) day.trades) (sum_by (mils_brought class) day.trades)
    (omega (arith, is))

-- ---- a household's own book is orderly where the whole one is

own-orderly : (book : Book) (household : ℕ) → IsOrderly book → IsOrderly (own_book household book)
own-orderly book household orderly =
    let own = is_own_row (is_of_household book.accounts household) in
    let swapped = filter-swap stands own book.orders in
    record {
      numbered = orderly.numbered;
      elsewhere = subst (All LeavesItsClass) (sym swapped) (All-filter own LeavesItsClass (filter stands book.orders) orderly.elsewhere);
      few_orders = λ account.
          let one : OrderRow → ℕ = λ row. cond (is_order_of account row) 1 0 in
          omega (arith, ap (sum_by one) swapped, sum_by-filter-le one own (filter stands book.orders), orderly.few_orders account);
    }

part-replayed : (book : Book) (household : ℕ) → part_of book.accounts household (replay book) ≡ replay (own_book household book)
unfolding replay
part-replayed book household = replayed_alone book household book.table.sheets

pub totals_by_differences : (book : Book) → OrderlyTotalsByDifferences book
totals_by_differences book orderly = record {
  whole = λ class. net-of class (replay book) (shares_go_by_trades book class orderly);
  in_parts = λ household class.
      subst (IsNetOfTrades class) (sym (part-replayed book household))
      (net-of class (replay (own_book household book)) (shares_go_by_trades (own_book household book) class (own-orderly book household orderly)));
}

-- ---- over all households

-- numbers that are added up as whole ones
pub added-up : (f : ℕ → ℤ) (g : ℕ → ℕ) → ((x : ℕ) → pos (g x) ≡ f x) → (so_far : ℕ) (xs : List ℕ) → pos (so_far + sum_by g xs) ≡ fold (λ sum x. sum +ℤ f x) (pos so_far) xs
added-up f g same so_far [] =
    let none : so_far + sum_by g [] ≡ so_far = omega arith in ap pos none
added-up f g same so_far (x ∷ xs) =
    let first : so_far + sum_by g (x ∷ xs) ≡ so_far + g x + sum_by g xs = omega (arith, sum_by-cons g x xs) in
    ap pos first
    ∙ (added-up f g same (so_far + g x) xs
    ∙ ap (λ (sum : ℤ). fold (λ s y. s +ℤ f y) sum xs) (ap (λ (n : ℤ). pos so_far +ℤ n) (same x)))
