-- The least turn among broken trades, with one more of them.
use Rattle.std.proofs.Common.{All, Bool, Contains, List, None, Option, Some, [], arith, cond, false, refl, subst, sym, true, ◌++◌, ◌∷◌, ◌≡◌}
use Rattle.std.proofs.lemmas.Bool.Decides.{nat_tests}
use Rattle.std.proofs.lemmas.List.Elements.{All-nil, All-push, All-weaker, Contains-append_left, Contains-push}
use Rattle.desk_books.specs.Least.{IsLeastOf, LeastStays}
use Rattle.desk_books.specs.Turns.{comes_before}
use Rattle.desk_books.specs.declared.least.BrokenTrade.{BrokenTrade}
use Rattle.desk_books.specs.declared.turns.Turn.{Turn}

-- no turn comes before itself
not-itself : (turn : Turn) → comes_before turn turn ≡ false
not-itself turn = grind (arith, nat_tests)

-- what doesn't come before a turn doesn't come before an earlier one
not-earlier : (turn least other : Turn) → comes_before turn least ≡ true → comes_before other least ≡ false → comes_before other turn ≡ false
not-earlier turn least other is not = grind (arith, nat_tests)

abbrev stands_behind : BrokenTrade → BrokenTrade → Type 0
stands_behind least broken = comes_before broken.turn least.turn ≡ false

with-one : (broken : BrokenTrade) (brokens : List BrokenTrade) (least : BrokenTrade) → Contains brokens least → All (stands_behind least) brokens → (b : Bool) → comes_before broken.turn least.turn ≡ b → IsLeastOf (brokens ++ broken ∷ []) (Some (cond b broken least))
with-one broken brokens least among all true is = (
  Contains-push brokens broken,
  All-push (stands_behind broken) brokens broken
      (All-weaker (stands_behind least) (stands_behind broken) (λ other not. not-earlier broken.turn least.turn other.turn is not) brokens all)
      (not-itself broken.turn),
)
with-one broken brokens least among all false is =
    (Contains-append_left brokens (broken ∷ []) least among, All-push (stands_behind least) brokens broken all is)

pub least_stays : (brokens : List BrokenTrade) (least : Option BrokenTrade) (broken : BrokenTrade) → LeastStays brokens least broken
least_stays brokens None broken none = (
  Contains-push brokens broken,
  All-push (stands_behind broken) brokens broken
      (subst (All (stands_behind broken)) (sym none) (All-nil (stands_behind broken)))
      (not-itself broken.turn),
)
least_stays brokens (Some least) broken are = with-one broken brokens least are.0 are.1 (comes_before broken.turn least.turn) refl
