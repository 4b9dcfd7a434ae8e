-- The trades that are broken by the names of those that were filled.
use Rattle.std.proofs.Common.{Bool, List, Option, Some, [], ap, cond, false, find, refl, ◌&&◌, ◌∙◌, ◌∷◌, ◌≡◌, ◌||◌}
use Rattle.std.specs.Option.{option_map_or}
use Rattle.agent_events.specs.declared.order.Order.{Order}
use Rattle.agent_events.specs.declared.trade.Trade.{Trade}
use Rattle.desk_books.specs.Filled.{is_broken_by, name_of, named_filled}
use Rattle.desk_books.specs.declared.filled.TradeName.{TradeName}
use Rattle.register_machine.specs.rules.Breaks.{is_broken, is_filled, is_trade_of}
use Rattle.std.specs.Prelude.{not}

find-agree : {X : Type 0} (f g : X → Bool) → ((x : X) → f x ≡ g x) → (xs : List X) → find f xs ≡ find g xs
find-agree f g same [] = refl
find-agree f g same (x ∷ xs) = ap (λ b. cond b (Some x) (find f xs)) (same x) ∙ ap (λ later. cond (g x) (Some x) later) (find-agree f g same xs)

pub broken-by-names : (order : Option Order) (filled : TradeName → Bool) (before after : List Trade) → ((q : TradeName) → filled q ≡ named_filled before q)
    → find (is_broken_by order filled) after ≡ find (is_broken order before) after
broken-by-names order filled before after same =
    find-agree (is_broken_by order filled) (is_broken order before)
    (λ trade. ap (λ b. not (is_filled trade.outcome) && (b || option_map_or (λ (own : Order). is_trade_of own.account own.ref_no trade) order false)) (same (name_of trade)))
    after
