-- The turns of two trades tell which order is executed first.
use Rattle.std.proofs.Common.{List, None, Option, Some, ap, option_map, refl, sym, ◌<◌, ◌∙◌, ◌≡◌, ◌⊎◌}
use Rattle.std.proofs.lemmas.Bool.Decides.{Decides-and, Decides-eqb, Decides-ltb, Decides-or}
use Rattle.std.specs.Bool.{Decides}
use Rattle.agent_events.specs.declared.order.OrderRow.{OrderRow}
use Rattle.agent_events.specs.declared.trade.Trade.{Trade}
use Rattle.desk_books.specs.Turns.{TurnsTell, comes_before, turn_at}
use Rattle.desk_books.specs.declared.turns.Turn.{Turn}
use Rattle.register_laws.specs.Priced.{GoesBefore}
use Rattle.register_machine.specs.pricing.CorrectedOrders.{order_named}

-- the test on turns decides the relation on trades and rows
turns-decide : (trade later : Trade) (row other : OrderRow) → Decides (comes_before (turn_at trade row) (turn_at later other)) ((trade.sheet < later.sheet) ⊎ ((trade.sheet ≡ later.sheet) × GoesBefore row other))
turns-decide trade later row other =
    Decides-or _ _ (Decides-ltb trade.sheet later.sheet)
    (Decides-and _ _ (Decides-eqb trade.sheet later.sheet)
    (Decides-or _ _ (Decides-ltb row.receipt other.receipt) (Decides-and _ _ (Decides-eqb row.receipt other.receipt) (Decides-ltb row.place other.place))))

named : (trade : Trade) (found : Option OrderRow) (turn : Turn) → option_map (turn_at trade) found ≡ Some turn → (row : OrderRow) × (found ≡ Some row) × (turn ≡ turn_at trade row)
named trade None turn h = absurd (none h)
  where
    none : None ≡ Some turn → ⊥
    none e = cc
named trade (Some row) turn h = (row, refl, same h)
  where
    same : Some (turn_at trade row) ≡ Some turn → turn ≡ turn_at trade row
    same e = cc

one-row : (found : Option OrderRow) (row other : OrderRow) → found ≡ Some row → found ≡ Some other → row ≡ other
one-row found row other a b = cc

pub turns_tell : (orders : List OrderRow) (trade later : Trade) → TurnsTell orders trade later
turns_tell orders trade later = record {
  before = λ turn other at behind is. let own = named trade (order_named orders trade.account trade.ref_no) turn at in let next = named later (order_named orders later.account later.ref_no) other behind in record {
    turn = λ row second found then_found. (turns-decide trade later row second).0
        (sym (ap (λ (t : Turn). comes_before t other) (own.2 ∙ ap (turn_at trade) (one-row (order_named orders trade.account trade.ref_no) own.0 row own.1 found))
        ∙ ap (λ (t : Turn). comes_before (turn_at trade row) t) (next.2 ∙ ap (turn_at later) (one-row (order_named orders later.account later.ref_no) next.0 second next.1 then_found)))
        ∙ is);
  };
  only = λ turn other at behind is. let own = named trade (order_named orders trade.account trade.ref_no) turn at in let next = named later (order_named orders later.account later.ref_no) other behind in
      ap (λ (t : Turn). comes_before t other) own.2
      ∙ (ap (λ (t : Turn). comes_before (turn_at trade own.0) t) next.2
      ∙ (turns-decide trade later own.0 next.0).1 (is.turn own.0 next.0 own.1 next.1));
}
