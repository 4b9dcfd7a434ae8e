-- That `NumberedOrders::push` keeps its contract.
use Rattle.std.proofs.Common.{List, ap, of_calls, rules, subst, sym, ℕ, ◌++◌, ◌∙◌, ◌∷◌, ◌≡◌, []}
use Rattle.agent_events.specs.declared.order.Order.{Order}
use Rattle.checkpoint_replay.proofs.NumberFacts.{kept-more, numbered-more}
use Rattle.checkpoint_replay.specs.NumberedRows.{AreKept, AreUpTo, orders_numbered}
use Rattle.checkpoint_replay.specs.Replays.{NumberedOrder}
use Rattle.checkpoint_replay.proofs.numbered_orders.NumberedOrders.push.Goals as goal

-- the numbers and the orders after it
numbers-after : (c : goal.After-unwrap) → c.push-kept.new.self.items ≡ c.self.inside.numbers.items ++ c.args.number ∷ []
numbers-after c = search (rules, of_calls)

pub invariant_of-self-2 : goal.invariant_of-self-2
invariant_of-self-2 c =
    let P : List ℕ → Type 0 = λ ns. AreKept ns c.push_copy.new.self in
    let Q : List Order → Type 0 = λ os. AreKept (c.self.inside.numbers.items ++ c.args.number ∷ []) os in
    let R : List NumberedOrder → Type 0 = λ rows. AreUpTo c.args.number rows in
    subst P (sym (numbers-after c))
    (subst Q (sym c.in_ok-push_copy.ensures.ok)
    (kept-more c.self.inside.numbers.items c.self.inside.orders c.args.number c.args.order c.self.invariant (subst R (sym c.self.view_is) c.requires)))

pub returns-clause-ok : goal.returns-clause-ok
returns-clause-ok c =
    ap (λ (ns : List ℕ). orders_numbered ns c.push_copy.new.self) (numbers-after c)
    ∙ (ap (orders_numbered (c.self.inside.numbers.items ++ c.args.number ∷ [])) c.in_ok-push_copy.ensures.ok
    ∙ (numbered-more c.self.inside.numbers.items c.self.inside.orders c.args.number c.args.order c.self.invariant.each
    ∙ ap (λ (rows : List NumberedOrder). rows ++ record { number = c.args.number; order = c.args.order } ∷ []) c.self.view_is))
