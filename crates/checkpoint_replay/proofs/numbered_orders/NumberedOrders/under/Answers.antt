-- That `NumberedOrders::under` keeps its contract.
use Rattle.std.proofs.Common.{List, ap, arith, drop, length, subst, take, ℕ, ◌-◌, ◌<◌, ◌∙◌, ◌≤◌}
use Rattle.std.specs.List.Sorted.{IsPartitionPoint}
use Rattle.agent_events.specs.declared.order.Order.{Order}
use Rattle.checkpoint_replay.proofs.NumberFacts.{first-before, under-is}
use Rattle.checkpoint_replay.specs.Replays.{NumberedOrder, orders_under}
use Rattle.checkpoint_replay.proofs.numbered_orders.NumberedOrders.under.Goals as goal

-- the two places by the kept numbers
abbrev pub IsFirst : goal.After-as_slice → List ℕ → Type 0
IsFirst c ns = IsPartitionPoint (λ n. n < c.args.number) (λ n. c.args.number ≤ n) ns c.first_place-first.result

abbrev pub IsBehind : goal.After-as_slice → List ℕ → Type 0
IsBehind c ns = IsPartitionPoint (λ n. n ≤ c.args.number) (λ n. c.args.number < n) ns c.place_behind-behind.result

pub part_of-requires-clause-rising : goal.part_of-requires-clause-rising
part_of-requires-clause-rising c =
    let low = subst (IsFirst c) c.deref.ensures.value c.first_place-first.ensures.point in
    let high = subst (IsBehind c) c.deref-2.ensures.value c.place_behind-behind.ensures.point in
    let bound = c.first_place-first.ensures.bound in
    let long = ap length c.deref.ensures.value in
    first-before c.self.inside.numbers.items c.args.number c.first_place-first.result c.place_behind-behind.result low high (omega arith)

pub part_of-requires-clause-within : goal.part_of-requires-clause-within
part_of-requires-clause-within c =
    let bound = c.place_behind-behind.ensures.bound in
    let long = ap length c.deref-2.ensures.value in
    let same = c.self.invariant.each in
    let those = ap length c.as_slice.ensures in
    omega arith

pub returns : goal.returns
returns c =
    let first = c.first_place-first.result in
    let behind = c.place_behind-behind.result in
    let Low : List ℕ → Type 0 = λ ns. IsPartitionPoint (λ n. n < c.args.number) (λ n. c.args.number ≤ n) ns first in
    let High : List ℕ → Type 0 = λ ns. IsPartitionPoint (λ n. n ≤ c.args.number) (λ n. c.args.number < n) ns behind in
    let low = subst Low c.deref.ensures.value c.first_place-first.ensures.point in
    let high = subst High c.deref-2.ensures.value c.place_behind-behind.ensures.point in
    let bound = c.first_place-first.ensures.bound in
    let long = ap length c.deref.ensures.value in
    let le : first ≤ behind = first-before c.self.inside.numbers.items c.args.number first behind low high (omega arith) in
    c.part_of.ensures
    ∙ (ap (λ (os : List Order). take (behind - first) (drop first os)) c.as_slice.ensures
    ∙ (under-is c.self.inside.numbers.items c.self.inside.orders c.args.number first behind c.self.invariant low high le
    ∙ ap (λ (rows : List NumberedOrder). orders_under c.args.number rows) c.self.view_is))
