-- That `NumberedOrders::number_from` keeps its contract.
use Rattle.std.proofs.Common.{List, ap, arith, drop, get_or, length, subst, sym, ℕ, ◌<◌, ◌∙◌, ◌∷◌, ◌≡◌, ◌≤◌}
use Rattle.std.specs.List.Sorted.{IsPartitionPoint}
use Rattle.std.specs.Prelude.{IfNone, Option}
use Rattle.checkpoint_replay.proofs.MetFacts.{met-step, place-later}
use Rattle.checkpoint_replay.proofs.NumberFacts.{length-numbered}
use Rattle.checkpoint_replay.specs.NumberedRows.{numbers_met}
use Rattle.checkpoint_replay.specs.Replays.{NumberedOrder}
use Rattle.checkpoint_replay.proofs.numbered_orders.NumberedOrders.number_from.Goals as goal

-- the place that a search finds, by the kept numbers
place-is : (c : goal.After-place_behind) → IsPartitionPoint (λ n. n ≤ c.in_ok-number.field-0.now) (λ n. c.in_ok-number.field-0.now < n) c.self.inside.numbers.items c.place_behind.result
place-is c =
    let P : List ℕ → Type 0 = λ ns. IsPartitionPoint (λ n. n ≤ c.in_ok-number.field-0.now) (λ n. c.in_ok-number.field-0.now < n) ns c.place_behind.result in
    subst P c.deref-2.ensures.value c.place_behind.ensures.point

within : (c : goal.After-place_behind) → c.args.place < length c.self.inside.numbers.items
within c =
    let short = c.in_ok-number.ensures.lookup.3.0 in
    let long = ap length c.deref.ensures.value in
    omega arith

number-is : (c : goal.After-place_behind) → c.in_ok-number.field-0.now ≡ get_or c.self.inside.numbers.items c.args.place 0
number-is c =
    c.in_ok-number.ensures.lookup.3.1 0
    ∙ ap (λ (ns : List ℕ). get_or ns c.args.place 0) c.deref.ensures.value

pub returns-in_err-number-clause-end : goal.returns-in_err-number-clause-end
returns-in_err-number-clause-end c =
    let past = c.in_err-number.ensures.lookup.3 in
    let long = ap length c.deref.ensures.value in
    let rows = length-numbered c.self.inside.numbers.items c.self.inside.orders c.self.invariant.each in
    let same = c.self.invariant.each in
    let seen = ap length c.self.view_is in
    let P : Option (ℕ × ℕ) → Type 0 = λ o. IfNone o (length c.args.self.now ≤ c.args.place) in
    subst P (sym c.from_residual.ensures) (omega arith)

pub returns-clause-met : goal.returns-clause-met
returns-clause-met c =
    let bound = c.place_behind.ensures.bound in
    let long = ap length c.deref-2.ensures.value in
    let P : List NumberedOrder → Type 0 = λ rows. numbers_met (drop c.args.place rows) ≡ c.in_ok-number.field-0.now ∷ numbers_met (drop c.place_behind.result rows) in
    subst P c.self.view_is
    (met-step c.self.inside.numbers.items c.self.inside.orders c.in_ok-number.field-0.now c.args.place c.place_behind.result c.self.invariant (within c) (number-is c) (place-is c) (omega arith))

pub returns-clause-behind : goal.returns-clause-behind
returns-clause-behind c =
    place-later c.self.inside.numbers.items c.in_ok-number.field-0.now c.args.place c.place_behind.result c.self.invariant.rise (within c) (number-is c) (place-is c)

pub returns-clause-within : goal.returns-clause-within
returns-clause-within c =
    let bound = c.place_behind.ensures.bound in
    let long = ap length c.deref-2.ensures.value in
    let rows = length-numbered c.self.inside.numbers.items c.self.inside.orders c.self.invariant.each in
    let same = c.self.invariant.each in
    let seen = ap length c.self.view_is in
    omega arith
