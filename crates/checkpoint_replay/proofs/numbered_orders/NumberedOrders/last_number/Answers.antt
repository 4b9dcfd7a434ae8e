-- That `NumberedOrders::last_number` keeps its contract.
use Rattle.std.proofs.Common.{All, List, [], ap, map, subst, sym, ℕ, ◌∙◌, ◌≡◌, ◌≤◌}
use Rattle.std.specs.Prelude.{Contains}
use Rattle.checkpoint_replay.proofs.NumberFacts.{all-numbered, if-no_number, if-number, none-numbered, numbers-numbered}
use Rattle.checkpoint_replay.specs.NumberedRows.{AreUpTo}
use Rattle.checkpoint_replay.specs.Replays.{NumberedOrder}
use Rattle.checkpoint_replay.proofs.numbered_orders.NumberedOrders.last_number.Goals as goal

pub returns-clause-most : goal.returns-clause-most
returns-clause-most c =
    let numbers = c.self.inside.numbers.items in
    let orders = c.self.inside.orders in
    let P : ℕ → Type 0 = λ number. All (λ n. n ≤ number) c.deref.result.now in
    let Q : ℕ → Type 0 = λ number. AreUpTo number c.args.self.now in
    if-number P Q c.last_of.result (λ number most.
    let R : List ℕ → Type 0 = λ ns. All (λ n. n ≤ number) ns in
    let S : List NumberedOrder → Type 0 = λ rows. AreUpTo number rows in
    subst S c.self.view_is (all-numbered (λ n. n ≤ number) numbers orders c.self.invariant.each (subst R c.deref.ensures.value most)))
    c.last_of.ensures.most

pub returns-clause-last : goal.returns-clause-last
returns-clause-last c =
    let numbers = c.self.inside.numbers.items in
    let orders = c.self.inside.orders in
    let P : ℕ → Type 0 = λ number. Contains c.deref.result.now number in
    let Q : ℕ → Type 0 = λ number. Contains (map (λ row. row.number) c.args.self.now) number in
    if-number P Q c.last_of.result (λ number last.
    let R : List ℕ → Type 0 = λ ns. Contains ns number in
    subst R
    (c.deref.ensures.value ∙ (sym (numbers-numbered numbers orders c.self.invariant.each) ∙ ap (map (λ (row : NumberedOrder). row.number)) c.self.view_is))
    last)
    c.last_of.ensures.last

pub returns-clause-none : goal.returns-clause-none
returns-clause-none c =
    if-no_number (c.deref.result.now ≡ []) (c.args.self.now ≡ []) c.last_of.result (λ none.
    sym c.self.view_is ∙ none-numbered c.self.inside.numbers.items c.self.inside.orders (sym c.deref.ensures.value ∙ none))
    c.last_of.ensures.none
