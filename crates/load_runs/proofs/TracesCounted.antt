-- The orders of a lawful journal, counted by their traces.
use Rattle.std.proofs.Common.{Bool, Contains, List, [], ap, arith, cond, false, get_or, length, refl, suc, take, true, zero, ℕ, ◌+◌, ◌<◌, ◌∙◌, ◌∷◌, ◌≡◌}
use Rattle.std.specs.List.{count_by}
use Rattle.std.proofs.lemmas.List.Sums.{count_by_more_no, count_by_more_yes, sum_by-cons}
use Rattle.agent_events.specs.declared.order.OrderRow.{OrderRow}
use Rattle.agent_events.specs.declared.reply.OrderState.{OrderState}
use Rattle.load_requests.specs.Summaries.{orders_in}
use Rattle.load_runs.proofs.LooksShown.{state_of_named}
use Rattle.load_runs.proofs.NamesBegun.{named, names_are}
use Rattle.load_runs.specs.Looks.{is_so, is_traced}
use Rattle.load_runs.specs.OrderNames.{order_names}
use Rattle.register_laws.proofs.Sums.{count-map}
use Rattle.register_laws.specs.Lawful.{book_behind}
use Rattle.register_machine.specs.journal.Journals.{Journal}
use Rattle.register_machine.specs.journal.Lawful.{IsLawful}
use Rattle.register_machine.specs.pricing.CorrectedOrders.{orders_of}
use Rattle.register_machine.specs.queries.Trace.{trace_of_row}

-- two tests that agree on each item count the same
counts-agree : {X : Type 0} (p q : X → Bool) (xs : List X) → ((x : X) → Contains xs x → p x ≡ q x) → count_by p xs ≡ count_by q xs
counts-agree p q [] agree = refl
counts-agree {X = X} p q (x ∷ xs) agree =
    let first = ap {B = ℕ} (λ (b : Bool). cond b 1 0) (agree x (zero, omega arith, refl)) in
    let rest = counts-agree p q xs (λ y (k, short, is). agree y (suc k, omega (arith, short), is)) in
    omega (arith, first, rest, sum_by-cons (λ (y : X). cond (p y) 1 0) x xs, sum_by-cons (λ (y : X). cond (q y) 1 0) x xs)

pub traces_counted : (test : OrderState → Bool) (journal : Journal) → IsLawful journal → count_by (is_traced test journal) (order_names journal) ≡ orders_in test (book_behind journal)
traces_counted test journal lawful =
    ap (count_by (is_traced test journal)) (names_are journal)
    ∙ (count-map (is_traced test journal) named (orders_of journal)
    ∙ counts-agree (λ (row : OrderRow). is_traced test journal (named row)) (λ (row : OrderRow). test (trace_of_row (book_behind journal) row).state) (orders_of journal)
    (λ row there. ap (is_so test) (state_of_named journal lawful row there)))

-- one name more counts one more where it passes
pub count_one_more : {X : Type 0} (p : X → Bool) (xs : List X) (i : ℕ) (d : X) → i < length xs → count_by p (take (i + 1) xs) ≡ count_by p (take i xs) + cond (p (get_or xs i d)) 1 0
count_one_more {X = X} p xs i d short = by (p (get_or xs i d)) refl
  where
    by : (b : Bool) → p (get_or xs i d) ≡ b → count_by p (take (i + 1) xs) ≡ count_by p (take i xs) + cond b 1 0
    by true is = count_by_more_yes p xs i d short is
    by false is = let same = count_by_more_no p xs i d short is in omega (arith, same)
