-- Rows in turn go by their receipts, and those of them that pass are what passes, in turn.
use Rattle.std.proofs.Common.{Bool, List, [], ap, arith, cond, false, filter, get_or, length, nat_le, nat_lt, refl, true, ℕ, ◌++◌, ◌<◌, ◌∙◌, ◌∷◌, ◌≡◌, ◌≤◌}
use Rattle.std.proofs.lemmas.Bool.{le-ltb, leb-false, leb-true, lt-leb, lt-ltb, ltb-true}
use Rattle.std.proofs.lemmas.List.Elements.{All-cons, filter-append, filter_passes}
use Rattle.std.proofs.lemmas.List.Kept.{AllPairs-cons, AllPairs-filter}
use Rattle.std.specs.Prelude.{AllPairs}
use Rattle.agent_events.specs.declared.order.OrderRow.{OrderRow}
use Rattle.register_laws.proofs.ListParts.{filter-sides, filter-swap, fold-part, pairs-append}
use Rattle.register_machine.specs.replay.Replay.{all_in_turn, in_turn}

abbrev GoesBy : OrderRow → OrderRow → Type 0
GoesBy row other = row.receipt ≤ other.receipt

pub turn-sorted : (row : OrderRow) (rows : List OrderRow) → AllPairs GoesBy rows → AllPairs GoesBy (in_turn row rows)
turn-sorted row rows ordered =
    let less = λ (other : OrderRow). nat_le other.receipt row.receipt in
    let more = λ (other : OrderRow). nat_lt row.receipt other.receipt in
    let behind = λ (k : ℕ) (d : OrderRow) (short : k < length (filter more rows)). ltb-true row.receipt (get_or (filter more rows) k d).receipt (filter_passes more rows k d short) in
    pairs-append GoesBy (filter less rows) (row ∷ filter more rows) (AllPairs-filter GoesBy less rows ordered)
    (AllPairs-cons GoesBy row (filter more rows) (λ k d short. omega (arith, behind k d short)) (AllPairs-filter GoesBy more rows ordered))
    (λ k d short.
    let early = leb-true (get_or (filter less rows) k d).receipt row.receipt (filter_passes less rows k d short) in
    All-cons (GoesBy (get_or (filter less rows) k d)) row (filter more rows) early (λ i e within. omega (arith, early, behind i e within)))

record TurnsAlike (q : OrderRow → Bool) (ordered part : List OrderRow) : Type 0 where
  sorted : AllPairs GoesBy ordered
  rows : filter q ordered ≡ part

passing-turn : (q : OrderRow → Bool) (ordered part : List OrderRow) (row : OrderRow) → q row ≡ true → TurnsAlike q ordered part → TurnsAlike q (in_turn row ordered) (in_turn row part)
passing-turn q ordered part row mine is =
    let less : OrderRow → Bool = λ other. nat_le other.receipt row.receipt in
    let more : OrderRow → Bool = λ other. nat_lt row.receipt other.receipt in
    record {
      sorted = turn-sorted row ordered is.sorted;
      rows = filter-append q (filter less ordered) (row ∷ filter more ordered)
          ∙ (ap (λ b. filter q (filter less ordered) ++ cond b (row ∷ filter q (filter more ordered)) (filter q (filter more ordered))) mine
          ∙ (ap (λ ys. ys ++ row ∷ filter q (filter more ordered)) (filter-swap q less ordered)
          ∙ (ap (λ ys. filter less (filter q ordered) ++ row ∷ ys) (filter-swap q more ordered)
          ∙ ap (in_turn row) is.rows)));
    }

failing-turn : (q : OrderRow → Bool) (ordered part : List OrderRow) (row : OrderRow) → q row ≡ false → TurnsAlike q ordered part → TurnsAlike q (in_turn row ordered) part
failing-turn q ordered part row other is =
    let less : OrderRow → Bool = λ x. nat_le x.receipt row.receipt in
    let more : OrderRow → Bool = λ x. nat_lt row.receipt x.receipt in
    record {
      sorted = turn-sorted row ordered is.sorted;
      rows = filter-append q (filter less ordered) (row ∷ filter more ordered)
          ∙ (ap (λ b. filter q (filter less ordered) ++ cond b (row ∷ filter q (filter more ordered)) (filter q (filter more ordered))) other
          ∙ (filter-sides q less more GoesBy (λ x mine e. le-ltb row.receipt x.receipt (leb-true x.receipt row.receipt e)) (λ x mine e. lt-ltb row.receipt x.receipt (leb-false x.receipt row.receipt e))
          (λ x y by e. let gt = leb-false x.receipt row.receipt e in lt-leb y.receipt row.receipt (omega (arith, gt, by))) ordered is.sorted
          ∙ is.rows));
    }

pub turns-filter : (q : OrderRow → Bool) (rows : List OrderRow) → filter q (all_in_turn rows) ≡ all_in_turn (filter q rows)
turns-filter q rows =
    (fold-part (TurnsAlike q) q (λ ordered row. in_turn row ordered) (λ ordered row. in_turn row ordered)
    (λ d e row mine is. passing-turn q d e row mine is) (λ d e row other is. failing-turn q d e row other is)
    [] [] rows (record { sorted = λ i j d lt within. absurd (omega (arith, within)); rows = refl })).rows
