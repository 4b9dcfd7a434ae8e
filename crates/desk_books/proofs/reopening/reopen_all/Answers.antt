-- That `reopen_all` keeps its contract.
use Rattle.std.proofs.Common.{List, Option, [], arith, get_or, length, rules, subst, sum_by, sym, take, ℕ, ◌++◌, ◌+◌, ◌<◌, ◌∷◌, ◌≡◌, ◌≤◌}
use Rattle.std.proofs.lemmas.List.{take_more}
use Rattle.std.proofs.lemmas.List.Sums.{sum_by-append}
use Rattle.checkpoint_replay.specs.declared.change.HouseholdMove.{HouseholdMove}
use Rattle.desk_books.specs.declared.least.BrokenTrade.{BrokenTrade}
use Rattle.desk_books.proofs.ReopenedMore.{none_yet}
use Rattle.desk_books.proofs.TrialSteps.{next_differs}
use Rattle.desk_books.specs.Reopened.{AreReopened}
use Rattle.desk_books.specs.Starts.{sheets_replayed}
use Rattle.desk_books.proofs.reopening.reopen_all.Goals as goal

pub loop-household-init : goal.loop-household-init
loop-household-init g c =
    let none : c.in_ok-moves.moves.items ≡ [] = search rules in
    record {
      reopened = subst (λ (moves : List HouseholdMove). AreReopened c.args.books.now c.args.event.now c.args.facts.now [] moves c.new-first.result.least) (sym none)
          (subst (λ (first : Option BrokenTrade). AreReopened c.args.books.now c.args.event.now c.args.facts.now [] [] first) (sym c.new-first.ensures) (none_yet c.args.books.now c.args.event.now c.args.facts.now));
      steps = omega arith;
      behind = omega arith;
    }

pub loop-household-preserved : goal.loop-household-preserved
loop-household-preserved g c =
    let all = c.args.households.now in
    let place = c.loop-household.household-index in
    let replayed = sheets_replayed c.args.books.now.kept c.args.before c.args.facts.now.sheet in
    let short : place < length all = omega (arith, c.loop-household.auto.household-index-end) in
    let pushed : c.push.new.self.items ≡ c.loop-household.moves.items ++ c.in_ok-moved.moved ∷ [] = search rules in
    record {
      reopened = subst (λ (households : List ℕ). AreReopened c.args.books.now c.args.event.now c.args.facts.now households c.push.new.self.items c.reopen_more.new.first.least) (sym (take_more all place 0 short))
          (subst (λ (moves : List HouseholdMove). AreReopened c.args.books.now c.args.event.now c.args.facts.now (take place all ++ get_or all place 0 ∷ []) moves c.reopen_more.new.first.least) (sym pushed)
          (c.in_ok-moved.ensures.more (take place all) c.loop-household.moves.items (next_differs all place 0 c.requires.rising short) c.loop-household.invariant.reopened));
      steps = omega (arith, c.in_ok-moved.ensures.steps, c.loop-household.invariant.steps);
      behind = subst (λ (households : List ℕ). c.reopen_more.new.steps ≤ c.args.steps.now + sum_by replayed households) (sym (take_more all place 0 short))
          (omega (arith, sum_by-append replayed (take place all) (get_or all place 0 ∷ []), c.in_ok-moved.ensures.behind, c.loop-household.invariant.behind));
    }
