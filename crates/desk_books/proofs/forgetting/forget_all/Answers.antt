-- That `forget_all` keeps its contract.
use Rattle.std.proofs.Common.{List, arith, get_or, subst, sym, take, ℕ}
use Rattle.std.proofs.lemmas.List.{take_all, take_more}
use Rattle.desk_books.specs.Settled.{AreBefore}
use Rattle.desk_books.proofs.ForgetFacts.{none-forgotten, one-forgotten}
use Rattle.desk_books.proofs.forgetting.forget_all.Goals as goal

pub loop-household-init : goal.loop-household-init
loop-household-init c = none-forgotten c.args.kept.now c.args.before

pub loop-household-preserved : goal.loop-household-preserved
loop-household-preserved c =
    let all = c.args.households.now in
    let place = c.loop-household.household-index in
    subst (λ (households : List ℕ). AreBefore households c.args.before c.args.kept.now c.forget_from.new.self) (sym (take_more all place 0 (omega (arith, c.loop-household.auto.household-index-end))))
    (one-forgotten (take place all) (get_or all place 0) c.args.before c.args.kept.now c.loop-household.kept c.forget_from.new.self c.loop-household.invariant c.forget_from.ensures.own c.forget_from.ensures.others)

pub returns : goal.returns
returns c =
    subst (λ (households : List ℕ). AreBefore households c.args.before c.args.kept.now c.loop-household.kept)
    (take_all c.loop-household.household-index c.args.households.now (omega arith)) c.loop-household.invariant
