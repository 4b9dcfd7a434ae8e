-- That `Ledger::reopen_behind` keeps its contract.
use Rattle.checkpoint_replay.proofs.ReopenedDay.{one-move}
use Rattle.checkpoint_replay.specs.Moves.{AreMoves}
use Rattle.checkpoint_replay.specs.declared.change.HouseholdMove.{HouseholdMove}
use Rattle.std.proofs.Common.{[], ap, rules, subst, sym, ◌∙◌, ◌∷◌, ◌≡◌}
use Rattle.checkpoint_replay.proofs.ledger.Ledger.reopen_behind.Goals as goal

pub change_of-requires : goal.change_of-requires
change_of-requires g c =
    let is : c.push.new.self.items ≡ c.in_ok-change.change ∷ [] = search rules in
    let made = c.in_ok-change.ensures.change in
    subst AreMoves (sym is) (one-move c.in_ok-change.change (ap (λ (change : HouseholdMove). change.state.number) made ∙ sym (ap (λ (change : HouseholdMove). change.household) made)))
