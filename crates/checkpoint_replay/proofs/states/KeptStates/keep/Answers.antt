-- That `KeptStates::keep` keeps its contract.
use Rattle.std.proofs.Common.{All, Contains, List, subst, ℕ, ◌≡◌, ◌⊎◌}
use Rattle.checkpoint_replay.proofs.StateFacts.{kept-after}
use Rattle.checkpoint_replay.specs.KeptStates.{states_in}
use Rattle.checkpoint_replay.specs.declared.states.KeptState.{KeptState}
use Rattle.checkpoint_replay.proofs.states.KeptStates.keep.Goals as goal

pub returns-clause-own : goal.returns-clause-own
returns-clause-own c =
    let new = states_in c.keep_state.new.rows.entries c.args.household in
    subst (λ (rows : List (ℕ × List KeptState)). All (λ (kept : KeptState). Contains (states_in rows c.args.household) kept ⊎ kept ≡ c.args.state) new) c.self.view_is
    (kept-after c.keep_state.result (states_in c.self.inside.rows.entries c.args.household) new c.args.state c.keep_state.ensures.ok c.keep_state.ensures.err)
