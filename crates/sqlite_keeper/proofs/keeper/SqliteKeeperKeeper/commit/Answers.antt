-- That `SqliteKeeperKeeper::commit` keeps its contract.
use Rattle.std.proofs.Common.{Result, Ok, Err}
use Rattle.std.specs.Prelude.{OnOk}
use Rattle.sqlite_keeper.proofs.keeper.SqliteKeeperKeeper.commit.Goals as goal

-- a keeper that tells nothing is never honest
never : {A E : Type 0} (r : Result A E) (P : Type 0) → OnOk r (⊥ → P)
never (Ok y) P = λ none. absurd none
never (Err e) P = tt

pub returns-clause-stops : goal.returns-clause-stops
returns-clause-stops c = never _ _
