-- One commit: its statements, each run in its turn inside one transaction.
use Rattle.std.specs.Prelude.{◌≡◌, ◌≤◌, ◌+◌, ℕ, pos, List, [], ◌∷◌, ◌++◌, map, Ok}
use Rattle.agent_keeper.specs.declared.batch.Batch.{Batch}
use Rattle.agent_keeper.specs.declared.batch.CheckName.{CheckName}
use Rattle.agent_keeper.specs.declared.batch.CheckPut.{CheckPut}
use Rattle.sqlite_value.specs.Order.{Row}
use Rattle.sqlite_value.specs.declared.value.Value.TheVariants.{Int, Blob}
use Rattle.sqlite.specs.Effect.{Database}
use Rattle.sqlite.specs.State.{State, HasCleanDisk, ExecutesInside, KeepsCommit, Survives}
use Rattle.sqlite_keeper.specs.declared.tables.TheConstants.{INSERT_ROW, PUT_CHECK, REMOVE_CHECK}

-- a statement with its parameters, and how many rows of its table it changes
pub record Change : Type 0 where
  pub text : List ℕ
  pub params : Row
  pub least : ℕ
  pub most : ℕ

abbrev pub row_added : ℕ → List ℕ → Change
row_added place bytes = record {
  text = INSERT_ROW.now;
  params = Int (pos place) ∷ Blob bytes ∷ [];
  least = 1;
  most = 1;
}

abbrev pub check_put : CheckPut → Change
check_put put = record {
  text = PUT_CHECK.now;
  params = Int (pos put.household) ∷ Int (pos put.sheet) ∷ Blob put.bytes ∷ [];
  least = 1;
  most = 1;
}

abbrev pub check_removed : CheckName → Change
check_removed name = record {
  text = REMOVE_CHECK.now;
  params = Int (pos name.household) ∷ Int (pos name.sheet) ∷ [];
  least = 0;
  most = 1;
}

-- the rows take the places from this one on
abbrev pub rows_added : ℕ → List (List ℕ) → List Change
rows_added place [] = []
rows_added place (bytes ∷ rows) = row_added place bytes ∷ rows_added (place + 1) rows

-- all that a batch changes: its rows, its puts and its removals, in this order
abbrev pub changes_of : ℕ → Batch → List Change
changes_of base batch =
    rows_added base batch.rows ++ map check_put batch.puts ++ map check_removed batch.removes

-- nothing was committed, and a crash leaves what it left before
pub record CommitsNothing (old new : State) : Type 0 where
  pub kept : HasCleanDisk new → KeepsCommit old new
  pub survives : Survives old new (λ _. ⊥)

module _ {C : Type 0} (shows : C → State) where
  -- the database runs the statement, as SQLite does, in the transaction that is open and stays open
  pub record Runs (change : Change) (old new : C) : Type 0 where
    pub count : ℕ
    pub ran : ExecutesInside 0 change.text change.params (shows old) (shows new) (Ok count)
    pub least : change.least ≤ count
    pub most : count ≤ change.most

  -- it runs each of them, one behind the other
  abbrev pub RunsAll : List Change → C → C → Type 0
  RunsAll [] old new = new ≡ old
  RunsAll (change ∷ more) old new = (mid : C) × Runs change old mid × RunsAll more mid new

  -- this is the database behind the last of them
  pub record MakesAll (changes : List Change) (begun : C) (db : Database) : Type 0 where
    pub last : C
    pub ran : RunsAll changes begun last
    pub is : db ≡ (shows last).now
