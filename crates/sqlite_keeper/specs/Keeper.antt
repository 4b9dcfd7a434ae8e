-- What is known of a keeper over a file.
use Rattle.std.specs.Prelude.{ℕ, Bool, is_some}
use Rattle.sqlite_keeper.specs.declared.keeper.SqliteKeeper.{SqliteKeeper}

-- it has an open store
abbrev pub has_store : SqliteKeeper → Bool
has_store keeper = is_some keeper.store

-- how many calls have failed
abbrev pub faults_made : SqliteKeeper → ℕ
faults_made keeper = keeper.faults
