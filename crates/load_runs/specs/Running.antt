-- How far a load has run.
use Rattle.std.specs.Prelude.{ℕ, ◌≡◌}
use Rattle.agent_keeper.specs.Memory.{surely_kept}
use Rattle.load_requests.specs.Runs.{LoadRun}
use Rattle.load_runs.specs.declared.running.Running.{Running}
use Rattle.register_desk.specs.Rows.{rows_of}

-- the journal so far, and how many requests were refused
abbrev pub run_at : Running → LoadRun
run_at running = record { journal = running.desk.book.journal; refused = running.refused }

-- the keeper keeps the rows of the journal
abbrev pub HasRun : Running → Type 0
HasRun running = (surely_kept running.keeper).rows ≡ rows_of running.desk.book.journal

-- no load has so many requests
abbrev pub most_requests : ℕ
most_requests = 10000000
