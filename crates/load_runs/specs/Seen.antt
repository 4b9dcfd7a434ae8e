-- A summary as the program holds it, and its lines.
use Rattle.std.specs.Prelude.{List, [], codes, ℕ, ◌++◌, ◌∷◌}
use Rattle.load_requests.specs.Summaries.{Summary, count_line}
use Rattle.load_runs.specs.declared.summary.Summary.{Summary as SummaryHeld}

abbrev pub summary_seen : SummaryHeld → Summary
summary_seen held = record {
  events = held.events;
  sheets = held.sheets;
  refused = held.refused;
  filled = held.filled;
  unfilled = held.unfilled;
  classes = held.classes;
}

-- a line with its line feed
abbrev pub with_line_feed : List ℕ → List ℕ
with_line_feed line = line ++ 10 ∷ []

-- the lines of the counts
abbrev pub count_lines : Summary → List (List ℕ)
count_lines summary =
    count_line (codes "events") summary.events ∷ count_line (codes "sheets") summary.sheets
    ∷ count_line (codes "refused") summary.refused ∷ count_line (codes "filled") summary.filled
    ∷ count_line (codes "unfilled") summary.unfilled ∷ []
