-- That `load_text` keeps its contract.
use Rattle.std.proofs.Common.{ap, ◌∙◌}
use Rattle.load_requests.specs.Runs.{LoadRun}
use Rattle.load_requests.specs.Summaries.{summary_of, summary_text}
use Rattle.load_runs.proofs.load.load_text.Goals as goal

-- The text is that of the summary, and the summary is that of the run.
pub returns : goal.returns
returns g c =
    c.in_ok-text.ensures
    ∙ (ap summary_text c.in_ok-summary.ensures
    ∙ ap (λ (run : LoadRun). summary_text (summary_of run)) c.in_ok-running.ensures.run)
