-- That `start` keeps its contract.
use Rattle.std.proofs.Common.{ap, refl, sym, ◌∙◌}
use Rattle.agent_keeper.specs.Content.{Content}
use Rattle.agent_keeper.specs.Memory.{surely_kept}
use Rattle.load_runs.proofs.KeptInMemory.{never_rose, no_events, nothing_damaged, wants_memory}
use Rattle.load_runs.proofs.answers.start.Goals as goal

-- The keeper fails at nothing, and it has no row that could be damaged.
pub not_started-requires : goal.not_started-requires
not_started-requires g c =
    wants_memory c.start.result c.in-Err.fault c.in-Err.is (λ is. never_rose (c.start.ensures.fault is))
    (λ place is. nothing_damaged place (surely_kept c.start.new.keeper).rows
    (ap (λ (kept : Content). kept.rows) (c.start.ensures.reads.told (surely_kept c.start.new.keeper) refl) ∙ c.requires)
    (c.start.ensures.damaged place is (surely_kept c.start.new.keeper) refl).0)

-- No row is kept still, so the journal has no event.
pub returns-in-Ok-clause-journal : goal.returns-in-Ok-clause-journal
returns-in-Ok-clause-journal g c =
    let kept = surely_kept c.start.new.keeper in
    no_events c.in-Ok.desk.book.journal
    (sym (c.in-Ok.ensures.opened kept refl)
    ∙ (ap (λ (content : Content). content.rows) (c.start.ensures.reads.told kept refl) ∙ c.requires))

pub returns-in-Ok-clause-kept : goal.returns-in-Ok-clause-kept
returns-in-Ok-clause-kept g c =
    ap (λ (content : Content). content.rows) (c.start.ensures.reads.told (surely_kept c.start.new.keeper) refl)
    ∙ c.requires
