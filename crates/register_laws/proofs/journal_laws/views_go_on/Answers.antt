-- The proof of the law `views_go_on`.
use Rattle.std.proofs.Common.{ap, filter, ◌∙◌}
use Rattle.register_laws.proofs.OneEventMore.{gathers-on}
use Rattle.register_laws.proofs.ViewsGoOn.{view-by}
use Rattle.register_laws.proofs.journal_laws.views_go_on.Goals as goal
use Rattle.register_machine.specs.journal.Journals.{with_event}
use Rattle.register_machine.specs.journal.Kinds.{account_in}
use Rattle.register_machine.specs.journal.Views.{is_seen_by}

pub returns : goal.returns
returns c household journal event untouched =
    ap (λ accounts. filter (is_seen_by accounts household) (with_event journal event)) (gathers-on account_in journal event)
    ∙ view-by household journal event.moment event.kind untouched
