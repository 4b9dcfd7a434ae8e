-- That `add_period` keeps its contract.
use Rattle.std.proofs.Common.{List, [], ap, codes, ℕ, ◌++◌, ◌∙◌, ◌∷◌}
use Rattle.agent_events.specs.AnswerTexts.{day_text}
use Rattle.holder_statements.specs.Words.{with_words}
use Rattle.holder_statements.proofs.WordLines.{line_of}
use Rattle.holder_statements.proofs.statements.add_period.Goals as goal

pub returns : goal.returns
returns c =
    let first = day_text c.args.form.now.first in
    let last = day_text c.args.form.now.last in
    let begun = c.in_ok-add_day.ensures ∙ ap (λ (t : List ℕ). with_words t (first ∷ [])) c.in_ok-extend_from_slice.ensures.items in
    let ended = c.in_ok-add_day-2.ensures ∙ ap (λ (t : List ℕ). with_words t (last ∷ [])) begun in
    c.in_ok-end_line.ensures
    ∙ (ap (λ (t : List ℕ). t ++ 10 ∷ []) ended
    ∙ line_of c.args.out.now.items (codes "PERIOD") (first ∷ last ∷ []))
