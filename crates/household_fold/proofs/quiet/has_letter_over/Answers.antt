-- That `has_letter_over` keeps its contract.
use Rattle.std.proofs.Common.{refl, ◌∙◌}
use Rattle.household_fold.specs.Facts.{sheet_at_hand}
use Rattle.household_fold.proofs.LetterSteps.{same-over}
use Rattle.household_fold.proofs.SheetFacts.{lists_at_hand, read_at_hand}
use Rattle.household_fold.proofs.quiet.has_letter_over.Goals as goal

pub returns : goal.returns
returns c =
    let known = c.args.facts.now in
    let sheet = c.published.result.now in
    c.has_letter_over.ensures
    ∙ same-over sheet (sheet_at_hand known) (λ class. lists_at_hand known sheet class c.published.ensures)
    (read_at_hand (λ s. s.day) (λ s prices. refl) known sheet c.published.ensures) c.args.position.now
