-- That `day_after_letter_end` keeps its contract.
use Rattle.std.proofs.Common.{subst, sym, ◌∙◌}
use Rattle.household_fold.specs.Limits.{AreLettersWithin, IsLetterWithin}
use Rattle.household_fold.proofs.PutFacts.{letter-found}
use Rattle.household_fold.proofs.letters.day_after_letter_end.Goals as goal

pub day_after_settlement-requires-clause-letter : goal.day_after_settlement-requires-clause-letter
day_after_settlement-requires-clause-letter c =
    subst IsLetterWithin (sym c.letter_of.ensures ∙ c.in-Some.is)
    (letter-found c.register.result.now c.key.inside.account c.key.inside.class (subst AreLettersWithin (sym c.register.ensures) c.requires.letters))
