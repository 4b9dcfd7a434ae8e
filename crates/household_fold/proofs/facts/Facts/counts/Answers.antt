-- That `Facts::counts` keeps its contract.
use Rattle.std.proofs.Common.{ap, sym, ◌∙◌}
use Rattle.std.specs.Option.{option_copied}
use Rattle.household_fold.specs.Facts.{terms_numbered}
use Rattle.household_fold.proofs.BookFacts.{counts_found, counts_not_found}
use Rattle.household_fold.proofs.facts.Facts.counts.Goals as goal

pub returns-in-Some : goal.returns-in-Some
returns-in-Some c =
    c.counts.ensures
    ∙ counts_found c.args.self.now c.args.class c.in-Some.terms.now
    (ap option_copied (sym c.in-Some.is) ∙ c.terms_numbered.ensures ∙ ap (λ rows. terms_numbered rows c.args.class) (c.as_slice.ensures ∙ ap (λ known. known.terms) c.self.view_is))

pub returns-in-None : goal.returns-in-None
returns-in-None c =
    counts_not_found c.args.self.now c.args.class
    (ap option_copied (sym c.in-None.is) ∙ c.terms_numbered.ensures ∙ ap (λ rows. terms_numbered rows c.args.class) (c.as_slice.ensures ∙ ap (λ known. known.terms) c.self.view_is))
