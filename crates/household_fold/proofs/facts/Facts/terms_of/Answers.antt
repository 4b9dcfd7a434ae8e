-- That `Facts::terms_of` keeps its contract.
use Rattle.std.proofs.Common.{ap, sym, ◌∙◌}
use Rattle.std.specs.Option.{option_copied}
use Rattle.household_fold.specs.Facts.{terms_numbered}
use Rattle.household_fold.proofs.BookFacts.{front_found, schedule_found}
use Rattle.household_fold.proofs.facts.Facts.terms_of.Goals as goal

pub returns-clause-front : goal.returns-clause-front
returns-clause-front c =
    front_found c.args.self.now c.args.class c.in-Some.terms.now
    (ap option_copied (sym c.in-Some.is) ∙ c.terms_numbered.ensures ∙ ap (λ rows. terms_numbered rows c.args.class) (c.as_slice.ensures ∙ ap (λ known. known.terms) c.self.view_is))

pub returns-clause-schedule : goal.returns-clause-schedule
returns-clause-schedule c =
    schedule_found c.args.self.now c.args.class c.in-Some.terms.now
    (ap option_copied (sym c.in-Some.is) ∙ c.terms_numbered.ensures ∙ ap (λ rows. terms_numbered rows c.args.class) (c.as_slice.ensures ∙ ap (λ known. known.terms) c.self.view_is))
