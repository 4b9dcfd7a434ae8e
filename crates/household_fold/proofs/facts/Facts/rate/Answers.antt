-- That `Facts::rate` keeps its contract.
use Rattle.std.proofs.Common.{ap, sym, ◌∙◌}
use Rattle.std.specs.Option.{option_map_or}
use Rattle.household_fold.specs.Facts.{rate_numbered}
use Rattle.household_fold.proofs.BookFacts.{rate_found, rate_within}
use Rattle.household_fold.proofs.facts.Facts.rate.Goals as goal

pub returns-in-Some-clause-value : goal.returns-in-Some-clause-value
returns-in-Some-clause-value c =
    ap (λ o. option_map_or (λ row. row.rate) o 0)
    (sym c.in-Some.is ∙ c.rate_numbered.ensures ∙ ap (λ rows. rate_numbered rows c.args.class c.moment.result) (c.as_slice.ensures ∙ ap (λ known. known.rates) c.self.view_is)
    ∙ ap (λ m. rate_numbered c.args.self.now.rates c.args.class m) c.moment.ensures)
    ∙ rate_found c.args.self.now.rates c.args.class _

pub returns-in-Some-clause-most : goal.returns-in-Some-clause-most
returns-in-Some-clause-most c =
    rate_within c.args.self.now.rates c.args.class c.moment.result c.in-Some.row c.requires.rates_within
    (sym c.in-Some.is ∙ c.rate_numbered.ensures ∙ ap (λ rows. rate_numbered rows c.args.class c.moment.result) (c.as_slice.ensures ∙ ap (λ known. known.rates) c.self.view_is))

pub returns-in-None-clause-value : goal.returns-in-None-clause-value
returns-in-None-clause-value c =
    ap (λ o. option_map_or (λ row. row.rate) o 0)
    (sym c.in-None.is ∙ c.rate_numbered.ensures ∙ ap (λ rows. rate_numbered rows c.args.class c.moment.result) (c.as_slice.ensures ∙ ap (λ known. known.rates) c.self.view_is)
    ∙ ap (λ m. rate_numbered c.args.self.now.rates c.args.class m) c.moment.ensures)
    ∙ rate_found c.args.self.now.rates c.args.class _
