-- That `Facts::household` keeps its contract.
use Rattle.std.proofs.Common.{ap, option_map, sym, ◌∙◌}
use Rattle.household_fold.specs.Facts.{row_numbered}
use Rattle.household_fold.proofs.BookFacts.{household_found}
use Rattle.household_fold.proofs.facts.Facts.household.Goals as goal

pub returns-in-Some : goal.returns-in-Some
returns-in-Some c =
    ap (option_map (λ row. row.household)) (sym c.in-Some.is ∙ c.account_numbered.ensures ∙ ap (λ known. row_numbered known.accounts c.args.account) c.self.view_is)
    ∙ household_found c.args.self.now.accounts c.args.account

pub returns-in-None : goal.returns-in-None
returns-in-None c =
    ap (option_map (λ row. row.household)) (sym c.in-None.is ∙ c.account_numbered.ensures ∙ ap (λ known. row_numbered known.accounts c.args.account) c.self.view_is)
    ∙ household_found c.args.self.now.accounts c.args.account
