-- That `credit_of` keeps its contract.
use Rattle.std.proofs.Common.{ap, arith, filter, map, sum_by, sym, ◌∙◌}
use Rattle.std.proofs.lemmas.List.{take_all}
use Rattle.offering_price.specs.Accumulation.{credit}
use Rattle.register_machine.specs.replay.Purchase.{is_counted, worth_on}
use Rattle.household_fold.specs.Credits.{position_credit}
use Rattle.household_fold.specs.Facts.{book_of_facts, sheet_at_hand}
use Rattle.household_fold.proofs.CreditFacts.{credit-summed}
use Rattle.household_fold.proofs.credits.credit_of.Goals as goal

pub returns-clause-value : goal.returns-clause-value
returns-clause-value c =
    let book = book_of_facts c.args.facts.now in
    let sheet = sheet_at_hand c.args.facts.now in
    let positions = c.args.positions.now in
    c.loop-position.invariant.so_far
    ∙ ap (sum_by (position_credit book sheet c.household-household.result)) (take_all c.loop-position.position-index positions (omega arith))
    ∙ sym (credit-summed book sheet c.household-household.result positions)
    ∙ ap (λ household. credit (map (worth_on book sheet) (filter (is_counted book household) positions))) c.household-household.ensures
