-- The proof of the law `a_later_sale_never_has_a_greater_rate`.
use Rattle.fund_calendar.specs.Dates.{anniversaries}
use Rattle.fund_calendar.proofs.AnniversaryLemmas.{anniversaries-rise}
use Rattle.contingent_charge.proofs.LawLemmas.{row-falls}
use Rattle.contingent_charge.proofs.laws.a_later_sale_never_has_a_greater_rate.Goals as goal

pub returns : goal.returns
returns c bought sold later schedule falls h within =
    row-falls schedule (anniversaries bought sold) (anniversaries bought later) falls (anniversaries-rise bought sold later h within)
