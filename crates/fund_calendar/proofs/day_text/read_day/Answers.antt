-- That `read_day` keeps its contract.
use Rattle.std.proofs.Common.{arith, rules}
use Rattle.std.proofs.lemmas.Grind.{common_steps}
use Rattle.fund_calendar.specs.DayText.{read_day}
use Rattle.fund_calendar.proofs.day_text.read_day.Goals as goal

pub returns : goal.returns
unfolding read_day
returns c = search rules

pub returns-then-text-ne10 : goal.returns-then-text-ne10
unfolding read_day
returns-then-text-ne10 c = grind (arith, common_steps)
