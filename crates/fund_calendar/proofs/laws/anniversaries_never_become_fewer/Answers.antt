-- The proof of the law `anniversaries_never_become_fewer`.
use Rattle.std.proofs.Common.{arith, inl, inr}
use Rattle.std.proofs.lemmas.Bool.{cases_lt}
use Rattle.fund_calendar.proofs.AnniversaryLemmas.{none_before, rise-from}
use Rattle.fund_calendar.proofs.laws.anniversaries_never_become_fewer.Goals as goal

pub returns : goal.returns
returns c b m n h within = elim (cases_lt m b) [
  | inl before ↦ rw (none_before b m before) (omega arith)
  | inr start ↦ rise-from b m n start h within
]
