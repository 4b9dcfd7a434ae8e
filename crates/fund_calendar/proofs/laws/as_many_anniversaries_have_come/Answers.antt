-- The proof of the law `as_many_anniversaries_have_come`.
use Rattle.fund_calendar.proofs.AnniversaryCounts.{anniversaries_come, anniversaries_to_come}
use Rattle.fund_calendar.proofs.laws.as_many_anniversaries_have_come.Goals as goal

pub returns-clause-come : goal.returns-clause-come
returns-clause-come c = anniversaries_come

pub returns-clause-to_come : goal.returns-clause-to_come
returns-clause-to_come c = anniversaries_to_come
