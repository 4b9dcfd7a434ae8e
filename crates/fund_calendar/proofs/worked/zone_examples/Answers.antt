-- The worked rows of `zone_examples`, reckoned.
use Rattle.std.proofs.Common.{refl}
use Rattle.fund_calendar.specs.ZoneText.{read_zone}
use Rattle.fund_calendar.proofs.worked.zone_examples.Goals as goal

pub returns-clause-ahead : goal.returns-clause-ahead
unfolding read_zone
returns-clause-ahead c = refl

pub returns-clause-behind : goal.returns-clause-behind
unfolding read_zone
returns-clause-behind c = refl

pub returns-clause-name : goal.returns-clause-name
unfolding read_zone
returns-clause-name c = refl

pub returns-clause-no_changes : goal.returns-clause-no_changes
unfolding read_zone
returns-clause-no_changes c = refl

pub returns-clause-days_of_year : goal.returns-clause-days_of_year
unfolding read_zone
returns-clause-days_of_year c = refl

pub returns-clause-daylight_offset : goal.returns-clause-daylight_offset
unfolding read_zone
returns-clause-daylight_offset c = refl

pub returns-clause-sixth_week : goal.returns-clause-sixth_week
unfolding read_zone
returns-clause-sixth_week c = refl

pub returns-clause-far : goal.returns-clause-far
unfolding read_zone
returns-clause-far c = refl

pub returns-clause-short_name : goal.returns-clause-short_name
unfolding read_zone
returns-clause-short_name c = refl

pub returns-clause-empty : goal.returns-clause-empty
unfolding read_zone
returns-clause-empty c = refl
