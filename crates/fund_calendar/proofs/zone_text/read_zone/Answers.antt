-- That `read_zone` keeps its contract.
use Rattle.std.proofs.Common.{rules}
use Rattle.fund_calendar.specs.ZoneText.{read_zone}
use Rattle.fund_calendar.proofs.zone_text.read_zone.Goals as goal

pub returns-in-Some-clause-value : goal.returns-in-Some-clause-value
unfolding read_zone
returns-in-Some-clause-value c = search rules

pub returns-in-None-clause-value : goal.returns-in-None-clause-value
unfolding read_zone
returns-in-None-clause-value c = search rules
