-- That `Calendar::new` keeps its contract.
use Rattle.std.proofs.Common.{sym, ap, ◌∙◌, Ok}
use Rattle.fund_calendar.specs.ZoneText.{read_zone}
use Rattle.fund_calendar.proofs.ScheduleLemmas.{new_bad_zone, new_bad_span, new_by_days, refused_by_days}
use Rattle.fund_calendar.proofs.calendar.Calendar.new.Goals as goal

pub returns-in_default-clause-refused : goal.returns-in_default-clause-refused
returns-in_default-clause-refused c =
    let none = ap read_zone (sym c.as_bytes.ensures.value) ∙ (sym c.read_zone.ensures.value ∙ c.in_default.is) in
    new_bad_zone _ none

pub returns-then-is_bad_span-clause-refused : goal.returns-then-is_bad_span-clause-refused
returns-then-is_bad_span-clause-refused c =
    let some = ap read_zone (sym c.as_bytes.ensures.value) ∙ (sym c.read_zone.ensures.value ∙ c.in-Some.is) in
    new_bad_span _ c.in-Some.rule some (sym c.is_bad_span.ensures ∙ c.if-is_bad_span.true)

pub returns-in-Ok-clause-made : goal.returns-in-Ok-clause-made
returns-in-Ok-clause-made c =
    let some = ap read_zone (sym c.as_bytes.ensures.value) ∙ (sym c.read_zone.ensures.value ∙ c.in-Some.is) in
    new_by_days _ c.in-Some.rule (Ok c.in-Ok.listed.items) some
    (sym c.is_bad_span.ensures ∙ c.if-is_bad_span.false) c.in-Ok.ensures.listed

pub returns-in-Err-clause-refused : goal.returns-in-Err-clause-refused
returns-in-Err-clause-refused c =
    let some = ap read_zone (sym c.as_bytes.ensures.value) ∙ (sym c.read_zone.ensures.value ∙ c.in-Some.is) in
    refused_by_days _ c.in-Some.rule c.in-Err.fault some
    (sym c.is_bad_span.ensures ∙ c.if-is_bad_span.false) c.in-Err.ensures.refused
