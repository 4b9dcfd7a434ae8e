-- That `add_months` keeps its contract.
use Rattle.std.proofs.Common.{◌≡◌, ℕ, ◌<◌, ◌≤◌, ◌^◌, ◌∙◌, ap, arith, pos, w32, to_z, of_z}
use Rattle.jiff_core.specs.declared.civil.date.Date.{Date}
use Rattle.jiff_core.specs.Date.{epoch_day}
use Rattle.jiff_core.proofs.SignedLemmas.{signed_arith, back_small}
use Rattle.jiff_span.specs.Months.{add_months as jiff_add_months}
use Rattle.fund_calendar.specs.Dates.{date_of, months_later, add_months, day_of_date}
use Rattle.fund_calendar.specs.JiffDates.{year_month_day}
use Rattle.fund_calendar.proofs.DateLemmas.{date_of_is}
use Rattle.fund_calendar.proofs.JiffLemmas.{HasParts, HasParts-epoch_day, HasParts-year_month_day, IsMovedBy, IsMovedBy-months_later, IsJiffDate-date_of, IsNone-day_of_date}
use Rattle.fund_calendar.proofs.months.add_months.Goals as goal

moved : (d : Date) (n k : ℕ) → n ≤ 84005 → d.year ≡ pos (date_of n).year → year_month_day d ≡ date_of n → k < 2 ^ 16 → IsMovedBy d (date_of n) k
moved d n k within year parts few =
    let has : HasParts d (date_of n) = record { year = year; month = ap (λ p. p.month) parts; day = ap (λ p. p.day) parts } in
    IsMovedBy-months_later d (date_of n) k has (IsJiffDate-date_of n within) (date_of_is n within).year_high (omega arith)

cast : (k : ℕ) → k < 2 ^ 16 → to_z w32 (of_z w32 (pos k)) ≡ pos k
cast k few = back_small w32 (pos k) (omega arith)

pub unreachable-requires : goal.unreachable-requires
unreachable-requires c =
    let is = moved c.to_date.result c.args.day c.args.months c.to_date.ensures.within c.to_date.ensures.year c.to_date.ensures.parts c.ranges.months.fits in
    let shiftable = c.in_default.ensures.succeeds.1 (rw (cast c.args.months c.ranges.months.fits) is.shiftable) in cc

later_parts : (d later : Date) (n k : ℕ) → IsMovedBy d (date_of n) k → epoch_day later ≡ jiff_add_months d (pos k) → HasParts later (months_later (date_of n) k)
later_parts d later n k is e = HasParts-epoch_day later (months_later (date_of n) k) is.is_date (e ∙ is.number)

pub of_date-requires : goal.of_date-requires
of_date-requires c =
    let is = moved c.to_date.result c.args.day c.args.months c.to_date.ensures.within c.to_date.ensures.year c.to_date.ensures.parts c.ranges.months.fits in
    let number = rw (cast c.args.months c.ranges.months.fits) at c.in-Ok.ensures.value in
    let parts = later_parts c.to_date.result c.in-Ok.later c.args.day c.args.months is number in
    rw parts.year (omega (arith, signed_arith, is.is_date.year_low))

later_day : (c : goal.After-of_date) → c.of_date.result ≡ day_of_date (months_later (date_of c.args.day) c.args.months)
later_day c =
    let is = moved c.to_date.result c.args.day c.args.months c.to_date.ensures.within c.to_date.ensures.year c.to_date.ensures.parts c.ranges.months.fits in
    let number = rw (cast c.args.months c.ranges.months.fits) at c.in-Ok.ensures.value in
    let parts = later_parts c.to_date.result c.in-Ok.later c.args.day c.args.months is number in
    c.of_date.ensures ∙ ap day_of_date (HasParts-year_month_day c.in-Ok.later (months_later (date_of c.args.day) c.args.months) parts)

pub returns-clause-value : goal.returns-clause-value
unfolding add_months
returns-clause-value c = later_day c

pub returns-clause-past : goal.returns-clause-past
returns-clause-past c =
    let is = moved c.to_date.result c.args.day c.args.months c.to_date.ensures.within c.to_date.ensures.year c.to_date.ensures.parts c.ranges.months.fits in
    rw (later_day c) (IsNone-day_of_date (months_later (date_of c.args.day) c.args.months) is.is_date)
