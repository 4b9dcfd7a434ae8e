-- What an answer unfolds to compute the machine on a script of literals.
use Rattle.std.specs.Prelude.{⊤}
use Rattle.std.specs.Fmt.{digits}
use Rattle.csv.proofs.OnLiterals.{csv_on_literals}
use Rattle.csv.specs.Writing.{escaped, fields_text, is_blank}
use Rattle.fund_calendar.specs.Dates.{days_before_year, days_of_months, day_number, year_of, date_in_year, date_of, months_later, add_months, has_anniversary, anniversaries}
use Rattle.fund_calendar.specs.DayText.{read_day}
use Rattle.fund_calendar.specs.PricingDays.{days_from, pricing_dates, first_not_rising, days_on, new_calendar}
use Rattle.fund_calendar.specs.ZoneRules.{weekday_in_month, is_daylight, instant}
use Rattle.fund_calendar.specs.ZoneText.{read_zone}
use Rattle.share_lots.specs.Taking.{pieces, lots_less}
use Rattle.contingent_charge.specs.DeferredCharge.{with_values}
use Rattle.agent_events.specs.Forms.{class_names, class_loads, class_form, sheet_form}
use Rattle.register_machine.specs.pricing.PublishedTable.{table_behind}
use Rattle.register_machine.specs.replay.DayStep.{day_step}
use Rattle.register_machine.specs.replay.Replay.{replay}
use Rattle.register_machine.specs.run.Scripts.{item_step, run_from}

unfoldable pub machine_on_literals : ⊤
unfolding csv_on_literals digits escaped fields_text is_blank days_before_year days_of_months day_number year_of date_in_year date_of months_later add_months has_anniversary anniversaries read_day days_from pricing_dates first_not_rising days_on new_calendar weekday_in_month is_daylight instant read_zone pieces lots_less with_values class_names class_loads class_form sheet_form table_behind day_step replay item_step run_from
machine_on_literals = tt
