-- The rules in the order in which they are tried, but for the last one, on what a correction may not break. Two go before the
-- repeat, the others behind it, each by its name.
use Rattle.std.specs.Prelude.{List, Option, [], ◌∷◌, map}
use Rattle.agent_events.specs.declared.reply.Refusal.{Refusal}
use Rattle.agent_events.specs.declared.request.Request.{Request}
use Rattle.forward_price.specs.declared.price_sheet.PublishFault.{PublishFault}
use Rattle.register_machine.specs.journal.Choices.{first_some}
use Rattle.register_machine.specs.rules.Identities.{ref_used}
use Rattle.register_machine.specs.rules.Limits.{journal_full, orders_full, too_many}
use Rattle.register_machine.specs.rules.NamedThings.{none_such}
use Rattle.register_machine.specs.rules.Orders.{below_minimum, calendar_ended, cancel_late, late_for_dealer, not_offered, not_pending, receipt_ahead, refused_order}
use Rattle.register_machine.specs.rules.Sheets.{incomplete, out_of_turn, sheet_fault, too_soon}
use Rattle.register_machine.specs.rules.Situations.{Situation, no_right}
use Rattle.register_machine.specs.rules.Standing.{something_stands}
use Rattle.register_machine.specs.rules.Terms.{bad_terms}

-- the rules that go before the repeat, and those that follow it; the last one is that on what a correction may not break
abbrev pub first_rules : Situation → Request → List (Option Refusal)
first_rules situation request = no_right situation request ∷ bad_terms situation request ∷ []

pub data Rule : Type 0 where
  NoSuch : Rule
  RefUsed : Rule
  CalendarEnded : Rule
  BelowMinimum : Rule
  NotOffered : Rule
  LateForDealer : Rule
  ReceiptAhead : Rule
  CancelLate : Rule
  NotPending : Rule
  SheetOutOfTurn : Rule
  SheetIncomplete : Rule
  Stands : Rule
  OrdersFull : Rule
  TooMany : Rule
  TooSoon : Rule
  JournalFull : Rule

abbrev pub rules_in_order : List Rule
rules_in_order =
    Rule.NoSuch ∷ Rule.RefUsed ∷ Rule.CalendarEnded ∷ Rule.BelowMinimum ∷ Rule.NotOffered ∷ Rule.LateForDealer
    ∷ Rule.ReceiptAhead ∷ Rule.CancelLate ∷ Rule.NotPending ∷ Rule.SheetOutOfTurn ∷ Rule.SheetIncomplete ∷ Rule.Stands
    ∷ Rule.OrdersFull ∷ Rule.TooMany ∷ Rule.TooSoon ∷ Rule.JournalFull ∷ []

-- the refusal of a rule, where the request breaks it; what is wrong with a sheet is found once for three of them
abbrev pub broken_by : Situation → Request → Option PublishFault → Rule → Option Refusal
broken_by situation request fault Rule.NoSuch = none_such situation request
broken_by situation request fault Rule.RefUsed = ref_used situation request
broken_by situation request fault Rule.CalendarEnded = refused_order calendar_ended situation request
broken_by situation request fault Rule.BelowMinimum = refused_order below_minimum situation request
broken_by situation request fault Rule.NotOffered = refused_order not_offered situation request
broken_by situation request fault Rule.LateForDealer = late_for_dealer situation request
broken_by situation request fault Rule.ReceiptAhead = receipt_ahead situation request
broken_by situation request fault Rule.CancelLate = cancel_late situation request
broken_by situation request fault Rule.NotPending = not_pending situation request
broken_by situation request fault Rule.SheetOutOfTurn = out_of_turn fault
broken_by situation request fault Rule.SheetIncomplete = incomplete fault
broken_by situation request fault Rule.Stands = something_stands situation request
broken_by situation request fault Rule.OrdersFull = orders_full situation request
broken_by situation request fault Rule.TooMany = too_many situation request
broken_by situation request fault Rule.TooSoon = too_soon fault
broken_by situation request fault Rule.JournalFull = journal_full situation request

-- the first rule that is broken
abbrev pub broken_rule : Situation → Request → Option Refusal
broken_rule situation request =
    let fault = sheet_fault situation request in first_some (map (broken_by situation request fault) rules_in_order)
