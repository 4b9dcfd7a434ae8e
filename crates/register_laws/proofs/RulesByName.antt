-- Where no rule behind the repeat is broken, none is, each by its name.
use Rattle.std.proofs.Common.{List, None, Option, Some, [], map, refl, rules, ◌∷◌, ◌≡◌}
use Rattle.std.specs.List.{AllByRecursion}
use Rattle.std.specs.Option.{option_or}
use Rattle.agent_events.specs.declared.reply.Refusal.{Refusal}
use Rattle.agent_events.specs.declared.request.Request.{Request}
use Rattle.register_laws.proofs.Choosing.{some_none}
use Rattle.register_machine.specs.journal.Choices.{first_some}
use Rattle.register_machine.specs.rules.InOrder.{Rule, broken_by, broken_rule, rules_in_order}
use Rattle.register_machine.specs.rules.Sheets.{sheet_fault}
use Rattle.register_machine.specs.rules.Situations.{Situation}

-- a rule of the list isn't broken
none-among : {X : Type 0} (f : X → Option Refusal) (rules : List X) → first_some (map f rules) ≡ None → AllByRecursion (λ rule. f rule ≡ None) rules
none-among f [] e = tt
none-among f (rule ∷ rules) e = by_first (f rule) refl e (none-among f rules)
  where
    by_first : (found : Option Refusal) → f rule ≡ found → option_or found (first_some (map f rules)) ≡ None → (first_some (map f rules) ≡ None → AllByRecursion (λ other. f other ≡ None) rules) → AllByRecursion (λ other. f other ≡ None) (rule ∷ rules)
    by_first None here h later = (here, later h)
    by_first (Some why) here h later = absurd (some_none h)

pub not_broken : (situation : Situation) (request : Request) → broken_rule situation request ≡ None → (rule : Rule) → broken_by situation request (sheet_fault situation request) rule ≡ None
not_broken situation request clear = by_name (none-among (broken_by situation request (sheet_fault situation request)) rules_in_order clear)
  where
    by_name : AllByRecursion (λ rule. broken_by situation request (sheet_fault situation request) rule ≡ None) rules_in_order → (rule : Rule) → broken_by situation request (sheet_fault situation request) rule ≡ None
    by_name all Rule.NoSuch = all.0
    by_name all Rule.RefUsed = all.1.0
    by_name all Rule.CalendarEnded = all.1.1.0
    by_name all Rule.BelowMinimum = all.1.1.1.0
    by_name all Rule.NotOffered = all.1.1.1.1.0
    by_name all Rule.LateForDealer = all.1.1.1.1.1.0
    by_name all Rule.ReceiptAhead = all.1.1.1.1.1.1.0
    by_name all Rule.CancelLate = all.1.1.1.1.1.1.1.0
    by_name all Rule.NotPending = all.1.1.1.1.1.1.1.1.0
    by_name all Rule.SheetOutOfTurn = all.1.1.1.1.1.1.1.1.1.0
    by_name all Rule.SheetIncomplete = all.1.1.1.1.1.1.1.1.1.1.0
    by_name all Rule.Stands = all.1.1.1.1.1.1.1.1.1.1.1.0
    by_name all Rule.OrdersFull = all.1.1.1.1.1.1.1.1.1.1.1.1.0
    by_name all Rule.TooMany = all.1.1.1.1.1.1.1.1.1.1.1.1.1.0
    by_name all Rule.TooSoon = all.1.1.1.1.1.1.1.1.1.1.1.1.1.1.0
    by_name all Rule.JournalFull = all.1.1.1.1.1.1.1.1.1.1.1.1.1.1.1.0
