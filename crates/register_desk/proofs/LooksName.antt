-- A look names an account that stands: no rule is broken, that on what is named among them.
use Rattle.std.proofs.Common.{Bool, List, None, Option, Some, [], false, find, not, option_map, position, refl, sym, true, ℕ, ◌∙◌, ◌∷◌, ◌≡◌}
use Rattle.agent_events.specs.Events.{Event, event_of}
use Rattle.agent_events.specs.declared.event.EventKind.{EventKind}
use Rattle.agent_events.specs.declared.reply.Refusal.{Refusal}
use Rattle.agent_events.specs.declared.request.Request.{Request}
use Rattle.agent_events.specs.declared.verdict.Caller.{Caller}
use Rattle.agent_events.specs.declared.verdict.Verdict.{Verdict}
use Rattle.register_desk.specs.NamedAccounts.{NamesAnAccount}
use Rattle.register_desk.specs.Replies.{IsLook}
use Rattle.register_laws.proofs.Choosing.{some_none}
use Rattle.register_laws.proofs.RulesByName.{not_broken}
use Rattle.register_laws.specs.Lawful.{own_at}
use Rattle.register_machine.specs.journal.Choices.{first_some}
use Rattle.register_machine.specs.journal.Journals.{Journal}
use Rattle.register_machine.specs.rules.InOrder.{Rule, broken_rule, first_rules}
use Rattle.register_machine.specs.rules.NamedThings.{has_account, has_order, none_such}
use Rattle.register_machine.specs.rules.Situations.{Situation, event_at}
use Rattle.register_machine.specs.run.Verdicts.{due_now, repeats, verdict, verdict_by_event, verdict_by_place, verdict_by_right, verdict_by_rule}

refused : (why : Refusal) → Verdict.Refused why ≡ Verdict.Query → ⊥
refused why e = cc

fresh : (event : Event) → Verdict.Fresh event ≡ Verdict.Query → ⊥
fresh event e = cc

again : (place : ℕ) → Verdict.Again place ≡ Verdict.Query → ⊥
again place e = cc

-- a look breaks no rule
clear : (situation : Situation) (request : Request) → verdict situation request ≡ Verdict.Query → broken_rule situation request ≡ None
clear situation request look = by_right (first_some (first_rules situation request)) look
  where
    by_rule : (broken : Option Refusal) → verdict_by_rule situation request broken ≡ Verdict.Query → broken ≡ None
    by_rule None e = refl
    by_rule (Some why) e = absurd (refused why e)

    by_place : (found : Option ℕ) → verdict_by_place situation request found ≡ Verdict.Query → broken_rule situation request ≡ None
    by_place None e = by_rule (broken_rule situation request) e
    by_place (Some place) e = absurd (again place e)

    by_right : (first : Option Refusal) → verdict_by_right situation request first ≡ Verdict.Query → broken_rule situation request ≡ None
    by_right None e = by_place (position (repeats request) situation.journal) e
    by_right (Some why) e = absurd (refused why e)

-- the first thing that is named is there, where none is absent
first-there : (one : Bool) (rest : List (ℕ × Bool)) → option_map (λ (field : ℕ × Bool). Refusal.NoSuch field.0) (find (λ (field : ℕ × Bool). not field.1) ((1, one) ∷ rest)) ≡ None → one ≡ true
first-there true rest e = refl
first-there false rest e = absurd (some_none e)

-- and it brings no event
brings-none : (situation : Situation) (request : Request) → verdict situation request ≡ Verdict.Query → event_of request situation.now (due_now situation request) ≡ None
brings-none situation request look = by_right (first_some (first_rules situation request)) look
  where
    by_event : (brought : Option EventKind) → verdict_by_event situation brought ≡ Verdict.Query → brought ≡ None
    by_event None e = refl
    by_event (Some kind) e = absurd (fresh (event_at situation kind) e)

    by_rule : (broken : Option Refusal) → verdict_by_rule situation request broken ≡ Verdict.Query → event_of request situation.now (due_now situation request) ≡ None
    by_rule None e = by_event (event_of request situation.now (due_now situation request)) e
    by_rule (Some why) e = absurd (refused why e)

    by_place : (found : Option ℕ) → verdict_by_place situation request found ≡ Verdict.Query → event_of request situation.now (due_now situation request) ≡ None
    by_place None e = by_rule (broken_rule situation request) e
    by_place (Some place) e = absurd (again place e)

    by_right : (first : Option Refusal) → verdict_by_right situation request first ≡ Verdict.Query → event_of request situation.now (due_now situation request) ≡ None
    by_right None e = by_place (position (repeats request) situation.journal) e
    by_right (Some why) e = absurd (refused why e)

no-look : (situation : Situation) (request : Request) (kind : EventKind) → event_of request situation.now (due_now situation request) ≡ Some kind → verdict situation request ≡ Verdict.Query → ⊥
no-look situation request kind brings look = some_none (sym brings ∙ brings-none situation request look)

nothing-absent : (situation : Situation) (request : Request) → verdict situation request ≡ Verdict.Query → none_such situation request ≡ None
nothing-absent situation request look = not_broken situation request (clear situation request look) Rule.NoSuch

pub looks_name : (journal : Journal) (now : ℕ) (caller : Caller) (request : Request) → IsLook journal now caller request → NamesAnAccount journal request
looks_name journal now caller (Request.Show account) look =
    first-there (has_account (own_at journal now caller) account) [] (nothing-absent (own_at journal now caller) (Request.Show account) look)
looks_name journal now caller (Request.Trace form) look =
    first-there (has_account (own_at journal now caller) form.account) ((2, has_order (own_at journal now caller) form.account form.ref_no) ∷ [])
    (nothing-absent (own_at journal now caller) (Request.Trace form) look)
looks_name journal now caller (Request.Statement form) look =
    first-there (has_account (own_at journal now caller) form.account) [] (nothing-absent (own_at journal now caller) (Request.Statement form) look)
looks_name journal now caller Request.Books look = tt
looks_name journal now caller (Request.Calendar form) look = absurd (no-look (own_at journal now caller) (Request.Calendar form) _ refl look)
looks_name journal now caller (Request.Close form) look = absurd (no-look (own_at journal now caller) (Request.Close form) _ refl look)
looks_name journal now caller (Request.Class form) look = absurd (no-look (own_at journal now caller) (Request.Class form) _ refl look)
looks_name journal now caller (Request.Dealer form) look = absurd (no-look (own_at journal now caller) (Request.Dealer form) _ refl look)
looks_name journal now caller (Request.Household form) look = absurd (no-look (own_at journal now caller) (Request.Household form) _ refl look)
looks_name journal now caller (Request.Account form) look = absurd (no-look (own_at journal now caller) (Request.Account form) _ refl look)
looks_name journal now caller (Request.Sheet form) look = absurd (no-look (own_at journal now caller) (Request.Sheet form) _ refl look)
looks_name journal now caller (Request.Dividend form) look = absurd (no-look (own_at journal now caller) (Request.Dividend form) _ refl look)
looks_name journal now caller (Request.FixPrice form) look = absurd (no-look (own_at journal now caller) (Request.FixPrice form) _ refl look)
looks_name journal now caller (Request.FixRate form) look = absurd (no-look (own_at journal now caller) (Request.FixRate form) _ refl look)
looks_name journal now caller (Request.Enter form) look = absurd (no-look (own_at journal now caller) (Request.Enter form) _ refl look)
looks_name journal now caller (Request.Replace form) look = absurd (no-look (own_at journal now caller) (Request.Replace form) _ refl look)
looks_name journal now caller (Request.Void form) look = absurd (no-look (own_at journal now caller) (Request.Void form) _ refl look)
looks_name journal now caller (Request.Order form) look = absurd (no-look (own_at journal now caller) (Request.Order form) _ refl look)
looks_name journal now caller (Request.Cancel form) look = absurd (no-look (own_at journal now caller) (Request.Cancel form) _ refl look)
looks_name journal now caller (Request.Line form) look = absurd (no-look (own_at journal now caller) (Request.Line form) _ refl look)
