-- The operator's looks break no rule: an order that stands is traced, and the books are shown.
use Rattle.std.proofs.Common.{Bool, Contains, None, Option, Some, [], ap, cond, false, find, is_some, not, option_map, refl, sym, true, true≢false, ℕ, ◌==◌, ◌∙◌, ◌∷◌, ◌≡◌}
use Rattle.std.proofs.lemmas.Bool.{and_from, and_parts}
use Rattle.std.specs.List.{list_any}
use Rattle.std.specs.Option.{option_map_or, option_or}
use Rattle.agent_events.specs.declared.order.OrderRow.{OrderRow}
use Rattle.agent_events.specs.declared.reply.Refusal.{Refusal}
use Rattle.agent_events.specs.declared.reply.Reply.{Reply}
use Rattle.agent_events.specs.declared.request.Request.{Request}
use Rattle.agent_events.specs.declared.verdict.Caller.{Caller}
use Rattle.register_laws.proofs.OrderTurns.{found-itself}
use Rattle.forward_price.proofs.OrderlyFacts.{all_to}
use Rattle.load_requests.specs.Summaries as summaries
use Rattle.load_runs.specs.Looks.{classes_in, classes_shown, look_at, state_in, state_traced}
use Rattle.load_runs.specs.OrderNames.{name_of}
use Rattle.register_laws.proofs.Comparisons.{eq-yes}
use Rattle.register_laws.proofs.NamesStand.{names_stand}
use Rattle.register_laws.proofs.OneTradeAnOrder.{one-named}
use Rattle.register_laws.proofs.RefusedByFirst.{shows_what_is_asked}
use Rattle.register_laws.proofs.Tests.{find-any}
use Rattle.register_laws.specs.Completeness.{is_known, refusal_of}
use Rattle.register_laws.specs.Identities.{has_number}
use Rattle.register_laws.specs.Lawful.{book_behind, own_at}
use Rattle.register_laws.specs.NamesStand.{is_placed_in}
use Rattle.register_machine.specs.journal.Journals.{Journal, last_moment}
use Rattle.register_machine.specs.journal.Kinds.{accounts_of}
use Rattle.register_machine.specs.journal.Lawful.{IsLawful}
use Rattle.register_machine.specs.pricing.CorrectedOrders.{is_named, order_named, orders_of}
use Rattle.register_machine.specs.queries.Trace.{trace_of_row}
use Rattle.register_machine.specs.rules.InOrder.{broken_rule}
use Rattle.register_machine.specs.rules.NamedThings.{has_account, has_order, none_such}
use Rattle.register_machine.specs.rules.Situations.{Situation}
use Rattle.register_machine.specs.run.Answers.{Answer, answer}
use Rattle.request_rules.proofs.RulesByVerb.{rule_by_verb}

-- ---- the one that is named

-- ---- no rule is broken

all-there : (account order : Bool) → account ≡ true → order ≡ true → option_map (λ (field : ℕ × Bool). Refusal.NoSuch field.0) (find (λ (field : ℕ × Bool). not field.1) ((1, account) ∷ (2, order) ∷ [])) ≡ None
all-there true true here there = refl
all-there true false here there = absurd (true≢false (sym there))
all-there false order here there = absurd (true≢false (sym here))

none-broken : (known : Bool) (broken : Option Refusal) → broken ≡ None → cond known None (option_or broken None) ≡ None
none-broken true broken none = refl
none-broken false broken none = ap (λ (found : Option Refusal). option_or found None) none

-- the operator's look at the end of a journal
abbrev operator-of : Journal → Situation
operator-of journal = own_at journal (last_moment journal) Caller.Operator

-- what is answered at that moment is what is seen
pub look_is : (journal : Journal) (request : Request) (moment : ℕ) (reply : Reply) (events : Journal) → moment ≡ last_moment journal → answer (own_at journal moment Caller.Operator) request ≡ record { reply = reply; events = events } → reply ≡ look_at journal request
look_is journal request moment reply events last is =
    sym (ap (λ (said : Answer). said.reply) is)
    ∙ ap (λ (now : ℕ). (answer (own_at journal now Caller.Operator) request).reply) last

-- ---- an order that stands

module _ (journal : Journal) (lawful : IsLawful journal) (row : OrderRow) (there : Contains (orders_of journal) row) where
  account-stands : has_account (operator-of journal) row.order.account ≡ true
  account-stands =
      find-any (has_number row.order.account) (accounts_of journal)
      ∙ (and_parts (list_any (has_number row.order.account) (accounts_of journal)) _ (all_to (λ (other : OrderRow). is_placed_in journal other.order) (orders_of journal) row (names_stand journal lawful).orders there)).0

  order-found : order_named (orders_of journal) row.order.account row.order.ref_no ≡ Some row
  order-found =
      found-itself (λ (other : OrderRow). is_named row.order.account row.order.ref_no other.order) (orders_of journal) row there
      (and_from (row.order.account == row.order.account) (row.order.ref_no == row.order.ref_no) (eq-yes row.order.account row.order.account refl) (eq-yes row.order.ref_no row.order.ref_no refl))
      (one-named journal lawful row.order.account row.order.ref_no)

  trace-clear : refusal_of (operator-of journal) (Request.Trace (name_of row.order)) ≡ None
  trace-clear =
      none-broken (is_known (operator-of journal) (Request.Trace (name_of row.order))) (broken_rule (operator-of journal) (Request.Trace (name_of row.order)))
      (rule_by_verb (operator-of journal) (Request.Trace (name_of row.order))
      ∙ none-alone (none_such (operator-of journal) (Request.Trace (name_of row.order)))
      (all-there (has_account (operator-of journal) row.order.account) (has_order (operator-of journal) row.order.account row.order.ref_no) account-stands (ap is_some order-found)))
    where
      none-alone : (found : Option Refusal) → found ≡ None → option_or found None ≡ None
      none-alone found none = ap (λ (f : Option Refusal). option_or f None) none

  pub state_of_named : state_traced journal (name_of row.order) ≡ Some (trace_of_row (book_behind journal) row).state
  state_of_named =
      ap (λ (said : Reply). state_in said)
      (ap (λ answered. answered.reply) (shows_what_is_asked (operator-of journal) (Request.Trace (name_of row.order)) trace-clear refl).answered
      ∙ ap (λ (found : Option OrderRow). option_map_or (λ (r : OrderRow). Reply.Trace (trace_of_row (book_behind journal) r)) found (Reply.Refused (Refusal.NoSuch 2))) order-found)

-- ---- the books

books-clear : (journal : Journal) → refusal_of (operator-of journal) Request.Books ≡ None
books-clear journal =
    none-broken (is_known (operator-of journal) Request.Books) (broken_rule (operator-of journal) Request.Books)
    (rule_by_verb (operator-of journal) Request.Books)

pub classes_are_shown : (journal : Journal) → classes_shown journal ≡ summaries.classes_in journal (book_behind journal)
classes_are_shown journal =
    ap (λ (said : Reply). classes_in said)
    (ap (λ answered. answered.reply) (shows_what_is_asked (operator-of journal) Request.Books (books-clear journal) refl).answered)
