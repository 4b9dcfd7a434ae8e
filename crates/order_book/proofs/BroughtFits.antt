-- What the machine brings can be noted.
use Rattle.std.proofs.Common.{None, Option, Some, ap, false, is_none, is_some, length, refl, subst, sym, true, ℕ, ◌&&◌, ◌∙◌, ◌≡◌}
use Rattle.std.proofs.lemmas.Bool.{false≢true, leb-false}
use Rattle.std.specs.List.{list_any, position}
use Rattle.std.specs.Option.{option_map_or}
use Rattle.std.specs.Prelude.{nat_le}
use Rattle.agent_events.specs.Events.{Event, event_of, order_request, request_of}
use Rattle.agent_events.specs.declared.event.EventKind.{EventKind}
use Rattle.agent_events.specs.declared.event.Source.{Source}
use Rattle.agent_events.specs.declared.order.Order.{Order}
use Rattle.agent_events.specs.declared.order.OrderRow.{OrderRow}
use Rattle.agent_events.specs.declared.reply.Refusal.{Refusal}
use Rattle.agent_events.specs.declared.request.Request.{Request}
use Rattle.agent_events.specs.declared.verdict.Caller.{Caller}
use Rattle.agent_events.specs.declared.verdict.Verdict.{Verdict}
use Rattle.order_book.specs.Books.{begins_new_name, is_new_order}
use Rattle.order_book.specs.FitsNext.{FitsNext, FreshFits, LawfulFits}
use Rattle.register_laws.proofs.AnswersByCases.{asks}
use Rattle.register_laws.proofs.Choosing.{not_when}
use Rattle.register_laws.proofs.KeepsLimits.{event-brings}
use Rattle.register_laws.proofs.NoIdentityTwice.{ref_parts}
use Rattle.register_laws.proofs.NothingBefore.{begins-by, known_order, last-brought}
use Rattle.register_laws.proofs.RulesByName.{not_broken}
use Rattle.register_laws.specs.Lawful.{own_at}
use Rattle.register_machine.specs.journal.Choices.{first_some}
use Rattle.register_machine.specs.journal.Journals.{Journal}
use Rattle.register_machine.specs.journal.Lawful.{IsLawful}
use Rattle.register_machine.specs.pricing.CorrectedOrders.{order_named, orders_of}
use Rattle.register_machine.specs.rules.Identities.{brings_reference, has_reference, reference_of}
use Rattle.register_machine.specs.rules.InOrder.{Rule, broken_rule, first_rules}
use Rattle.register_machine.specs.rules.Limits.{brings_event}
use Rattle.register_machine.specs.rules.Situations.{Situation, event_at}
use Rattle.register_machine.specs.run.Verdicts.{due_now, repeats, verdict_by_event, verdict_by_place, verdict_by_right, verdict_by_rule, verdict}

-- an order whose reference no event brings is new
new-order : (journal : Journal) (order : Order) → list_any (brings_reference (order.account, order.ref_no)) journal ≡ false → is_new_order journal order ≡ true
new-order journal order new = by_found (order_named (orders_of journal) order.account order.ref_no) refl
  where
    by_found : (found : Option OrderRow) → order_named (orders_of journal) order.account order.ref_no ≡ found → is_none found ≡ true
    by_found None e = refl
    by_found (Some row) e = absurd (false≢true (sym new ∙ known_order journal order.account order.ref_no (ap is_some e)))

new-name : (journal : Journal) (now : ℕ) (caller : Caller) (kind : EventKind) → option_map_or (has_reference (own_at journal now caller)) (reference_of (request_of kind)) false ≡ false → begins_new_name journal kind ≡ true
new-name journal now caller (EventKind.Order placed) free = by_source placed.source free
  where
    by_source : (from : Source) → option_map_or (has_reference (own_at journal now caller)) (reference_of (order_request from placed.receipt placed.order)) false ≡ false → is_new_order journal placed.order ≡ true
    by_source Source.Direct h = new-order journal placed.order h
    by_source Source.Dealer h = new-order journal placed.order h
new-name journal now caller (EventKind.Enter form) free = new-order journal form.order free
new-name journal now caller _ free = refl

pub clear-fits : (journal : Journal) (now : ℕ) (caller : Caller) (kind : EventKind) (moment : ℕ) → IsLawful journal → broken_rule (own_at journal now caller) (request_of kind) ≡ None → FitsNext journal (record { moment = moment; kind = kind })
clear-fits journal now caller kind moment lawful clear = record {
  fits = record {
    new = new-name journal now caller kind (ref_parts situation (request_of kind) clear).0;
    untouched = begins-by journal now caller kind lawful (not_broken situation (request_of kind) clear Rule.RefUsed);
  };
  few = leb-false 100000000 (length journal)
      (ap (λ is. is && nat_le 100000000 (length journal)) (sym (event-brings kind))
      ∙ not_when (brings_event (request_of kind) && nat_le 100000000 (length journal)) Refusal.JournalFull (not_broken situation (request_of kind) clear Rule.JournalFull));
}
  where
    situation : Situation
    situation = own_at journal now caller

-- what the machine brings breaks no rule, and is of the kind that the request asks for
pub record Brings (situation : Situation) (request : Request) (event : Event) : Type 0 where
  pub kind : EventKind
  pub clear : broken_rule situation request ≡ None
  pub brought : event_of request situation.now (due_now situation request) ≡ Some kind
  pub same : event_at situation kind ≡ event

pub fresh-brought : (situation : Situation) (request : Request) (event : Event) → verdict situation request ≡ Verdict.Fresh event → Brings situation request event
fresh-brought situation request event = by_right (first_some (first_rules situation request))
  where
    by_event : broken_rule situation request ≡ None → (brought : Option EventKind) → event_of request situation.now (due_now situation request) ≡ brought → verdict_by_event situation brought ≡ Verdict.Fresh event → Brings situation request event
    by_event clear None brings fresh = cc
    by_event clear (Some kind) brings fresh = record { kind = kind; clear = clear; brought = brings; same = fresh-event fresh }
      where
        fresh-event : Verdict.Fresh (event_at situation kind) ≡ Verdict.Fresh event → event_at situation kind ≡ event
        fresh-event e = cc

    by_rule : (broken : Option Refusal) → broken_rule situation request ≡ broken → verdict_by_rule situation request broken ≡ Verdict.Fresh event → Brings situation request event
    by_rule (Some refusal) is fresh = cc
    by_rule None is fresh = by_event is (event_of request situation.now (due_now situation request)) refl fresh

    by_place : (place : Option ℕ) → verdict_by_place situation request place ≡ Verdict.Fresh event → Brings situation request event
    by_place (Some place) fresh = cc
    by_place None fresh = by_rule (broken_rule situation request) refl fresh

    by_right : (refused : Option Refusal) → verdict_by_right situation request refused ≡ Verdict.Fresh event → Brings situation request event
    by_right (Some refusal) fresh = cc
    by_right None fresh = by_place (position (repeats request) situation.journal) fresh

pub fresh_fits : (journal : Journal) (now : ℕ) (caller : Caller) (request : Request) (event : Event) → FreshFits journal now caller request event
fresh_fits journal now caller request event lawful fresh =
    let situation = own_at journal now caller in
    let is = fresh-brought situation request event fresh in
    subst (FitsNext journal) is.same
    (clear-fits journal now caller is.kind now lawful (ap (broken_rule situation) (asks request now (due_now situation request) is.kind is.brought) ∙ is.clear))

pub lawful_fits : (journal : Journal) (event : Event) → LawfulFits journal event
lawful_fits journal event lawful =
    let last = last-brought journal event lawful in
    clear-fits journal event.moment last.1.caller event.kind event.moment last.0 last.1.clear
